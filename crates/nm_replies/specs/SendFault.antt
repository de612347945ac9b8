-- The refusals of a writer of replies: their numbers and their texts.
use Rattle.std.specs.Prelude.{ℕ, List, ◌++◌, codes, decimal}
use Rattle.nm_replies.specs.declared.send_fault.SendFault.{SendFault}
use Rattle.nm_replies.specs.declared.send_fault.SendFault.TheVariants.{Device, Failed}

-- the number of a refusal
abbrev pub fault_number : SendFault → ℕ
fault_number (Device sent) = 1
fault_number Failed = 2

-- the text of a refusal
abbrev pub fault_text : SendFault → List ℕ
fault_text (Device sent) = codes "a write failed after " ++ decimal sent ++ codes " bytes"
fault_text Failed = codes "an earlier write failed"
