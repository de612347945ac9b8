-- The refusals of bytes that do not parse as a header: their numbers and their texts.
use Rattle.std.specs.Prelude.{ℕ, List, codes}
use Rattle.nm_wire.specs.declared.wire_fault.WireFault.{WireFault}
use Rattle.nm_wire.specs.declared.wire_fault.WireFault.TheVariants.{Short, Magic}

-- the number of a refusal
abbrev pub fault_number : WireFault → ℕ
fault_number Short = 1
fault_number Magic = 2

-- the text of a refusal
abbrev pub fault_text : WireFault → List ℕ
fault_text Short = codes "too few bytes for the header"
fault_text Magic = codes "wrong magic number"
