-- The numbers and texts of refusals.
use Rattle.std.specs.Prelude.{ℕ, List, codes}
use Rattle.nm_lanes.specs.declared.write_fault.WriteFault.{WriteFault}
use Rattle.nm_lanes.specs.declared.write_fault.WriteFault.TheVariants.{Memory as NoMemory}
use Rattle.nm_lanes.specs.declared.write_fault.WriteFault.TheVariants.{Io as EndedBy}
use Rattle.nm_mirror.specs.declared.refused.Refused.{Refused}
use Rattle.nm_mirror.specs.declared.refused.Refused.TheVariants.{Memory, Io, TooMany, PassesMissing}
use Rattle.nm_mirror.specs.declared.refused.Refused.TheVariants.{Uneven}

-- the number of a refusal
abbrev pub number_of : {L : Type 0} → Refused L → ℕ
number_of Memory = 1
number_of (Io cause) = 2
number_of TooMany = 3
number_of PassesMissing = 4
number_of (Uneven end) = 5

-- the text of a refusal
abbrev pub refused_text : {L : Type 0} → Refused L → List ℕ
refused_text Memory = codes "out of memory"
refused_text (Io cause) = codes "a stripe cannot go on"
refused_text TooMany = codes "the mirror has made all of its passes"
refused_text PassesMissing = codes "a pass is missing"
refused_text (Uneven end) = codes "a stripe's history has had other entries than its passes"

-- the refusal that a write's fault is
abbrev pub refused_for : {L : Type 0} → WriteFault → Refused L
refused_for NoMemory = Memory
refused_for (EndedBy cause) = Io cause
