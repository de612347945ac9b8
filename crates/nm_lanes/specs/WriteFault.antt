-- The numbers and texts of the faults for which a write is not done.
use Rattle.std.specs.Prelude.{ℕ, List, codes}
use Rattle.nm_lanes.specs.declared.write_fault.WriteFault.{WriteFault}
use Rattle.nm_lanes.specs.declared.write_fault.WriteFault.TheVariants.{Memory, Io}

-- the number of each fault
abbrev pub fault_number : WriteFault → ℕ
fault_number Memory = 1
fault_number (Io cause) = 2

-- the text of each fault
abbrev pub fault_text : WriteFault → List ℕ
fault_text Memory = codes "out of memory"
fault_text (Io cause) = codes "a stripe cannot go on"
