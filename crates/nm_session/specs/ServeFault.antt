-- The numbers and the texts of a session's faults.
use Rattle.std.specs.Prelude.{ℕ, List, ◌++◌, codes, decimal}
use Rattle.nm_session.specs.declared.serve_fault.ServeFault.{ServeFault}
use Rattle.nm_session.specs.declared.serve_fault.ServeFault.TheVariants.{Memory, Read, Write}

-- the number of a fault
abbrev pub serve_fault_number : ServeFault → ℕ
serve_fault_number Memory = 1
serve_fault_number Read = 2
serve_fault_number (Write sent) = 3

-- the text of a fault
abbrev pub serve_fault_text : ServeFault → List ℕ
serve_fault_text Memory = codes "out of memory"
serve_fault_text Read = codes "a read failed"
serve_fault_text (Write sent) = codes "a write failed after " ++ decimal sent ++ codes " bytes"
