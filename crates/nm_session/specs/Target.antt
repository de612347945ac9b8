-- The calls of a target with their answers.
use Rattle.std.specs.Prelude.{ℕ, List, Result, codes}
use Rattle.nm_session.specs.declared.target_fault.TargetFault.{TargetFault}
use Rattle.nm_session.specs.declared.target_fault.TargetFault.TheVariants.{Memory, Io, Full}

-- what a target answers a call
abbrev pub Answer : Type 0
Answer = Result (Unit {0}) TargetFault

-- a call with its answer: from which byte on; the bytes that a read gave or a write was given, or
-- how many bytes it is about
pub data TargetCall : Type 0 where
  Reads : (offset : ℕ) → (bytes : List ℕ) → (answer : Answer) → TargetCall
  Writes : (offset : ℕ) → (bytes : List ℕ) → (answer : Answer) → TargetCall
  Zeroes : (offset : ℕ) → (count : ℕ) → (answer : Answer) → TargetCall
  Flushes : (answer : Answer) → TargetCall
  Syncs : (offset : ℕ) → (count : ℕ) → (answer : Answer) → TargetCall

-- the error that a client is answered with ("Error values")
abbrev pub error_of : TargetFault → ℕ
error_of Memory = 12
error_of Io = 5
error_of Full = 28

-- the text of a fault
abbrev pub target_fault_text : TargetFault → List ℕ
target_fault_text Memory = codes "out of memory"
target_fault_text Io = codes "the target failed"
target_fault_text Full = codes "no space left"
