-- How a run ends: what was read, what was written, and what is reported.
use Rattle.std.specs.Prelude.{◌≡◌, ℕ, List, Option, Result, Ok, Err, ◌⊎◌}
use Rattle.std.specs.Io.KnownBytes.{Appends, Keeps}
use Rattle.nm_script_lib.specs.declared.load.Load.{Load}
use Rattle.nm_script_lib.specs.declared.mirror_line.MirrorLine.{MirrorLine}
use Rattle.nm_script_lib.specs.declared.step.Step.{Step}
use Rattle.nm_script_lib.specs.declared.run_error.RunError.{RunError}
use Rattle.nm_script_lib.specs.declared.run_error.RunError.TheVariants.{BadStep, Memory, Input}
use Rattle.nm_script_lib.specs.declared.run_error.RunError.TheVariants.{Output}
use Rattle.nm_script_lib.specs.Grammar.{IsScript}
use Rattle.nm_script_lib.specs.BadLine.{NamesLine}
use Rattle.nm_script_lib.specs.Streams.{Change, AppendsPrefix, ReadsAll}
use Rattle.nm_script_lib.specs.RunErrors.{status_of, error_line}
use Rattle.nm_script_lib.specs.Runs.{WholeRun, PartOfRun, Writes}

-- The whole input is this script.
pub record ReadsScript (old new : Option (List ℕ)) (m : MirrorLine) (loads : List Load)
    (master : Option ℕ) (steps : List Step) : Type 0 where
  pub text : List ℕ
  pub read : ReadsAll old new text
  pub script : IsScript text m loads master steps

-- The whole input is no script, and this line is named.
pub record ReadsNone (old new : Option (List ℕ)) (line : ℕ) : Type 0 where
  pub text : List ℕ
  pub read : ReadsAll old new text
  pub named : NamesLine text line
  pub none : (m : MirrorLine) (loads : List Load) (master : Option ℕ) (steps : List Step)
      → IsScript text m loads master steps → ⊥

-- The input is a script, and of its run this was written.
abbrev pub Wrote : (old new : Option (List ℕ))
    → (MirrorLine → List Load → Option ℕ → List Step → Type 0) → Type 0
Wrote old new Done =
    (m : MirrorLine) × (loads : List Load) × (master : Option ℕ) × (steps : List Step)
    × ReadsScript old new m loads master steps × Done m loads master steps

-- A part of its run's lines was written.
abbrev pub PartDone : (in_old in_new out_old out_new : Option (List ℕ)) → Type 0
PartDone in_old in_new out_old out_new =
    Wrote in_old in_new
    (λ m loads master steps.
    Writes (PartOfRun m loads master steps) (AppendsPrefix out_old out_new))

-- What was read and written, by how the run ended.
abbrev pub Ended : Result (Unit {0}) RunError
    → (in_old in_new out_old out_new : Option (List ℕ)) → Type 0
Ended (Ok done) in_old in_new out_old out_new =
    Wrote in_old in_new
    (λ m loads master steps. Writes (WholeRun m loads master steps) (Appends out_old out_new))
Ended (Err (BadStep line)) in_old in_new out_old out_new =
    ReadsNone in_old in_new line × Keeps out_old out_new
Ended (Err Memory) in_old in_new out_old out_new =
    Keeps out_old out_new ⊎ PartDone in_old in_new out_old out_new
Ended (Err Input) in_old in_new out_old out_new = Keeps out_old out_new
Ended (Err Output) in_old in_new out_old out_new = PartDone in_old in_new out_old out_new

-- The exit status.
abbrev pub exit_status : Result (Unit {0}) RunError → ℕ
exit_status (Ok done) = 0
exit_status (Err error) = status_of error

-- What standard error gets: nothing, or the error's line, as far as it can be written.
abbrev pub IsReported : Result (Unit {0}) RunError → Option (List ℕ) → Option (List ℕ) → Type 0
IsReported (Ok done) old new = Keeps old new
IsReported (Err error) old new = AppendsPrefix old new (error_line error)

-- A run ended, with this exit status.
pub record Ends (status : ℕ) (input out err : Change) : Type 0 where
  pub run_result : Result (Unit {0}) RunError
  pub exits : status ≡ exit_status run_result
  pub ended : Ended run_result input.old input.new out.old out.new
  pub reported : IsReported run_result err.old err.new

-- Why the input was not read as a script.
abbrev pub CannotRead : Option (List ℕ) → Option (List ℕ) → RunError → Type 0
CannotRead old new (BadStep line) = ReadsNone old new line
CannotRead old new Memory = Unit {0}
CannotRead old new Input = Unit {0}
CannotRead old new Output = ⊥
