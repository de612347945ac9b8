-- What a read of some bytes does.
use Rattle.std.specs.Prelude.{◌≡◌, ℕ, ◌*◌, ◌==◌, if◌then◌else◌, List, [], ◌∷◌, ◌++◌, length}
use Rattle.std.specs.Prelude.{take, drop}
use Rattle.nm_geometry.specs.Geometry.{Geometry, stripe_of, block_in_stripe}
use Rattle.nm_stripe.specs.declared.answer.Answer.{Answer}
use Rattle.nm_stripe.specs.declared.answer.Answer.TheVariants.{Value}
use Rattle.nm_stripe.specs.declared.step.Step.TheVariants.{Read}
use Rattle.nm_lanes.specs.declared.call_error.CallError.{CallError}
use Rattle.nm_lanes.specs.declared.run.Run.{Run}
use Rattle.nm_lanes.specs.Done.{Done}
use Rattle.nm_lanes.specs.Ends.{HasTried}
use Rattle.nm_lanes.specs.Lists.{MirrorStep, steps_in, Does}
use Rattle.nm_lanes.specs.Runs.{run_blocks}

-- a read found its blocks
abbrev pub IsValue : {L : Type 0} → Answer L → Type 0
IsValue (Value value) = Unit {0}
IsValue answer = ⊥

-- the bytes that a read found
abbrev pub value_bytes : {L : Type 0} → Answer L → List ℕ
value_bytes (Value value) = value.bytes
value_bytes answer = []

-- those of its bytes that are the run's
abbrev pub run_bytes : {L : Type 0} → Run → Answer L → List ℕ
run_bytes run answer = take run.len (drop run.from (value_bytes answer))

-- the step read the run's blocks in its first block's stripe, into a room for them, and found them
pub record ReadsRun {L : Type 0} (shape : Geometry) (run : Run) (d : MirrorStep L)
    : Type 0 where
  pub stripe : d.stripe ≡ stripe_of run.block shape
  pub room : List ℕ
  pub long : length room ≡ 512 * run_blocks run
  pub step : d.done.step ≡ Read (block_in_stripe run.block shape) room
  pub value : IsValue d.done.answer

-- one read for each run, in order
abbrev pub ReadsEach : {L : Type 0} → Geometry → List Run → List (MirrorStep L) → Type 0
ReadsEach shape [] [] = Unit {0}
ReadsEach shape (run ∷ runs) (d ∷ own) =
    ReadsRun shape run d × ReadsEach shape runs own
ReadsEach shape runs own = ⊥

-- the bytes that the reads found at the runs, one run after the other
abbrev pub bytes_found : {L : Type 0} → List Run → List (MirrorStep L) → List ℕ
bytes_found (run ∷ runs) (d ∷ own) =
    run_bytes run d.done.answer ++ bytes_found runs own
bytes_found runs own = []

-- each run was read once, in order, and the target holds the bytes that were found
pub record HasRead {L D : Type 0} (follows : D → List (Done L) → D → Type 0) (shape : Geometry)
    (runs : List Run) (lanes : List D × List D) (target : List ℕ) : Type 0 where
  pub own : List (MirrorStep L)
  pub does : Does follows lanes.0 lanes.1 own
  pub each : ReadsEach shape runs own
  pub filled : target ≡ bytes_found runs own

-- those of the runs that lie in this stripe
abbrev pub runs_in : Geometry → ℕ → List Run → List Run
runs_in shape stripe [] = []
runs_in shape stripe (run ∷ runs) =
    if stripe_of run.block shape == stripe
    then run ∷ runs_in shape stripe runs else runs_in shape stripe runs

-- the first of the runs were read once, in order
abbrev pub ReadsSome : {L : Type 0} → Geometry → List Run → List (MirrorStep L) → Type 0
ReadsSome shape runs [] = Unit {0}
ReadsSome shape (run ∷ runs) (d ∷ own) =
    ReadsRun shape run d × ReadsSome shape runs own
ReadsSome shape runs own = ⊥

-- of a stripe's steps these are the first reads of its runs
abbrev pub ReadsSomeIn : {L : Type 0} → Geometry → List Run → ℕ → List (Done L) → Type 0
ReadsSomeIn shape runs stripe own =
    ReadsSome shape (runs_in shape stripe runs) (steps_in stripe own)

-- one of the runs lies in this stripe
pub record RunIn (shape : Geometry) (runs : List Run) (stripe : ℕ) : Type 0 where
  pub first : List Run
  pub run : Run
  pub rest : List Run
  pub runs_are : runs ≡ first ++ run ∷ rest
  pub stripe_is : stripe ≡ stripe_of run.block shape

-- in each stripe the first of its runs were read once, in order, until steps in some of the
-- stripes ended the call
pub record HasReadSome {L D : Type 0} (follows : D → List (Done L) → D → Type 0)
    (shape : Geometry) (runs : List Run) (lanes : List D × List D) (cause : CallError)
    : Type 0 where
  pub stripe : RunIn shape runs cause.stripe
  pub tried :
      HasTried follows (λ stripe own. ReadsSomeIn shape runs stripe own) lanes cause
