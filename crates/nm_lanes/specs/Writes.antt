-- What a write of some bytes does: one begin with its data and one claim for each run.
use Rattle.std.specs.Prelude.{◌≡◌, ℕ, ◌==◌, if◌then◌else◌, List, [], ◌∷◌, ◌++◌}
use Rattle.nm_geometry.specs.Geometry.{Geometry, stripe_of, block_in_stripe}
use Rattle.nm_stripe.specs.declared.answer.Answer.TheVariants.{Begun}
use Rattle.nm_stripe.specs.declared.step.Step.TheVariants.{Begin, Claim}
use Rattle.nm_lanes.specs.declared.call_error.CallError.{CallError}
use Rattle.nm_lanes.specs.declared.run_write.RunWrite.{RunWrite}
use Rattle.nm_lanes.specs.declared.write_fault.WriteFault.{WriteFault}
use Rattle.nm_lanes.specs.declared.write_fault.WriteFault.TheVariants.{Memory, Io}
use Rattle.nm_lanes.specs.Done.{Done}
use Rattle.nm_lanes.specs.Ends.{HasTried}
use Rattle.nm_lanes.specs.Lists.{MirrorStep, steps_in, Does}
use Rattle.nm_lanes.specs.Steps.{IsWritten}

-- the step began the write of this run, with its data, in the stripe of its first block
pub record BeginsRun {L : Type 0} (shape : Geometry) (write : RunWrite) (ticket : ℕ)
    (d : MirrorStep L) : Type 0 where
  pub stripe : d.stripe ≡ stripe_of write.run.block shape
  pub step : d.done.step ≡ Begin (block_in_stripe write.run.block shape) write.bytes
  pub begun : d.done.answer ≡ Begun ticket

-- the steps began the write of this run, and claimed it under the ticket that it had
pub record WritesRun {L : Type 0} (shape : Geometry) (write : RunWrite)
    (begun claimed : MirrorStep L) : Type 0 where
  pub ticket : ℕ
  pub begins : BeginsRun shape write ticket begun
  pub stripe : claimed.stripe ≡ stripe_of write.run.block shape
  pub claims : claimed.done.step ≡ Claim ticket
  pub written : IsWritten claimed.done.answer

-- one write for each run, in order, each claimed before the next one begins
abbrev pub WritesEach : {L : Type 0} → Geometry → List RunWrite → List (MirrorStep L) → Type 0
WritesEach shape [] [] = Unit {0}
WritesEach shape (write ∷ writes) (begun ∷ (claimed ∷ own)) =
    WritesRun shape write begun claimed × WritesEach shape writes own
WritesEach shape writes own = ⊥

-- each run was written once, in order
pub record HasWritten {L D : Type 0} (follows : D → List (Done L) → D → Type 0)
    (shape : Geometry) (writes : List RunWrite) (lanes : List D × List D) : Type 0 where
  pub own : List (MirrorStep L)
  pub does : Does follows lanes.0 lanes.1 own
  pub each : WritesEach shape writes own

-- those of the writes that lie in this stripe
abbrev pub writes_in : Geometry → ℕ → List RunWrite → List RunWrite
writes_in shape stripe [] = []
writes_in shape stripe (write ∷ writes) =
    if stripe_of write.run.block shape == stripe
    then write ∷ writes_in shape stripe writes else writes_in shape stripe writes

-- the first of the runs were written once, in order, and at most a begin of the next one was done
abbrev pub WritesSome : {L : Type 0} → Geometry → List RunWrite → List (MirrorStep L) → Type 0
WritesSome shape writes [] = Unit {0}
WritesSome shape (write ∷ writes) (begun ∷ []) =
    (ticket : ℕ) × BeginsRun shape write ticket begun
WritesSome shape (write ∷ writes) (begun ∷ (claimed ∷ own)) =
    WritesRun shape write begun claimed × WritesSome shape writes own
WritesSome shape writes own = ⊥

-- of a stripe's steps these are the first writes of its runs
abbrev pub WritesSomeIn : {L : Type 0} → Geometry → List RunWrite → ℕ → List (Done L) → Type 0
WritesSomeIn shape writes stripe own =
    WritesSome shape (writes_in shape stripe writes) (steps_in stripe own)

-- one of the runs lies in this stripe
pub record LiesIn (shape : Geometry) (writes : List RunWrite) (stripe : ℕ) : Type 0 where
  pub first : List RunWrite
  pub write : RunWrite
  pub rest : List RunWrite
  pub writes_are : writes ≡ first ++ write ∷ rest
  pub stripe_is : stripe ≡ stripe_of write.run.block shape

-- in each stripe the first of its runs were written once, in order, and at most a begin of its next
-- one was done, until steps in some of the stripes ended the call
pub record HasWrittenSome {L D : Type 0} (follows : D → List (Done L) → D → Type 0)
    (shape : Geometry) (writes : List RunWrite) (lanes : List D × List D) (cause : CallError)
    : Type 0 where
  pub stripe : LiesIn shape writes cause.stripe
  pub tried :
      HasTried follows (λ stripe own. WritesSomeIn shape writes stripe own) lanes cause

-- what is left by a write that failed: nothing was done, or some of it
abbrev pub FailsWriting : {L D : Type 0} → (D → List (Done L) → D → Type 0) → Geometry
    → List RunWrite → List D × List D → WriteFault → Type 0
FailsWriting follows shape writes lanes Memory = lanes.1 ≡ lanes.0
FailsWriting follows shape writes lanes (Io cause) =
    HasWrittenSome follows shape writes lanes cause
