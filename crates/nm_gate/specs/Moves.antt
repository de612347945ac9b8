-- Moves of a stripe behind the gate: steps that may be done, looks, saves, and spans that are
-- unmarked.
use Rattle.std.specs.Prelude.{◌≡◌, ◌⊎◌, ℕ, ◌<◌, true, false, List, [], ◌∷◌, Option}
use Rattle.nm_leg.specs.Leg.{Leg, LegType}
use Rattle.nm_rules.specs.State.{StripeState}
use Rattle.nm_rules.specs.declared.refusal.Refusal.TheVariants.{AlreadyOut}
use Rattle.nm_stripe.specs.declared.answer.Answer.{Answer}
use Rattle.nm_stripe.specs.declared.answer.Answer.TheVariants.{Synced, Refused}
use Rattle.nm_stripe.specs.declared.step.Step.{Step}
use Rattle.nm_stripe.specs.declared.step.Step.TheVariants.{Flush, Sync}
use Rattle.nm_stripe.specs.Flush.{LeavesBlock}
use Rattle.nm_stripe.specs.Run.{MayBeAsked, NoneHalted, StepOf}
use Rattle.nm_gate.specs.Durable.{Durable}
use Rattle.nm_gate.specs.Gate.{Allows, is_marked_at}
use Rattle.nm_gate.specs.Held.{HoldsDurably, NoneOn}
use Rattle.nm_gate.specs.Looking.{LooksAt}
use Rattle.nm_gate.specs.Saves.{IsCovered, Resaves}

-- a stripe, and what the durable superblock may say of it
pub record Gated (L : Type 0) : Type 0 where
  pub stripe : StripeState L
  pub durable : Durable

-- a step with its answer, a look at a leg and what it found, a save that leaves these bounds, or a
-- change of them that unmarks spans
pub data Move (L : Type 0) : Type 0 where
  Does : Step L → Answer L → Move L
  Looks : (leg block : ℕ) → Option (List ℕ) → Move L
  Saves : Durable → Move L
  Clears : Durable → Move L

-- A block whose span may be unmarked: no record of a write is of it, and each leg that is covered
-- holds the array there durably.
pub record IsEqualAt {L : Type 0} (model : L → Leg) (stripe : StripeState L) (d : Durable)
    (block : ℕ) : Type 0 where
  pub none : NoneOn block stripe.records
  pub holds : (leg : ℕ) → IsCovered stripe d leg → HoldsDurably model stripe leg block

-- spans are unmarked, and nothing else changes; the blocks in them may be
pub record Unmarks {L : Type 0} (model : L → Leg) (stripe : StripeState L) (old new : Durable)
    : Type 0 where
  pub after : new ≡ record old { marked = new.marked }
  pub equal : (block : ℕ) → block < stripe.place.blocks → is_marked_at block stripe new ≡ false
      → is_marked_at block stripe old ≡ true → IsEqualAt model stripe old block

-- an allowed step is done, and what the superblock may say stays
pub record DoesStep {L : Type 0} (type : LegType L) (step : Step L) (answer : Answer L)
    (old new : Gated L) : Type 0 where
  pub allowed : Allows old.durable old.stripe step
  pub asked : MayBeAsked type.model old.stripe step
  pub does : StepOf type step answer old.stripe new.stripe
  pub durable : new.durable ≡ old.durable

-- a move leads from one to the other
abbrev pub MoveOf : {L : Type 0} → LegType L → Move L → (old new : Gated L) → Type 0
MoveOf type (Does step answer) old new = DoesStep type step answer old new
MoveOf type (Looks leg block found) old new =
    LooksAt type leg block found old.stripe new.stripe × (new.durable ≡ old.durable)
MoveOf type (Saves saved) old new =
    Resaves old.stripe old.durable saved × (new.stripe ≡ old.stripe) × (new.durable ≡ saved)
MoveOf type (Clears cleared) old new =
    Unmarks type.model old.stripe old.durable cleared × (new.stripe ≡ old.stripe)
    × (new.durable ≡ cleared)

-- the moves do, one after the other
abbrev pub GatedRuns : {L : Type 0} → LegType L → List (Move L) → (old new : Gated L) → Type 0
GatedRuns type [] old new = new ≡ old
GatedRuns {L} type (move ∷ moves) old new =
    (mid : Gated L) × MoveOf type move old mid × GatedRuns type moves mid new

-- the move begins no write of this block, and does not stop the stripe
abbrev pub Leaves : {L : Type 0} → ℕ → Move L → Type 0
Leaves block (Does step answer) = LeavesBlock block step answer × NoneHalted (answer ∷ [])
Leaves block (Looks leg at found) = Unit {0}
Leaves block (Saves saved) = Unit {0}
Leaves block (Clears cleared) = Unit {0}

-- none of the moves does
abbrev pub AllLeave : {L : Type 0} → ℕ → List (Move L) → Type 0
AllLeave block [] = Unit {0}
AllLeave block (move ∷ moves) = Leaves block move × AllLeave block moves

-- the move synced or flushed this leg, or found it out
abbrev pub SyncsOne : {L : Type 0} → ℕ → Move L → Type 0
SyncsOne leg (Does (Sync other) Synced) = other ≡ leg
SyncsOne leg (Does (Sync other) (Refused AlreadyOut handed)) = other ≡ leg
SyncsOne leg (Does (Flush other) Synced) = other ≡ leg
SyncsOne leg (Does (Flush other) (Refused AlreadyOut handed)) = other ≡ leg
SyncsOne leg move = ⊥

-- one of the moves did
abbrev pub SomeSyncs : {L : Type 0} → ℕ → List (Move L) → Type 0
SomeSyncs leg [] = ⊥
SomeSyncs leg (move ∷ moves) = SyncsOne leg move ⊎ SomeSyncs leg moves

-- the moves are a flush: for each of so many legs one of them did. A sync that lost its leg is not
-- enough: the leg may still be called in sync
abbrev pub IsGatedFlush : {L : Type 0} → ℕ → List (Move L) → Type 0
IsGatedFlush legs moves = (leg : ℕ) → leg < legs → SomeSyncs leg moves

-- none of the moves stops the stripe
abbrev pub NoneStop : {L : Type 0} → List (Move L) → Type 0
NoneStop [] = Unit {0}
NoneStop (Does step answer ∷ moves) = NoneHalted (answer ∷ []) × NoneStop moves
NoneStop (Looks leg block found ∷ moves) = NoneStop moves
NoneStop (Saves saved ∷ moves) = NoneStop moves
NoneStop (Clears cleared ∷ moves) = NoneStop moves
