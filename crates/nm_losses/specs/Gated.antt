-- Losses of power behind the gate: a leg that comes back gets the spans that the gate gives it.
use Rattle.std.specs.Prelude.{◌≡◌, ℕ, ◌<◌, List, [], ◌∷◌, None, Some, length, slice_get}
use Rattle.nm_leg.specs.Leg.{Leg, LegType}
use Rattle.nm_rules.specs.Array.{contents_of}
use Rattle.nm_rules.specs.Attach.{Returns}
use Rattle.nm_rules.specs.Invariant.{HasLegs}
use Rattle.nm_rules.specs.Reopening.{Marks}
use Rattle.nm_rules.specs.State.{StripeState}
use Rattle.nm_stripe.specs.declared.step.Step.TheVariants.{Return}
use Rattle.nm_stripe.specs.Run.{NoneHalted}
use Rattle.nm_gate.specs.Gate.{Allows}
use Rattle.nm_gate.specs.Moves as gate
use Rattle.nm_gate.specs.Moves.{Clears, Does as GateDoes, Gated, Looks as GateLooks, Saves}
use Rattle.nm_gate.specs.Returning.{suspects}
use Rattle.nm_gate.specs.Survive.{EqualOutside, Stands}
use Rattle.nm_losses.specs.Crashing.{CrashesTo}
use Rattle.nm_rules.specs.Losing.{CoversLoss, with_part}
use Rattle.nm_losses.specs.Moves.{ComesBack, Does, IsNoAttach, Looks, LossyRuns, Move}
use Rattle.nm_losses.specs.Moves.{answers_of}

-- a move behind the gate, or a leg that was the first of these, and comes back as the second
pub data GatedMove (L : Type 0) : Type 0 where
  Goes : gate.Move L → GatedMove L
  Recovers : ℕ → L → L → Marks → GatedMove L

-- the move attaches no leg
abbrev pub AttachesNone : {L : Type 0} → gate.Move L → Type 0
AttachesNone (GateDoes step answer) = IsNoAttach step
AttachesNone (GateLooks leg block found) = Unit {0}
AttachesNone (Saves saved) = Unit {0}
AttachesNone (Clears cleared) = Unit {0}

-- The leg crashed to this part while it was out, and returns as the gate lets it, with the marks of
-- the spans in which the superblock has it lack something.
pub record RecoversOf {L : Type 0} (type : LegType L) (leg : ℕ) (held part : L) (marks : Marks)
    (old new : Gated L) : Type 0 where
  pub there : leg < length old.stripe.legs
  pub held_is : slice_get old.stripe.legs leg ≡ Some held
  pub crash : CrashesTo type.model held part
  pub marks_are : marks ≡ suspects leg (Some old.durable)
  pub allowed : Allows old.durable old.stripe (Return leg marks)
  pub returns : Returns type.model (with_part old.stripe leg part) new.stripe leg marks
  pub durable : new.durable ≡ old.durable

-- a move leads from one to the other
abbrev pub GatedMoveOf : {L : Type 0} → LegType L → GatedMove L → (old new : Gated L) → Type 0
GatedMoveOf type (Goes move) old new = gate.MoveOf type move old new × AttachesNone move
GatedMoveOf type (Recovers leg held part marks) old new =
    RecoversOf type leg held part marks old new

-- the moves do, one after the other
abbrev pub LossyGatedRuns : {L : Type 0} → LegType L → List (GatedMove L) → (old new : Gated L)
    → Type 0
LossyGatedRuns type [] old new = new ≡ old
LossyGatedRuns {L} type (move ∷ moves) old new =
    (mid : Gated L) × GatedMoveOf type move old mid × LossyGatedRuns type moves mid new

-- what the moves are of the stripe alone
abbrev pub moves_of : {L : Type 0} → List (GatedMove L) → List (Move L)
moves_of [] = []
moves_of (Goes (GateDoes step answer) ∷ moves) = Does step answer ∷ moves_of moves
moves_of (Goes (GateLooks leg block found) ∷ moves) = Looks leg block found ∷ moves_of moves
moves_of (Goes (Saves saved) ∷ moves) = moves_of moves
moves_of (Goes (Clears cleared) ∷ moves) = moves_of moves
moves_of (Recovers leg held part marks ∷ moves) = ComesBack leg part marks ∷ moves_of moves

-- The moves are of those that the other laws speak of, whatever the crashes took: so the marks that
-- the gate gives cover it. And outside marked spans legs stay equal, as without losses.
pub record GateCovers {L : Type 0} (type : LegType L) (moves : List (GatedMove L))
    (old new : Gated L) : Type 0 where
  pub runs : LossyRuns type (moves_of moves) old.stripe new.stripe
  pub stands : Stands type new.stripe new.durable
  pub equal : EqualOutside type new.stripe new.durable

-- So it is after any moves.
abbrev pub GateCoversLosses : {L : Type 0} → LegType L → Type 0
GateCoversLosses {L} type =
    (moves : List (GatedMove L)) (old new : Gated L)
    → Stands type old.stripe old.durable → EqualOutside type old.stripe old.durable
    → LossyGatedRuns type moves old new → NoneHalted (answers_of (moves_of moves))
    → GateCovers type moves old new

-- Without a superblock the gate gives all spans, which cover whatever a leg lost.
abbrev pub EverywhereCoversLosses : {L : Type 0} → (L → Leg) → Type 0
EverywhereCoversLosses {L} model =
    (stripe : StripeState L) (leg : ℕ) (part : L) → HasLegs model stripe
    → leg < length stripe.legs
    → length (model part).contents ≡ length (contents_of model stripe.legs leg)
    → CoversLoss model stripe leg part (suspects leg None)
