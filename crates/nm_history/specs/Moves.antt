-- What each move does to a stripe and to what the durable superblock may say of it.
use Rattle.std.specs.Prelude.{◌≡◌, ◌⊎◌, ℕ, ◌^◌, true, IsTrue, Option, None, Some}
use Rattle.nm_leg.specs.Leg.{LegType}
use Rattle.nm_rules.specs.Invariant.{Keeps}
use Rattle.nm_rules.specs.Opening.{opened}
use Rattle.nm_rules.specs.State.{StripeState, is_out, leg_state, next_number}
use Rattle.nm_stripe.specs.Run.{MayBeAsked, StepOf}
use Rattle.nm_stripe.specs.declared.answer.Answer.{Answer}
use Rattle.nm_stripe.specs.declared.step.Step.{Step}
use Rattle.nm_stripe.specs.declared.step.Step.TheVariants.{Attach, Return}
use Rattle.nm_gate.specs.declared.gated_stripe.GatedStripe.{GatedStripe}
use Rattle.nm_gate.specs.Durable.{Durable, is_named}
use Rattle.nm_gate.specs.Gate.{IsAllowed}
use Rattle.nm_gate.specs.Looking.{LooksAt}
use Rattle.nm_gate.specs.Moves.{Unmarks}
use Rattle.nm_gate.specs.Returning.{suspects}
use Rattle.nm_gate.specs.Saves.{Resaves}
use Rattle.nm_gate.specs.Survive.{Stands}
use Rattle.nm_history.specs.declared.transition.Move.{Move}
use Rattle.nm_history.specs.declared.transition.Move.TheVariants.{Opens, Does, Looks, Saves}
use Rattle.nm_history.specs.declared.transition.Move.TheVariants.{Clears, Loses}
use Rattle.nm_history.specs.Lost.{IsReturnOf, Recovers}

-- the superblock, where there is one, may call no leg in sync but this
abbrev pub NamesOnly : ℕ → Option Durable → Type 0
NamesOnly leg None = Unit {0}
NamesOnly leg (Some d) = (other : ℕ) → is_named other d ≡ true → other ≡ leg

-- A stripe that stopped opens anew, at its place, from the leg that it stopped on, with the next
-- number. What the superblock may say stays, and calls no other leg in sync.
pub record OpensAgain {L : Type 0} (type : LegType L) (old new : GatedStripe L) : Type 0 where
  pub stopped : old.stripe.stopped ≡ true
  pub alone : NamesOnly old.stripe.master old.durable
  pub keeps : Keeps type new.stripe
  pub stripe : new.stripe ≡ opened old.stripe.place new.stripe.legs (2 ^ old.stripe.master)
      (next_number old.stripe) new.stripe.policy
  pub durable : new.durable ≡ old.durable

-- a leg joins again with the marks that the gate gives it, and never as if it had lost nothing
abbrev pub JoinsMarked : {L : Type 0} → Option Durable → Step L → Type 0
JoinsMarked durable (Attach leg) = ⊥
JoinsMarked durable (Return leg marks) = marks ≡ suspects leg durable
JoinsMarked durable step = Unit {0}

-- a step that the gate lets pass is done, and what the superblock may say stays
pub record DoesStep {L : Type 0} (type : LegType L) (step : Step L) (answer : Answer L)
    (old new : GatedStripe L) : Type 0 where
  pub allowed : IsAllowed old.durable old.stripe step
  pub marked : JoinsMarked old.durable step
  pub asked : MayBeAsked type.model old.stripe step
  pub does : StepOf type step answer old.stripe new.stripe
  pub durable : new.durable ≡ old.durable

-- there is a superblock before and after, and what it may say changes so
abbrev pub Changes : (Durable → Durable → Type 0) → (old new : Option Durable) → Type 0
Changes so (Some d) (Some e) = so d e
Changes so old new = ⊥

-- only what the superblock may say changes, and does so
pub record ChangesBounds {L : Type 0} (so : Durable → Durable → Type 0) (old new : GatedStripe L)
    : Type 0 where
  pub stripe : new.stripe ≡ old.stripe
  pub durable : Changes so old.durable new.durable

-- Marks are cleared, and nothing else changes. Where the legs are honest, and the stripe goes on
-- behind the gate, they hold the same, durably, where marks go.
pub record ClearsMarks {L : Type 0} (type : LegType L) (stripe : StripeState L)
    (old new : Durable) : Type 0 where
  pub after : new ≡ record old { marked = new.marked }
  pub equal : IsTrue type.honest → Stands type stripe old → Unmarks type.model stripe old new

-- the move leads from one to the other, where these legs had lost power
abbrev pub MoveOf : {L : Type 0} → LegType L → (lost : ℕ → Type 0) → Move L
    → (old new : GatedStripe L) → Type 0
MoveOf type lost Opens old new = OpensAgain type old new
MoveOf type lost (Does step answer) old new =
    DoesStep type step answer old new
    ⊎ (IsReturnOf lost step × Recovers type step answer old new)
MoveOf type lost (Looks leg block found) old new =
    LooksAt type leg block found old.stripe new.stripe × (new.durable ≡ old.durable)
MoveOf type lost Saves old new = ChangesBounds (Resaves old.stripe) old new
MoveOf type lost Clears old new = ChangesBounds (ClearsMarks type old.stripe) old new
MoveOf type lost (Loses leg) old new = (is_out (leg_state leg old.stripe) ≡ true) × (new ≡ old)
