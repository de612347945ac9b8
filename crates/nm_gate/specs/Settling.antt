-- Which stripe may settle, and what the flushes do by which it settles.
use Rattle.std.specs.Prelude.{◌≡◌, ℕ, ◌||◌, Bool, true, false, List, [], ◌∷◌, length}
use Rattle.nm_leg.specs.Leg.{LegType}
use Rattle.nm_rules.specs.Invariant.{Keeps}
use Rattle.nm_rules.specs.State.{StripeState}
use Rattle.nm_stripe.specs.declared.answer.Answer.{Answer}
use Rattle.nm_stripe.specs.declared.answer.Answer.TheVariants.{Synced}
use Rattle.nm_stripe.specs.declared.step.Step.TheVariants.{Flush}
use Rattle.nm_stripe.specs.Run.{NoneHalted, StepOf}
use Rattle.nm_gate.specs.Durable.{Durable, is_lacking, is_named}
use Rattle.nm_gate.specs.Gate.{IsInSync}
use Rattle.nm_gate.specs.Moves.{AllLeave, Does, GatedRuns, IsGatedFlush, Move, SyncsOne}

-- a stripe whose marks may be cleared once each leg is synced: no write has a record, and each leg
-- is in sync that the superblock may call in sync, or may say to lack marked spans alone
pub record MaySettle {L : Type 0} (stripe : StripeState L) (d : Durable) : Type 0 where
  pub whole : d.broken ≡ false
  pub none : length stripe.records ≡ 0
  pub covered : (leg : ℕ) → (is_named leg d || is_lacking leg d) ≡ true → IsInSync leg stripe

-- a flush of a leg, with its answer: where the leg was synced, or is out, no more than legs
-- changed; where it failed the leg was not synced
pub record TriesSync {L : Type 0} (type : LegType L) (leg : ℕ) (went : Bool)
    (old new : StripeState L) : Type 0 where
  pub answer : Answer L
  pub is : StepOf type (Flush leg) answer old new
  pub goes : NoneHalted (answer ∷ [])
  pub synced : went ≡ true → SyncsOne leg (Does (Flush leg) answer)
  pub stays : went ≡ true → new ≡ record old { legs = new.legs }
  pub failed : went ≡ false → answer ≡ Synced → ⊥

-- the last step was a flush that failed
abbrev pub EndsInFailure : {L : Type 0} → LegType L → StripeState L → Type 0
EndsInFailure {L} type new = (leg : ℕ) × (mid : StripeState L) × TriesSync type leg false mid new

-- moves that synced each of so many legs, or found it out, and changed no more than legs
pub record SyncsLegs {L : Type 0} (type : LegType L) (d : Durable) (count : ℕ)
    (old new : StripeState L) : Type 0 where
  pub moves : List (Move L)
  pub runs : GatedRuns type moves (record { stripe = old; durable = d })
      (record { stripe = new; durable = d })
  pub leaves : (block : ℕ) → AllLeave block moves
  pub flush : IsGatedFlush count moves
  pub stays : new ≡ record old { legs = new.legs }
  pub legs : length new.legs ≡ length old.legs

-- A stripe whose marks may be cleared: in an earlier state they might be once each leg is synced,
-- and since then each leg was synced, and nothing else was done.
pub record MayClear {L : Type 0} (type : LegType L) (now : StripeState L) (d : Durable)
    : Type 0 where
  pub before : StripeState L
  pub keeps : Keeps type before
  pub may : MaySettle before d
  pub synced : SyncsLegs type d (length before.legs) before now
