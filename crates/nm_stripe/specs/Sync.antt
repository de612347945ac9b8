-- What a sync, a flush and a promotion answer.
use Rattle.std.specs.Prelude.{◌≡◌, ℕ, Some}
use Rattle.nm_leg.specs.Leg.{LegType}
use Rattle.nm_rules.specs.declared.refusal.Refusal.{Refusal}
use Rattle.nm_rules.specs.declared.refusal.Refusal.TheVariants.{Fault}
use Rattle.nm_rules.specs.Promote.{Promotes, LosesInPromote}
use Rattle.nm_rules.specs.State.{StripeState}
use Rattle.nm_rules.specs.Sync.{Synchronizes, LosesInFlush, LosesInSync, FailsInSync, sync_cause}
use Rattle.nm_stripe.specs.declared.sync.Promotion.{Promotion}
use Rattle.nm_stripe.specs.declared.sync.Promotion.TheVariants.{InSync, LegLost}
use Rattle.nm_stripe.specs.declared.sync.Syncing.{Syncing}
use Rattle.nm_stripe.specs.declared.sync.Syncing.TheVariants.{Synced, LegLost as SyncLost}

-- a promotion of this leg, with its answer
abbrev pub EndsJoining : {L : Type 0} → LegType L → StripeState L → StripeState L → ℕ → Promotion
    → Type 0
EndsJoining type old new leg InSync = Promotes type old new leg
EndsJoining type old new leg (LegLost gone) = (gone ≡ leg) × LosesInPromote type old new leg

-- a sync of this leg, with its answer
abbrev pub Syncs : {L : Type 0} → LegType L → StripeState L → StripeState L → ℕ → Syncing → Type 0
Syncs type old new leg Synced = Synchronizes type old new leg
Syncs type old new leg (SyncLost gone) = (gone ≡ leg) × LosesInSync type old new leg

-- a flush of this leg, with its answer
abbrev pub FlushesLeg : {L : Type 0} → LegType L → StripeState L → StripeState L → ℕ → Syncing
    → Type 0
FlushesLeg type old new leg Synced = Synchronizes type old new leg
FlushesLeg type old new leg (SyncLost gone) = (gone ≡ leg) × LosesInFlush type old new leg

-- a sync or a flush that is refused: for its cause, which changes nothing; or because the only leg
-- in sync failed
pub data RefusesSync {L : Type 0} (type : LegType L) (old new : StripeState L) (leg : ℕ)
    (refusal : Refusal) : Type 0 where
  ForCause : sync_cause old leg ≡ Some refusal → new ≡ old → RefusesSync type old new leg refusal
  ForFault : refusal ≡ Fault → FailsInSync type old new leg → RefusesSync type old new leg refusal
