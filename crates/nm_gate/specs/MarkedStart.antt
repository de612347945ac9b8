-- A start that opens a stripe by marked spans, as nm_stripe does, goes by the superblock.
use Rattle.std.specs.Prelude.{◌≡◌, ◌≢◌, ◌⊎◌, ℕ, ◌<◌, true, List, length, slice_index_or}
use Rattle.nm_choice.specs.declared.policy.Policy.{Policy}
use Rattle.nm_leg.specs.Leg.{LegType}
use Rattle.nm_rules.specs.declared.leg_opening.LegOpening.TheVariants.{Missing, Partial}
use Rattle.nm_rules.specs.Reopening.{AgreeWhereClear, MayReopen, OpeningPlan, is_in_marked}
use Rattle.nm_rules.specs.Reopening.{planned}
use Rattle.nm_gate.specs.Durable.{Durable, is_lacking, is_marked, is_named}
use Rattle.nm_gate.specs.Moves.{Gated}
use Rattle.nm_gate.specs.Restart.{AreLeft, GoesBySuperblock}
use Rattle.nm_gate.specs.Survive.{EqualOutside, Stands}

-- The plan is made of what the superblock says: it calls the master in sync; each other leg that
-- opens behind in marked spans alone it calls in sync, or says to lack no more; and the plan has
-- each of its marks.
pub record IsPlanBy (superblock : Durable) (plan : OpeningPlan) : Type 0 where
  pub named : is_named plan.master superblock ≡ true
  pub partial : (leg : ℕ) → leg ≢ plan.master → slice_index_or plan.others leg Missing ≡ Partial
      → (is_named leg superblock ≡ true) ⊎ (is_lacking leg superblock ≡ true)
  pub marked : (region : ℕ) → is_marked region superblock ≡ true
      → is_in_marked plan.marks region ≡ true

-- Then the legs that a crash left agree wherever they are not behind, as `Stripe::open_marked` asks
-- of honest ones; and the stripe that it opens is one of a start that goes by the superblock.
pub record MarkedStartsAreRight {L : Type 0} (type : LegType L) : Type 0 where
  pub agree : (old : Gated L) (legs : List L) (plan : OpeningPlan) (first : ℕ) (policy : Policy)
      → Stands type old.stripe old.durable → EqualOutside type old.stripe old.durable
      → AreLeft type.model old.stripe legs → IsPlanBy old.durable plan
      → length plan.others ≡ length legs → plan.master < length legs
      → AgreeWhereClear type.model old.stripe.place
      (planned old.stripe.place legs plan first policy)
  pub goes : (old : Gated L) (legs : List L) (plan : OpeningPlan) (first : ℕ) (policy : Policy)
      → AreLeft type.model old.stripe legs → IsPlanBy old.durable plan
      → MayReopen type.model old.stripe.place (planned old.stripe.place legs plan first policy)
      → GoesBySuperblock type.model old.stripe old.durable
      (planned old.stripe.place legs plan first policy)
