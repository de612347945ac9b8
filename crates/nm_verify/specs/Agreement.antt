-- All legs in sync of a stripe but one hold the same of a run.
use Rattle.std.specs.Prelude.{◌≡◌, ◌≢◌, ℕ, ◌*◌, ◌<◌, true, false, List, take, IsTrue}
use Rattle.nm_leg.specs.Leg.{LegType, HoldsRun, blocks_of}
use Rattle.nm_rules.specs.Array.{stripe_array}
use Rattle.nm_rules.specs.RunCalls.{ReadsRunAt}
use Rattle.nm_rules.specs.State.{StripeState, is_quiet}
use Rattle.nm_verify.specs.Pairs.{IsHere}
use Rattle.nm_verify.specs.Runs.{run_length}
use Rattle.nm_verify.specs.declared.agreement.Agreed.{Agreed}
use Rattle.nm_verify.specs.declared.cursor.Cursor.{Cursor}

-- a read of this leg gave these bytes of the run that begins at this block
pub record Gives {L : Type 0} (type : LegType L) (leg block : ℕ) (bytes : List ℕ) : Type 0 where
  pub legs : List L × List L
  pub reads : ReadsRunAt type true leg block (blocks_of bytes) legs.0 legs.1

-- each leg in sync but two gave them
abbrev pub AllGive : {L : Type 0} → LegType L → (but : ℕ × ℕ) → (block : ℕ) → StripeState L
    → List ℕ → Type 0
AllGive type but block stripe bytes =
    (k : ℕ) → IsHere k stripe → k ≢ but.0 → k ≢ but.1 → Gives type k block bytes

-- no write is under way in the region of the run there; each leg in sync but this one, which is in
-- sync itself, gave these bytes of the run, and one did. An honest one gave the stripe's array
pub record Agrees {L : Type 0} (type : LegType L) (places : Cursor × ℕ) (stripe : StripeState L)
    (bytes : List ℕ) (agreed : Agreed) : Type 0 where
  pub here : IsHere places.1 stripe
  pub whole : agreed.count ≡ run_length stripe.place places.0.block
  pub tickets : agreed.tickets ≡ stripe.tickets
  pub quiet : is_quiet places.0.block stripe ≡ true
  pub first : ℕ
  pub another : IsHere first stripe × (first ≢ places.1)
  pub first_gives : Gives type first places.0.block (take (512 * agreed.count) bytes)
  pub others : AllGive type (places.1, first) places.0.block stripe
      (take (512 * agreed.count) bytes)
  pub array : IsTrue type.honest → stripe.stopped ≡ false
      → HoldsRun places.0.block (blocks_of (take (512 * agreed.count) bytes))
      (stripe_array type.model stripe)
