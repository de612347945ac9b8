-- A leg that lost power while it was out, and comes back.
use Rattle.std.specs.Prelude.{◌≡◌, ℕ, ◌/◌, ◌<◌, Bool, true, false, List, length}
use Rattle.std.specs.Prelude.{slice_get, slice_index_or, slice_set}
use Rattle.nm_leg.specs.Leg.{Leg}
use Rattle.nm_rules.specs.Array.{contents_of}
use Rattle.nm_rules.specs.Attach.{Returns}
use Rattle.nm_rules.specs.Invariant.{is_clear}
use Rattle.nm_rules.specs.Reopening.{Marks, is_in_marked}
use Rattle.nm_rules.specs.State.{StripeState, is_out, leg_state}
use Rattle.nm_rules.specs.Unsynced.{unsynced_at}

-- whether the leg may have something at this block that it has not synced
abbrev pub has_unsynced : {L : Type 0} → (L → Leg) → List L → (leg block : ℕ) → Bool
has_unsynced model legs leg block =
    slice_index_or (unsynced_at model (slice_get legs leg)) block false

-- this part holds at the block what the leg held
abbrev pub HoldsStill : {L : Type 0} → (L → Leg) → List L → (leg : ℕ) → L → (block : ℕ) → Type 0
HoldsStill model legs leg part block =
    slice_get (model part).contents block ≡ slice_get (contents_of model legs leg) block

-- The leg, which is out, lost power, and this part is what is left of it: as long, with the same
-- marks, and with the same bytes at each block where it was not behind and has no mark. Elsewhere
-- it has any bytes, and of what is durable nothing is asked.
pub record LosesPower {L : Type 0} (model : L → Leg) (stripe : StripeState L) (leg : ℕ) (part : L)
    : Type 0 where
  pub out : is_out (leg_state leg stripe) ≡ true
  pub long : length (model part).contents ≡ length (contents_of model stripe.legs leg)
  pub marks : (model part).unsynced ≡ unsynced_at model (slice_get stripe.legs leg)
  pub kept : (block : ℕ) → is_clear leg block stripe ≡ true
      → has_unsynced model stripe.legs leg block ≡ false
      → HoldsStill model stripe.legs leg part block

-- what the leg lost lies in marked spans, or where it was behind
abbrev pub CoversLoss : {L : Type 0} → (L → Leg) → StripeState L → (leg : ℕ) → L → Marks → Type 0
CoversLoss model stripe leg part marks =
    (block : ℕ) → is_clear leg block stripe ≡ true
    → is_in_marked marks (block / stripe.place.region) ≡ false
    → HoldsStill model stripe.legs leg part block

-- the stripe with this part in the leg's place
abbrev pub with_part : {L : Type 0} → StripeState L → (leg : ℕ) → L → StripeState L
with_part stripe leg part = record stripe { legs = slice_set stripe.legs leg part }

-- The leg comes back as what a loss of its power left of it, and returns with these marks.
pub record ReturnsLost {L : Type 0} (model : L → Leg) (old new : StripeState L) (leg : ℕ)
    (part : L) (marks : Marks) : Type 0 where
  pub there : leg < length old.legs
  pub loses : LosesPower model old leg part
  pub covers : CoversLoss model old leg part marks
  pub returns : Returns model (with_part old leg part) new leg marks
