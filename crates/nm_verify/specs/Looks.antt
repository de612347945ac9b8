-- What looks at two legs found, each in a hold of the stripe.
use Rattle.std.specs.Prelude.{◌≡◌, ◌≢◌, ℕ, ◌*◌, ◌<◌, Bool, true, false, List, take}
use Rattle.nm_leg.specs.Leg.{LegType, blocks_of}
use Rattle.nm_rules.specs.RunCalls.{ReadsRunAt}
use Rattle.nm_rules.specs.State.{StripeState, is_quiet}
use Rattle.nm_verify.specs.Pairs.{HasNoPair, IsHere, IsPair}
use Rattle.nm_verify.specs.Runs.{run_length}
use Rattle.nm_verify.specs.declared.cursor.Cursor.{Cursor}
use Rattle.nm_verify.specs.declared.looks.Begun.{Begun}
use Rattle.nm_verify.specs.declared.looks.Begun.TheVariants.{Ends, Held}
use Rattle.nm_verify.specs.declared.looks.Half.{Half}
use Rattle.nm_verify.specs.declared.looks.Seen.{Seen}
use Rattle.nm_verify.specs.declared.looks.Seen.TheVariants.{NoRun, NoLeg, Written, Unread}
use Rattle.nm_verify.specs.declared.looks.Seen.TheVariants.{Same, Differs}

-- a read of so many blocks of a leg in sync, at the beginning of these bytes, while no write is
-- under way in their region
pub record Reads {L : Type 0} (type : LegType L) (succeeded : Bool) (leg block count : ℕ)
    (stripes : StripeState L × StripeState L) (bytes : List ℕ) : Type 0 where
  pub here : IsHere leg stripes.0
  pub quiet : is_quiet block stripes.0 ≡ true
  pub reads : ReadsRunAt type succeeded leg block (blocks_of (take (512 * count) bytes))
      stripes.0.legs stripes.1.legs

-- the run there, and the two legs that are compared there next
pub record IsHalf {L : Type 0} (at : Cursor) (half : Half) (stripe : StripeState L)
    : Type 0 where
  pub pair : IsPair at.leg half.first half.second stripe
  pub some : 0 < half.count
  pub whole : half.count ≡ run_length stripe.place at.block
  pub tickets : half.tickets ≡ stripe.tickets

-- both legs are in sync, no write is under way in the region, and none began since
pub record IsUntouched {L : Type 0} (at : Cursor) (half : Half) (stripe : StripeState L)
    : Type 0 where
  pub first : IsHere half.first stripe
  pub second : IsHere half.second stripe
  pub some : 0 < half.count
  pub whole : half.count ≡ run_length stripe.place at.block
  pub tickets : half.tickets ≡ stripe.tickets
  pub quiet : is_quiet at.block stripe ≡ true

-- what the look at the first leg found, with the stripe before and after it
abbrev pub Begins : {L : Type 0} → LegType L → Cursor → StripeState L × StripeState L → List ℕ
    → Begun → Type 0
Begins type at stripes held (Ends NoRun) =
    (run_length stripes.0.place at.block ≡ 0) × (stripes.1 ≡ stripes.0)
Begins type at stripes held (Ends NoLeg) =
    (0 < run_length stripes.0.place at.block) × HasNoPair at.leg stripes.0
    × (stripes.1 ≡ stripes.0)
Begins type at stripes held (Ends (Written leg)) =
    (0 < run_length stripes.0.place at.block)
    × ((first : ℕ) × IsPair at.leg first leg stripes.0)
    × (is_quiet at.block stripes.0 ≡ false) × (stripes.1 ≡ stripes.0)
Begins type at stripes held (Ends (Unread failed leg)) =
    IsPair at.leg failed leg stripes.0
    × Reads type false failed at.block (run_length stripes.0.place at.block) stripes held
Begins type at stripes held (Ends seen) = ⊥
Begins type at stripes held (Held half) =
    IsHalf at half stripes.0 × Reads type true half.first at.block half.count stripes held

-- what the look at the second leg found, with the stripe before and after it
abbrev pub Sees : {L : Type 0} → LegType L → Cursor × Half → StripeState L × StripeState L
    → List ℕ → List ℕ → Seen → Type 0
Sees type places stripes held bytes (Written leg) =
    (leg ≡ places.1.second) × (IsUntouched places.0 places.1 stripes.0 → ⊥)
    × (stripes.1 ≡ stripes.0)
Sees type places stripes held bytes (Unread failed leg) =
    (failed ≡ places.1.second) × (leg ≡ places.1.second)
    × IsUntouched places.0 places.1 stripes.0
    × Reads type false leg places.0.block places.1.count stripes bytes
Sees type places stripes held bytes (Same leg) =
    (leg ≡ places.1.second) × IsUntouched places.0 places.1 stripes.0
    × Reads type true leg places.0.block places.1.count stripes bytes
    × (take (512 * places.1.count) bytes ≡ take (512 * places.1.count) held)
Sees type places stripes held bytes (Differs leg) =
    (leg ≡ places.1.second) × IsUntouched places.0 places.1 stripes.0
    × Reads type true leg places.0.block places.1.count stripes bytes
    × (take (512 * places.1.count) bytes ≢ take (512 * places.1.count) held)
Sees type places stripes held bytes seen = ⊥
