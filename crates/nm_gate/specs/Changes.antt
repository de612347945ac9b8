-- What a save's begin and end, and the clearing of marks, do to a stripe and its bounds.
use Rattle.std.specs.Prelude.{◌≡◌, ℕ, ◌<◌, Bool, true, false, not, ◌&&◌, ◌||◌, List}
use Rattle.std.specs.Prelude.{length, replicate, Option, None, Some, slice_index_or}
use Rattle.nm_leg.specs.Leg.{LegType}
use Rattle.nm_rules.specs.State.{StripeState}
use Rattle.nm_gate.specs.declared.leg_claims.LegClaims.{LegClaims}
use Rattle.nm_gate.specs.Claims.{HasMarks, has, is_current_leg, is_listed_by, legs_where}
use Rattle.nm_gate.specs.Claims.{superblock_of}
use Rattle.nm_gate.specs.Durable.{Durable, is_lacking, is_listed, is_named}
use Rattle.nm_gate.specs.Moves.{AllLeave, Gated, GatedRuns, Move}
use Rattle.nm_gate.specs.Saves.{Resaves}

-- the bounds once a save with these claims has begun: what the old superblock or the new one may
-- say, and what both surely say; the marks stay
abbrev pub widened : LegClaims → Durable → Durable
widened claims d = record d {
  named = legs_where (λ leg. is_named leg d || has leg claims.in_sync);
  listed = legs_where (λ leg. is_listed leg d && is_listed_by claims leg);
  lacking = legs_where (λ leg. is_lacking leg d || has leg claims.partial);
}

-- the claims may be said of this leg, once steps, and marks that were cleared, came between the
-- begin and the end of a save: they are within the bounds, and a leg in sync that was listed
-- still is
abbrev pub may_say : {L : Type 0} → StripeState L → Durable → LegClaims → ℕ → Bool
may_say stripe d claims leg =
    let named : Bool = is_named leg d || is_current_leg stripe leg in
    (not (has leg claims.in_sync) || named)
    && ((not (has leg claims.partial) || (is_lacking leg d || named))
    && (not (is_current_leg stripe leg && is_listed leg d) || is_listed_by claims leg))

-- A save with these claims and marks may end: they may be said of each leg, and the marks are there
-- that the superblock surely has.
pub record MayEnd {L : Type 0} (stripe : StripeState L) (d : Durable) (claims : LegClaims)
    (marked : List Bool) : Type 0 where
  pub legs : (leg : ℕ) → leg < 8 → may_say stripe d claims leg ≡ true
  pub marks : HasMarks (Some d) marked

-- the bounds once it has ended: they are what it says, with as many marks as before, and a save
-- that could not be done is made good
pub record Ends (claims : LegClaims) (marked : List Bool) (old new : Durable) : Type 0 where
  pub after : new ≡ superblock_of claims new.marked old
  pub marks : (span : ℕ) → span < length old.marked
      → slice_index_or new.marked span false ≡ slice_index_or marked span false
  pub count : length new.marked ≡ length old.marked

-- the bounds once a save could not be done
abbrev pub failed : Durable → Durable
failed d = record d { broken = true }

-- the bounds once nothing is marked
abbrev pub cleared : Durable → Durable
cleared d = record d { marked = replicate (length d.marked) false }

-- with a superblock, what it may say changes as a save may change it; with none there is none still
abbrev pub Resaved : {L : Type 0} → StripeState L → (old new : Option Durable) → Type 0
Resaved stripe None None = Unit {0}
Resaved stripe (Some d) (Some e) = Resaves stripe d e
Resaved stripe old new = ⊥

-- moves lead from one to the other, of which none begins a write or stops the stripe
abbrev pub AreMoves : {L : Type 0} → LegType L → (old new : Gated L) → Type 0
AreMoves {L} type old new =
    (moves : List (Move L)) × GatedRuns type moves old new × ((block : ℕ) → AllLeave block moves)

-- so they do where there is a superblock; with none the stripe stays as it is
abbrev pub Leads : {L : Type 0} → LegType L → (old : StripeState L) → Option Durable
    → (new : StripeState L) → Option Durable → Type 0
Leads type old None new None = new ≡ old
Leads type old (Some d) new (Some e) =
    AreMoves type (record { stripe = old; durable = d }) (record { stripe = new; durable = e })
Leads type old durable new next = ⊥
