-- What a save says of a stripe's legs, and which marks it has.
use Rattle.std.specs.Prelude.{◌≡◌, ℕ, ◌/◌, Bool, true, false, not, ◌&&◌, ◌||◌, ◌==◌, nat_lt}
use Rattle.std.specs.Prelude.{List, [], ◌∷◌, map, length, replicate, Option, None, Some}
use Rattle.std.specs.Prelude.{slice_index_or}
use Rattle.nm_choice.specs.Choice.{is_in_sync}
pub use Rattle.nm_geometry.specs.LegSets.{has, legs_where}
use Rattle.nm_rules.specs.State.{StripeState, is_joining, leg_state, left}
use Rattle.nm_stripe.specs.Copy.{region_to_copy}
use Rattle.nm_gate.specs.declared.leg_claims.LegClaims.{LegClaims}
use Rattle.nm_gate.specs.Durable.{Durable, is_lacking, is_named}

-- the leg is one of the stripe's, and in sync
abbrev pub is_current_leg : {L : Type 0} → StripeState L → ℕ → Bool
is_current_leg stripe leg =
    nat_lt leg (length stripe.legs) && is_in_sync (leg_state leg stripe)

-- the leg joins, and nothing is left to copy to it: it may be called in sync next
abbrev pub is_candidate : {L : Type 0} → StripeState L → ℕ → Bool
is_candidate stripe leg =
    nat_lt leg (length stripe.legs)
    && (is_joining (leg_state leg stripe) && (left leg stripe == 0))

-- the region lies in one of these marked spans of so many regions; no region needs a mark
abbrev pub lies_marked : ℕ → List Bool → Option ℕ → Bool
lies_marked span marked None = true
lies_marked span marked (Some region) = slice_index_or marked (region / span) false

-- The leg may be said to lack no more than these marked spans: it is not in sync, the superblock
-- may call it in sync or say so already, some of its blocks are not behind, as all are of a leg
-- that failed in a sync, and what a copy to it goes on with is marked.
abbrev pub is_partial : {L : Type 0} → StripeState L → Durable → List Bool → ℕ → Bool
is_partial stripe d marked leg =
    nat_lt leg (length stripe.legs)
    && (not (is_in_sync (leg_state leg stripe))
    && ((is_named leg d || is_lacking leg d)
    && (nat_lt (left leg stripe) stripe.place.blocks
    && lies_marked d.span marked (region_to_copy leg 0 stripe))))

-- what a save with these marks says of the legs
abbrev pub claims_of : {L : Type 0} → StripeState L → Durable → List Bool → LegClaims
claims_of stripe d marked = record {
  in_sync = legs_where (is_current_leg stripe);
  candidates = legs_where (is_candidate stripe);
  partial = legs_where (is_partial stripe d marked);
}

-- what it says where there is no superblock
abbrev pub no_claims : LegClaims
no_claims = record {
  in_sync = replicate 8 false;
  candidates = replicate 8 false;
  partial = replicate 8 false;
}

-- the leg is called in sync, or about to be
abbrev pub is_listed_by : LegClaims → ℕ → Bool
is_listed_by claims leg = has leg claims.in_sync || has leg claims.candidates

-- the superblock that makes these claims and has these marks; its save was done
abbrev pub superblock_of : LegClaims → List Bool → Durable → Durable
superblock_of claims marked d = record {
  named = claims.in_sync;
  listed = legs_where (is_listed_by claims);
  lacking = claims.partial;
  marked = marked;
  span = d.span;
  broken = false;
}

-- the superblock says this of the legs already
pub record Says (claims : LegClaims) (d : Durable) : Type 0 where
  pub named : d.named ≡ claims.in_sync
  pub listed : d.listed ≡ legs_where (is_listed_by claims)
  pub lacking : d.lacking ≡ claims.partial

-- the marks that the superblock surely has
abbrev pub marks_of : Option Durable → List Bool
marks_of None = []
marks_of (Some d) = d.marked

-- these marks have each that the superblock surely has
abbrev pub HasMarks : Option Durable → List Bool → Type 0
HasMarks durable marked =
    (span : ℕ) → slice_index_or (marks_of durable) span false ≡ true
    → slice_index_or marked span false ≡ true
