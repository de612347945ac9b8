-- Why a leg that may have lost power comes back by a return: by an attach it joins as if it had lost
-- nothing, and is current where it does not hold the array. So it is of two legs with one block, which
-- the second has not synced.
use Rattle.std.proofs.Common.{◌≡◌, ℕ, zero, suc, ◌<◌, true, false, List, [], ◌∷◌, Some, length, refl, sym, ap, arith, get_or, slice_get}
use Rattle.std.proofs.lemmas.Option.{same_Some}
use Rattle.nm_replay.specs.declared.block.Block.{Block}
use Rattle.nm_choice.specs.declared.leg_state.LegState.{LegState}
use Rattle.nm_choice.specs.declared.leg_state.LegState.TheVariants.{InSync, Out}
use Rattle.nm_choice.specs.declared.policy.Policy.TheVariants.{RoundRobin}
use Rattle.nm_leg.specs.Leg.{Leg, LegType, block_of, leg_type}
use Rattle.nm_regions.specs.LegFlags.{LegRegions, has_behind, no_leg}
use Rattle.nm_rules.specs.declared.at.At.{At}
use Rattle.nm_rules.specs.Attach.{Attaches, after_attach}
use Rattle.nm_rules.specs.Reopening.{MayReopen, Reopening, reopened}
use Rattle.nm_rules.specs.Sound.{Holds, IsSound}
use Rattle.nm_rules.specs.State.{StripeState, is_current, is_out}
use Rattle.nm_rules.specs.Array.{contents_of}
use Rattle.nm_rules.proofs.ReopeningLemmas.{reopened-keeps}
use Rattle.nm_losses.specs.Laws.{Stands}
use Rattle.nm_rules.specs.Losing.{HoldsStill, LosesPower, has_unsynced, with_part}

-- two blocks
abbrev newer : Block
newer = block_of []

abbrev older : Block
older = block_of (0 ∷ [])

-- a leg that has synced the newer, one that has not, and what a loss of its power leaves of that
abbrev sure : Leg
sure = record { contents = newer ∷ []; durable = newer ∷ []; unsynced = false ∷ []; faults = 0 }

abbrev pub unsure : Leg
unsure = record { contents = newer ∷ []; durable = older ∷ []; unsynced = true ∷ []; faults = 0 }

abbrev pub rest : Leg
rest = record { contents = older ∷ []; durable = older ∷ []; unsynced = true ∷ []; faults = 0 }

abbrev pub legs : List Leg
legs = sure ∷ unsure ∷ []

abbrev states : List LegState
states = InSync ∷ Out ∷ []

abbrev joined : LegRegions
joined = record { out = false; behind = false ∷ [] }

abbrev gone : LegRegions
gone = record { out = true; behind = false ∷ [] }

abbrev flags : List LegRegions
flags = joined ∷ gone ∷ []

abbrev pub place : At
place = record { stripe = 0; blocks = 1; region = 1; chunk = 1; history = 0 }

abbrev pub two : Reopening Leg
two = record { legs = legs; states = states; flags = flags; master = 0; first = 0; policy = RoundRobin }

abbrev pub held : LegType Leg
held = leg_type (λ (leg : Leg). leg) true

abbrev pub stripe : StripeState Leg
stripe = reopened place two

one-long : (j : ℕ) (leg : Leg) → slice_get legs j ≡ Some leg → length leg.contents ≡ 1
one-long zero leg is = ap (λ (l : Leg). length l.contents) (sym (same_Some sure leg is))
one-long (suc zero) leg is = ap (λ (l : Leg). length l.contents) (sym (same_Some unsure leg is))
one-long (suc (suc j)) leg is = cc

one-region : (j : ℕ) (d : LegRegions) → j < 2 → length (get_or flags j d).behind ≡ 1
one-region zero d inside = refl
one-region (suc zero) d inside = refl
one-region (suc (suc j)) d inside = absurd (omega (arith, inside))

outs : (j : ℕ) → (get_or flags j no_leg).out ≡ is_out (get_or states j Out)
outs zero = refl
outs (suc zero) = refl
outs (suc (suc j)) = refl

nowhere : (j : ℕ) → has_behind (get_or flags j no_leg) ≡ false
nowhere zero = refl
nowhere (suc zero) = refl
nowhere (suc (suc j)) = refl

agree : (leg block : ℕ) → leg < 2 → slice_get (contents_of held.model legs leg) block ≡ slice_get (contents_of held.model legs 0) block
agree zero block inside = refl
agree (suc zero) block inside = refl
agree (suc (suc leg)) block inside = absurd (omega (arith, inside))

may : MayReopen held.model place two
may = record {
  sizes = record { some_blocks = omega arith; most_blocks = omega arith; some_region = omega arith; most_region = omega arith; some_legs = omega arith; most_legs = omega arith };
  some_chunk = omega arith;
  lengths = one-long;
  state_each = refl;
  flags_each = refl;
  regions = λ j d inside. one-region j d inside;
  master = refl;
  outs = outs;
  in_sync = λ j in_sync. nowhere j;
}

pub stands : Stands held stripe
stands = record { keeps = reopened-keeps held place two may (λ is_honest leg block there inside clear. agree leg block there); runs = refl }

still : (block : ℕ) → has_unsynced held.model legs 1 block ≡ false → HoldsStill held.model legs 1 rest block
still zero synced_there = cc
still (suc block) synced_there = refl

loses : LosesPower held.model stripe 1 rest
loses = record { out = refl; long = refl; marks = refl; kept = λ block clear synced_there. still block synced_there }

abbrev after : StripeState Leg
after = after_attach (with_part stripe 1 rest) 1

attaches : Attaches (with_part stripe 1 rest) after 1
attaches = record { no_cause = refl; after = refl }

lacks : Holds held.model after 1 0 → ⊥
lacks holds =
    let e : Some older ≡ Some newer = holds in
    let long : 1 ≡ 0 = ap (λ (b : Block). length b.0) (same_Some older newer e) in
    omega (arith, long)

unsound : IsSound held after → ⊥
unsound sound =
    let there : 1 < 2 = omega arith in
    let inside : 0 < 1 = omega arith in
    lacks (sound.current refl refl 1 0 there inside refl refl)

-- a stripe that stands, a loss of power, an attach: and the stripe is not sound
pub record AttachCosts : Type 0 where
  pub stands : Stands held stripe
  pub loses : LosesPower held.model stripe 1 rest
  pub attaches : Attaches (with_part stripe 1 rest) after 1
  pub current : is_current 1 0 after ≡ true
  pub lacks : Holds held.model after 1 0 → ⊥
  pub unsound : IsSound held after → ⊥

pub attach-costs : AttachCosts
attach-costs = record { stands = stands; loses = loses; attaches = attaches; current = refl; lacks = lacks; unsound = unsound }
