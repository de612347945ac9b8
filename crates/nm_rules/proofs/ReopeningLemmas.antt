-- A stripe as a start opens it by a superblock keeps what every stripe keeps.
use Rattle.std.proofs.Common.{◌≡◌, ◌≢◌, ⊎_elim, ℕ, zero, suc, ◌+◌, ◌<◌, ◌≤◌, ◌/◌, ◌||◌, arith, length, length-set, Bool, true, false, not, nat_lt, IsTrue, List, [], ◌∷◌, map, replicate, refl, sym, ap, ◌∙◌, subst, slice_get, get_or}
use Rattle.std.proofs.lemmas.Bool.Decides.{nat_tests}
use Rattle.std.proofs.lemmas.List.{get_or-map, get_or_past, length-replicate}
use Rattle.std.specs.List.{list_any}
use Rattle.nm_replay.proofs.Consistency.{consistent-empty}
use Rattle.nm_choice.specs.declared.leg_state.LegState.{LegState}
use Rattle.nm_choice.specs.declared.leg_state.LegState.TheVariants.{InSync, Out}
use Rattle.nm_choice.specs.declared.policy.Policy.{Policy}
use Rattle.nm_leg.specs.Leg.{Leg, LegType}
use Rattle.nm_leg.specs.LegCalls.{EachHas}
use Rattle.nm_regions.specs.LegFlags.{LegRegions, has_behind, is_behind, no_leg, opened_leg}
use Rattle.nm_regions.specs.Sound.{AllHave, AreSizes}
use Rattle.nm_regions.specs.Table.{regions_of}
use Rattle.nm_rules.specs.declared.at.At.{At}
use Rattle.nm_rules.specs.declared.leg_opening.LegOpening.{LegOpening}
use Rattle.nm_rules.specs.declared.leg_opening.LegOpening.TheVariants.{Missing, Partial, Whole}
use Rattle.nm_rules.specs.Array.{contents_of, stripe_array}
use Rattle.nm_rules.specs.Invariant.{HasLegs, Keeps}
use Rattle.nm_rules.specs.Reopening.{AgreeWhereClear, Marks, MayReopen, OpeningPlan, Reopening, is_in_marked, marks_from, planned, reopened, reopened_flags, reopened_leg, reopened_state, reopened_states}
use Rattle.nm_rules.specs.State.{StripeState, is_out}
use Rattle.nm_rules.proofs.ArrayLemmas.{array-at}
use Rattle.nm_rules.proofs.AttachLemmas.{have-set, set-other, set-same}
use Rattle.nm_rules.proofs.OpeningLemmas.{opened-lengths}
use Rattle.nm_rules.proofs.RecordLemmas.{one_or_two}

-- a leg that is clear is not behind
off-clear : (behind : Bool) → (not behind || false) ≡ true → behind ≡ false
off-clear true is = cc
off-clear false is = refl

module _ {L : Type 0} (type : LegType L) (place : At) (r : Reopening L) (may : MayReopen type.model place r) where
  abbrev new : StripeState L
  new = reopened place r

  legs-kept : HasLegs type.model new
  legs-kept = record {
    sizes = may.sizes;
    some_chunk = may.some_chunk;
    states = may.state_each;
    flags = may.flags_each;
    regions = may.regions;
    lengths = λ j within. opened-lengths type.model r.legs place.blocks j may.lengths within;
    master = may.master;
    outs = λ j. may.outs j;
    in_sync = λ j is. may.in_sync j is;
  }

  pub reopened-keeps : (IsTrue type.honest → AgreeWhereClear type.model place r) → Keeps type new
  reopened-keeps agree = record {
    legs = legs-kept;
    records = record { in_order = record { few = omega arith; ascending = tt; whole = tt }; tickets = tt; one_writer = tt; inside = λ t x at. cc; landed = λ t x at. cc; settling = λ is. cc };
    writes = record { owed = λ t x j at. cc; apart = λ t x at. cc; marked = λ t x j at. cc };
    chunk = tt;
    numbers = record { start = r.first; starts = omega arith; numbered = tt; most = omega arith; asked = refl; given = omega arith; below = omega arith; low = tt };
    turn = omega arith;
    consistent = λ is_honest. consistent-empty;
    agrees = λ is_honest runs. record {
      reached = λ t x j within at. cc;
      alike = λ j b within in_blocks none clear. agree is_honest j b within in_blocks (off-clear (is_behind (b / place.region) (get_or r.flags j no_leg)) clear);
      last = λ block. tt;
      unlanded = λ t x at. cc;
      buffer = λ c chunk is_open. cc;
    };
  }

  -- its array is what its master holds
  pub reopened-array : (b : ℕ) → slice_get (stripe_array type.model new) b ≡ slice_get (contents_of type.model r.legs r.master) b
  reopened-array b = (array-at type.model new b).free refl

long-map : {A B : Type 0} (f : A → B) (xs : List A) → length (map f xs) ≡ length xs
long-map f [] = refl
long-map f (x ∷ xs) = ap (λ (n : ℕ). suc n) (long-map f xs)

none-any : (n : ℕ) → list_any (λ behind. behind) (replicate n false) ≡ false
none-any zero = refl
none-any (suc n) = none-any n

pub length-marks : (marks : Marks) (count region : ℕ) → length (marks_from marks count region) ≡ count
length-marks marks zero region = refl
length-marks marks (suc count) region = ap (λ (n : ℕ). suc n) (length-marks marks count (region + 1))

-- each region is marked as its span is
pub marks-at : (marks : Marks) (count region k : ℕ) → k < count → get_or (marks_from marks count region) k false ≡ is_in_marked marks (region + k)
marks-at marks zero region k inside = absurd (omega (arith, inside))
marks-at marks (suc count) region zero inside = ap (λ (i : ℕ). is_in_marked marks i) (let e : region ≡ region + 0 = omega arith in e)
marks-at marks (suc count) region (suc k) inside = marks-at marks count (region + 1) k (omega (arith, inside)) ∙ ap (λ (i : ℕ). is_in_marked marks i) (let e : region + 1 + k ≡ region + suc k = omega arith in e)

module _ (marks : Marks) (regions : ℕ) where
  leg-length : (o : LegOpening) → length (reopened_leg marks regions o).behind ≡ regions
  leg-length Partial = length-marks marks regions 0
  leg-length Whole = length-replicate regions true
  leg-length Missing = length-replicate regions true

  leg-out : (o : LegOpening) → (reopened_leg marks regions o).out ≡ is_out (reopened_state o)
  leg-out Partial = refl
  leg-out Whole = refl
  leg-out Missing = refl

state-apart : (o : LegOpening) → reopened_state o ≢ InSync
state-apart Partial = λ is. cc
state-apart Whole = λ is. cc
state-apart Missing = λ is. cc

module _ (place : At) (plan : OpeningPlan) (inside : plan.master < length plan.others) where
  abbrev regions : ℕ
  regions = regions_of place.blocks place.region

  abbrev other_states : List LegState
  other_states = map reopened_state plan.others

  abbrev other_flags : List LegRegions
  other_flags = map (reopened_leg plan.marks regions) plan.others

  -- how a leg opens: the master; another one; and none past the last
  pub state-master : get_or (reopened_states plan) plan.master Out ≡ InSync
  state-master = set-same other_states plan.master InSync Out (omega (arith, inside, long-map reopened_state plan.others))

  pub state-other : (j : ℕ) → j ≢ plan.master → j < length plan.others → get_or (reopened_states plan) j Out ≡ reopened_state (get_or plan.others j Missing)
  state-other j ne within = set-other other_states plan.master j InSync Out ne ∙ get_or-map reopened_state plan.others j Missing Out within

  state-past : (j : ℕ) → length plan.others ≤ j → get_or (reopened_states plan) j Out ≡ Out
  state-past j past = get_or_past (reopened_states plan) j Out (omega (arith, past, long-map reopened_state plan.others, length-set other_states plan.master InSync))

  pub flags-master : get_or (reopened_flags regions plan) plan.master no_leg ≡ opened_leg regions true
  flags-master = set-same other_flags plan.master (opened_leg regions true) no_leg (omega (arith, inside, long-map (reopened_leg plan.marks regions) plan.others))

  pub flags-other : (j : ℕ) → j ≢ plan.master → j < length plan.others → get_or (reopened_flags regions plan) j no_leg ≡ reopened_leg plan.marks regions (get_or plan.others j Missing)
  flags-other j ne within = set-other other_flags plan.master j (opened_leg regions true) no_leg ne ∙ get_or-map (reopened_leg plan.marks regions) plan.others j Missing no_leg within

  flags-past : (j : ℕ) → length plan.others ≤ j → get_or (reopened_flags regions plan) j no_leg ≡ no_leg
  flags-past j past = get_or_past (reopened_flags regions plan) j no_leg (omega (arith, past, long-map (reopened_leg plan.marks regions) plan.others, length-set other_flags plan.master (opened_leg regions true)))

  outs-as : (j : ℕ) → (get_or (reopened_flags regions plan) j no_leg).out ≡ is_out (get_or (reopened_states plan) j Out)
  outs-as j =
      (elim (nat_lt j (length plan.others)) as (λ b. nat_lt j (length plan.others) ≡ b → (get_or (reopened_flags regions plan) j no_leg).out ≡ is_out (get_or (reopened_states plan) j Out)) [
        | true ↦ λ low. let within : j < length plan.others = grind (arith, nat_tests) in
            ⊎_elim
            (λ same. subst (λ (i : ℕ). (get_or (reopened_flags regions plan) i no_leg).out ≡ is_out (get_or (reopened_states plan) i Out)) (sym same)
            (ap (λ (l : LegRegions). l.out) flags-master ∙ ap (λ (st : LegState). is_out st) (sym state-master)))
            (λ ne.
            ap (λ (l : LegRegions). l.out) (flags-other j ne within) ∙ leg-out plan.marks regions (get_or plan.others j Missing)
            ∙ ap (λ (st : LegState). is_out st) (sym (state-other j ne within)))
            (one_or_two j plan.master)
        | false ↦ λ high. let past : length plan.others ≤ j = grind (arith, nat_tests) in
            ap (λ (l : LegRegions). l.out) (flags-past j past) ∙ ap (λ (st : LegState). is_out st) (sym (state-past j past))
      ]) refl

  -- the master alone is in sync
  pub in_sync-is : (j : ℕ) → get_or (reopened_states plan) j Out ≡ InSync → j ≡ plan.master
  in_sync-is j is =
      ⊎_elim
      (λ same. same)
      (λ ne. absurd (
      (elim (nat_lt j (length plan.others)) as (λ b. nat_lt j (length plan.others) ≡ b → ⊥) [
        | true ↦ λ low. let within : j < length plan.others = grind (arith, nat_tests) in
            state-apart (get_or plan.others j Missing) (sym (state-other j ne within) ∙ is)
        | false ↦ λ high. let past : length plan.others ≤ j = grind (arith, nat_tests) in
            let clash : Out ≡ InSync = sym (state-past j past) ∙ is in cc
      ]) refl))
      (one_or_two j plan.master)

  nowhere : (j : ℕ) → get_or (reopened_states plan) j Out ≡ InSync → has_behind (get_or (reopened_flags regions plan) j no_leg) ≡ false
  nowhere j is =
      ap (λ (i : ℕ). has_behind (get_or (reopened_flags regions plan) i no_leg)) (in_sync-is j is)
      ∙ ap (λ (l : LegRegions). has_behind l) flags-master ∙ none-any regions

  all-have : AllHave regions (reopened_flags regions plan)
  all-have =
      have-set regions other_flags plan.master (opened_leg regions true)
      (λ j d within.
      ap (λ (l : LegRegions). length l.behind) (get_or-map (reopened_leg plan.marks regions) plan.others j Missing d (omega (arith, within, long-map (reopened_leg plan.marks regions) plan.others)))
      ∙ leg-length plan.marks regions (get_or plan.others j Missing))
      (length-replicate regions false)

  -- so what a start opens a stripe with goes together
  pub planned-fits : {L : Type 0} (model : L → Leg) (legs : List L) (first : ℕ) (policy : Policy) → length plan.others ≡ length legs → AreSizes place.blocks place.region (length legs) → 0 < place.chunk → EachHas model legs place.blocks
      → MayReopen model place (planned place legs plan first policy)
  planned-fits model legs first policy each sizes some_chunk lengths = record {
    sizes = sizes;
    some_chunk = some_chunk;
    lengths = lengths;
    state_each = length-set other_states plan.master InSync ∙ long-map reopened_state plan.others ∙ each;
    flags_each = length-set other_flags plan.master (opened_leg regions true) ∙ long-map (reopened_leg plan.marks regions) plan.others ∙ each;
    regions = all-have;
    master = state-master;
    outs = outs-as;
    in_sync = nowhere;
  }
