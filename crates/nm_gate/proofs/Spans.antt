-- A block in no marked span: no allowed write begins on it, and no allowed copy writes it.
use Rattle.std.proofs.Common.{◌≡◌, ⊎_elim, inl, inr, ℕ, zero, suc, ◌+◌, ◌-◌, ◌*◌, ◌/◌, ◌<◌, ◌≤◌, arith, List, [], ◌∷◌, length, min, drop, take, Bool, true, false, None, Some, Option, refl, sym, ap, ◌∙◌, subst, cond, eq-eqb}
use Rattle.std.specs.Option.{option_map, option_or}
use Rattle.std.proofs.lemmas.Bool.{cases_lt}
use Rattle.std.proofs.lemmas.Nat.{div-mul-add}
use Rattle.std.proofs.lemmas.Option.{same_Some}
use Rattle.nm_fanout.specs.Data.{data_blocks}
use Rattle.nm_leg.specs.Leg.{IsOutside, Leg, LegType}
use Rattle.nm_regions.specs.declared.copy_place.CopyPlace.{CopyPlace}
use Rattle.nm_regions.specs.Table.{next_behind}
use Rattle.nm_rules.specs.declared.at.At.{At}
use Rattle.nm_rules.specs.Copy.{copy_of}
use Rattle.nm_rules.specs.Invariant.{Keeps}
use Rattle.nm_rules.specs.RunCopy.{next_blocks}
use Rattle.nm_rules.specs.Runs.{FitsRun}
use Rattle.nm_rules.specs.State.{StripeState, copy_start, is_joining, leg_state, table}
use Rattle.nm_rules.proofs.CopyLemmas.{may_copy, ready-on}
use Rattle.nm_rules.proofs.RunTargetsLemmas.{same-region}
use Rattle.nm_store.specs.Copying.{next_region, region_of_own}
use Rattle.nm_stripe.specs.declared.answer.Answer.{Answer}
use Rattle.nm_stripe.specs.declared.answer.Answer.TheVariants.{Begun}
use Rattle.nm_stripe.specs.declared.step.Step.{Step}
use Rattle.nm_stripe.specs.declared.step.Step.TheVariants.{Begin}
use Rattle.nm_stripe.specs.Copy.{region_to_copy}
use Rattle.nm_stripe.specs.Flush.{LeavesBlock}
use Rattle.nm_stripe.specs.Run.{MayBeAsked}
use Rattle.nm_gate.specs.Durable.{Durable, is_lacking, is_marked}
use Rattle.nm_gate.specs.Gate.{Allows, AllowsCopy, is_marked_at}
use Rattle.nm_gate.proofs.LegsLeft.{NotNext}

-- what is taken of a list is no longer than asked for
take-most : {A : Type 0} (n : ℕ) (xs : List A) → length (take n xs) ≤ n
take-most zero xs = omega arith
take-most (suc n) [] = omega arith
take-most (suc n) (x ∷ xs) = let rest = take-most n xs in omega (arith, rest)

-- a test is not both
pub both-ways : (v : Bool) → v ≡ true → v ≡ false → ⊥
both-ways v on off = let clash : true ≡ false = sym on ∙ off in cc

-- a block is outside so many blocks, or one of them
outside-or : (first count b : ℕ) → ((i : ℕ) → i < count → first + i ≡ b → ⊥) → IsOutside first count b
outside-or first count b apart =
    ⊎_elim
    (λ low. inl low)
    (λ from. ⊎_elim
    (λ high. absurd (let i : ℕ = b - first in apart i (omega (arith, from, high)) (omega (arith, from))))
    (λ past. inr past)
    (cases_lt b (first + count)))
    (cases_lt b first)

-- the blocks of a run have the mark of its first one
run-outside_unmarked : (d : Durable) (place : At) (first count b : ℕ) → FitsRun place first count → is_marked (first / place.region) d ≡ true → is_marked (b / place.region) d ≡ false → IsOutside first count b
run-outside_unmarked d place first count b fits marked unmarked =
    outside-or first count b (λ i below e.
    let there = same-region place.region first i (omega (arith, fits.one_region, below)) in
    let region : b / place.region ≡ first / place.region = ap (λ (n : ℕ). n / place.region) (sym e) ∙ there.0 in
    both-ways (is_marked (b / place.region) d) (subst (λ (r : ℕ). is_marked r d ≡ true) (sym region) marked) unmarked)

-- a write that may begin is of blocks in a marked span
pub leaves-of : {L : Type 0} (model : L → Leg) (d : Durable) (old : StripeState L) (b : ℕ) → is_marked_at b old d ≡ false → (step : Step L) (answer : Answer L) → Allows d old step → MayBeAsked model old step → LeavesBlock b step answer
leaves-of model d old b unmarked (Begin first bytes) (Begun ticket) allowed asked = run-outside_unmarked d old.place first (data_blocks bytes) b asked.0 allowed.1 unmarked
leaves-of model d old b unmarked step answer allowed asked = tt

-- the region that a copy goes on with is the one that the gate looks at
open-region : {L : Type 0} (leg from : ℕ) (s : StripeState L) (copy : CopyPlace) (open_copy : Option CopyPlace) → s.copy ≡ open_copy → copy_of leg from s ≡ Some copy → copy.leg ≡ leg → next_region leg from s ≡ Some copy.region
open-region leg from s copy None is found own =
    let at : option_map (λ (region : ℕ). let c : CopyPlace = record { leg = leg; region = region; cursor = 0 } in c) (next_behind leg from (table s)) ≡ Some copy =
    sym (ap (λ (o : Option CopyPlace). option_or o (option_map (λ (region : ℕ). let c : CopyPlace = record { leg = leg; region = region; cursor = 0 } in c) (next_behind leg from (table s)))) is) ∙ found in
    ap (λ (o : Option CopyPlace). option_or (region_of_own leg o) (next_behind leg from (table s))) is ∙ region-in (next_behind leg from (table s)) at
  where
    region-in : (o : Option ℕ) → option_map (λ (region : ℕ). let c : CopyPlace = record { leg = leg; region = region; cursor = 0 } in c) o ≡ Some copy → o ≡ Some copy.region
    region-in None at = cc
    region-in (Some region) at = ap (λ (c : CopyPlace). Some c.region) (same_Some (let c : CopyPlace = record { leg = leg; region = region; cursor = 0 } in c) copy at)
open-region leg from s copy (Some c) is found own =
    let same : c ≡ copy = same_Some c copy (sym (ap (λ (o : Option CopyPlace). option_or o (option_map (λ (region : ℕ). let x : CopyPlace = record { leg = leg; region = region; cursor = 0 } in x) (next_behind leg from (table s)))) is) ∙ found) in
    ap (λ (o : Option CopyPlace). option_or (region_of_own leg o) (next_behind leg from (table s))) (is ∙ ap (λ (x : CopyPlace). Some x) same)
    ∙ ap (λ (v : Bool). option_or (cond v (Some copy.region) None) (next_behind leg from (table s))) (eq-eqb copy.leg leg own)

module _ {L : Type 0} (type : LegType L) (old : StripeState L) (d : Durable) (k : Keeps type old) (b : ℕ) (unmarked : is_marked_at b old d ≡ false) where
  -- so what an allowed copy to a lacking leg writes is in a marked span
  pub copy-outside : (leg most from : ℕ) → AllowsCopy d old leg from → is_lacking leg d ≡ true → NotNext b leg most from old
  copy-outside leg most from allowed lacking copy chunk on =
      let ready = ready-on type old leg copy chunk k on in
      let joins : is_joining (leg_state leg old) ≡ true = ap (λ st. is_joining st) (may_copy old leg on.no_cause).joining in
      let region : region_to_copy leg from old ≡ Some copy.region =
      ap (λ (v : Bool). cond v (next_region leg from old) None) joins ∙ open-region leg from old copy old.copy refl on.copy_is ready.leg_is in
      let marked : is_marked copy.region d ≡ true = allowed lacking copy.region region in
      let few : length (next_blocks most chunk) ≤ chunk.length - chunk.written = omega (arith, take-most (min most (chunk.length - chunk.written)) (drop chunk.written chunk.blocks)) in
      outside-or (copy_start old.place.region copy + chunk.written) (length (next_blocks most chunk)) b (λ i below e.
      let place : ℕ = copy.cursor + chunk.written + i in
      let in_region : place < old.place.region = omega (arith, below, few, ready.more, ready.long) in
      let is : b ≡ copy.region * old.place.region + place = omega (arith, e) in
      let region_is : b / old.place.region ≡ copy.region = ap (λ (n : ℕ). n / old.place.region) is ∙ div-mul-add copy.region old.place.region place in_region in
      both-ways (is_marked (b / old.place.region) d) (subst (λ (r : ℕ). is_marked r d ≡ true) (sym region_is) marked) unmarked)
