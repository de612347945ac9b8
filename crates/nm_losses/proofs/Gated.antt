-- Behind the gate what a leg lost lies in the spans that the gate gives its return: outside of them it
-- had all of it durable.
use Rattle.std.proofs.Common.{◌≡◌, ◌≢◌, ⊎_elim, inl, inr, ℕ, ◌/◌, ◌^◌, ◌<◌, ◌≤◌, Bool, true, false, IsTrue, List, [], ◌∷◌, Option, None, Some, length, length-set, refl, sym, ap, ◌∙◌, subst, arith, cond, slice_get, slice_index_or}
use Rattle.std.proofs.Math.Nat.{div-eq_of_lt, div-le_self}
use Rattle.std.proofs.lemmas.Bool.{cases_lt}
use Rattle.nm_replay.specs.declared.block.Block.{Block}
use Rattle.nm_replay.proofs.Arrays.{slice_get-set_same, slice_get-set_other}
use Rattle.nm_choice.specs.declared.leg_state.LegState.TheVariants.{InSync, Joining, Out}
use Rattle.nm_fanout.specs.Records.{busy_on}
use Rattle.nm_leg.specs.Leg.{IsDurableElsewhere, Leg, LegType}
use Rattle.nm_rules.specs.Array.{contents_at, contents_of, stripe_array}
use Rattle.nm_rules.specs.Attach.{after_return, may_lack_each}
use Rattle.nm_rules.specs.Flushed.{durable_at, durable_of}
use Rattle.nm_rules.specs.Invariant.{Keeps}
use Rattle.nm_rules.specs.Reopening.{Marks, is_in_marked}
use Rattle.nm_rules.specs.State.{StripeState, leg_state}
use Rattle.nm_rules.proofs.AttachLemmas.{may_attach, set-other, set-same}
use Rattle.nm_rules.proofs.RecordLemmas.{one_or_two}
use Rattle.nm_stripe.specs.Run.{NoneHalted}
use Rattle.nm_gate.specs.Durable.{Durable, is_lacking, is_named}
use Rattle.nm_gate.specs.Gate.{is_marked_at}
use Rattle.nm_gate.specs.Held.{HoldsDurably}
use Rattle.nm_gate.specs.Moves.{Clears, Does as GateDoes, Gated, IsEqualAt, Looks as GateLooks, Saves}
use Rattle.nm_gate.specs.Returning.{everywhere}
use Rattle.nm_gate.specs.Saves.{IsCovered}
use Rattle.nm_gate.specs.Survive.{EqualOutside, Stands}
use Rattle.nm_gate.proofs.Acknowledged.{move-stands}
use Rattle.nm_gate.proofs.Guarded.{Counts, Guards}
use Rattle.nm_gate.proofs.Runs.{Behind}
use Rattle.nm_gate.proofs.Spans.{both-ways}
use Rattle.nm_gate.proofs.Unmarked.{unmarked-equal}
use Rattle.nm_losses.specs.Gated.{EverywhereCoversLosses, GateCovers, GateCoversLosses, GatedMove, Goes, LossyGatedRuns, Recovers, RecoversOf, moves_of}
use Rattle.nm_rules.specs.Losing.{CoversLoss, HoldsStill, ReturnsLost, with_part}
use Rattle.nm_losses.specs.Moves.{LossyRuns, answers_of}
use Rattle.nm_losses.proofs.Crashed.{past, power-takes}
use Rattle.nm_losses.proofs.Lists.{none-first}
use Rattle.nm_rules.proofs.LossLemmas.{lost-array, lost-keeps}

-- one span has every region of a stripe
all-marked : (block size : ℕ) → block < 2 ^ 31 → is_in_marked everywhere (block / size) ≡ true
all-marked block size low =
    let less : block / size ≤ block = div-le_self block size in
    let region : block / size < 2 ^ 31 = omega (arith, low, less) in
    ap (λ (n : ℕ). slice_index_or (true ∷ []) n false) (div-eq_of_lt region)

-- without a superblock nothing is unmarked
pub everywhere-covers : {L : Type 0} (model : L → Leg) → EverywhereCoversLosses model
everywhere-covers model stripe leg part legs there long = λ block clear unmarked.
    ⊎_elim
    (λ inside.
    let low : block < 2 ^ 31 = omega (arith, inside, legs.sizes.most_blocks) in
    absurd (both-ways (is_in_marked everywhere (block / stripe.place.region)) (all-marked block stripe.place.region low) unmarked))
    (λ end.
    let held = legs.lengths leg there in
    past (model part).contents block (omega (arith, end, long, held)) ∙ sym (past (contents_of model stripe.legs leg) block (omega (arith, end, held))))
    (cases_lt block stripe.place.blocks)

module _ {L : Type 0} (type : LegType L) (each : (leg : L) → length (type.model leg).unsynced ≡ length (type.model leg).contents) (elsewhere : (leg : L) → IsDurableElsewhere (type.model leg)) where
  module _ (leg : ℕ) (held part : L) (marks : Marks) (old new : Gated L) (s : Stands type old.stripe old.durable) (outside : EqualOutside type old.stripe old.durable) (r : RecoversOf type leg held part marks old new) where
    abbrev was : StripeState L
    was = old.stripe

    abbrev d : Durable
    d = old.durable

    contents-is : contents_of type.model was.legs leg ≡ (type.model held).contents
    contents-is = ap (λ (o : Option L). contents_at type.model o) r.held_is

    durable-is : durable_of type.model was.legs leg ≡ (type.model held).durable
    durable-is = ap (λ (o : Option L). durable_at type.model o) r.held_is

    -- what was durable of it is left
    still : (block : ℕ) → slice_get (durable_of type.model was.legs leg) block ≡ slice_get (contents_of type.model was.legs leg) block → HoldsStill type.model was.legs leg part block
    still block durable =
        ⊎_elim
        (λ kept. kept ∙ sym (ap (λ (xs : List Block). slice_get xs block) durable-is) ∙ durable)
        (λ kept. kept ∙ sym (ap (λ (xs : List Block). slice_get xs block) contents-is))
        (r.crash.left block)

    -- a leg that may be said to lack marked spans alone has all else durable
    lacking-still : (block : ℕ) → block < was.place.blocks → is_lacking leg d ≡ true → is_marked_at block was d ≡ false → HoldsStill type.model was.legs leg part block
    lacking-still block inside lacking unmarked = still block ((outside block inside unmarked).holds leg (inr (inl lacking))).durable

    covers-inside : (block : ℕ) → block < was.place.blocks → is_in_marked marks (block / was.place.region) ≡ false → HoldsStill type.model was.legs leg part block
    covers-inside block inside unmarked =
        let low : block < 2 ^ 31 = omega (arith, inside, s.keeps.legs.sizes.most_blocks) in
        (elim (is_lacking leg d) as (λ (v : Bool). is_lacking leg d ≡ v → is_in_marked (cond v (let m : Marks = record { marked = d.marked; span = d.span } in m) everywhere) (block / was.place.region) ≡ false → HoldsStill type.model was.legs leg part block) [
          | true ↦ λ lacking off. lacking-still block inside lacking off
          | false ↦ λ lacks off. absurd (both-ways (is_in_marked everywhere (block / was.place.region)) (all-marked block was.place.region low) off)
        ]) refl (subst (λ (m : Marks). is_in_marked m (block / was.place.region) ≡ false) r.marks_are unmarked)

    covers : CoversLoss type.model was leg part marks
    covers = λ block clear unmarked.
        ⊎_elim
        (λ inside. covers-inside block inside unmarked)
        (λ end.
        let long = s.keeps.legs.lengths leg r.there in
        let same = ap (λ (xs : List Block). length xs) contents-is in
        past (type.model part).contents block (omega (arith, end, long, same, r.crash.long)) ∙ sym (past (contents_of type.model was.legs leg) block (omega (arith, end, long))))
        (cases_lt block was.place.blocks)

    pub returns-lost : ReturnsLost type.model was new.stripe leg part marks
    returns-lost = record {
      there = r.there;
      loses = power-takes type.model each elsewhere was leg held part r.held_is (may_attach (with_part was leg part) leg r.returns.no_cause).out r.crash;
      covers = covers;
      returns = r.returns;
    }

    abbrev back : StripeState L
    back = after_return (with_part was leg part) leg (may_lack_each type.model marks (with_part was leg part) leg)

    state-here : leg_state leg back ≡ Joining
    state-here = set-same was.states leg Joining Out (omega (arith, r.there, s.keeps.legs.states))

    state-other : (j : ℕ) → j ≢ leg → leg_state j back ≡ leg_state j was
    state-other j ne = set-other was.states leg j Joining Out ne

    named-not : is_named leg d ≡ true → ⊥
    named-not named = both-ways (is_named leg d) named r.allowed.1

    back-keeps : Keeps type back
    back-keeps = subst (λ (x : StripeState L). Keeps type x) r.returns.after (lost-keeps type was new.stripe leg part marks s.keeps returns-lost)

    back-stands : Stands type back d
    back-stands = record {
      keeps = back-keeps;
      runs = s.runs;
      apart = λ j named joins.
          ⊎_elim
          (λ e. named-not (subst (λ (i : ℕ). is_named i d ≡ true) e named))
          (λ ne. s.apart j named (sym (state-other j ne) ∙ joins))
          (one_or_two j leg);
    }

    array-same : stripe_array type.model back ≡ stripe_array type.model was
    array-same = ap (λ (x : StripeState L). stripe_array type.model x) (sym r.returns.after) ∙ lost-array type was new.stripe leg part marks s.keeps returns-lost

    here-at : slice_get back.legs leg ≡ Some part
    here-at = slice_get-set_same was.legs leg part r.there

    other-at : (j : ℕ) → j ≢ leg → slice_get back.legs j ≡ slice_get was.legs j
    other-at j ne = slice_get-set_other was.legs leg j part (λ e. ne (sym e))

    -- the leg that came back
    here-equal : (b : ℕ) → IsEqualAt type.model was d b → IsCovered back d leg → HoldsDurably type.model back leg b
    here-equal b equal covered =
        ⊎_elim
        (λ named. absurd (named-not named))
        (λ more. ⊎_elim
        (λ lacking.
        let was_held = equal.holds leg (inr (inl lacking)) in
        let contents : slice_get (contents_of type.model back.legs leg) b ≡ slice_get (type.model part).contents b = ap (λ (o : Option L). slice_get (contents_at type.model o) b) here-at in
        record {
          holds = contents ∙ still b was_held.durable ∙ was_held.holds ∙ sym (ap (λ (xs : List Block). slice_get xs b) array-same);
          durable = ap (λ (o : Option L). slice_get (durable_at type.model o) b) here-at ∙ ap (λ (xs : List Block). slice_get xs b) r.crash.durable ∙ sym contents;
        })
        (λ in_sync. absurd (let clash : InSync ≡ Joining = sym in_sync ∙ state-here in cc))
        more)
        covered

    -- and the others
    other-equal : (b j : ℕ) → j ≢ leg → IsEqualAt type.model was d b → IsCovered back d j → HoldsDurably type.model back j b
    other-equal b j ne equal covered =
        let before : IsCovered was d j = ⊎_elim (λ named. inl named) (λ more. inr (⊎_elim (λ lacking. inl lacking) (λ in_sync. inr (sym (state-other j ne) ∙ in_sync)) more)) covered in
        let was_held = equal.holds j before in
        let contents : slice_get (contents_of type.model back.legs j) b ≡ slice_get (contents_of type.model was.legs j) b = ap (λ (o : Option L). slice_get (contents_at type.model o) b) (other-at j ne) in
        record {
          holds = contents ∙ was_held.holds ∙ sym (ap (λ (xs : List Block). slice_get xs b) array-same);
          durable = ap (λ (o : Option L). slice_get (durable_at type.model o) b) (other-at j ne) ∙ was_held.durable ∙ sym contents;
        }

    back-equal : EqualOutside type back d
    back-equal = λ b inside unmarked.
        let equal = outside b inside unmarked in
        record {
          none = equal.none;
          holds = λ j covered.
              ⊎_elim
              (λ e. subst (λ (i : ℕ). HoldsDurably type.model back i b) (sym e) (here-equal b equal (subst (λ (i : ℕ). IsCovered back d i) e covered)))
              (λ ne. other-equal b j ne equal covered)
              (one_or_two j leg);
        }

    pub recovered-stands : Stands type new.stripe new.durable
    recovered-stands = subst (λ (n : Durable). Stands type new.stripe n) (sym r.durable) (subst (λ (x : StripeState L). Stands type x d) (sym r.returns.after) back-stands)

    pub recovered-equal : EqualOutside type new.stripe new.durable
    recovered-equal = subst (λ (n : Durable). EqualOutside type new.stripe n) (sym r.durable) (subst (λ (x : StripeState L). EqualOutside type x d) (sym r.returns.after) back-equal)

    -- no leg that may be called in sync, or is, came back: so these hold what they held
    back-guards : (b j : ℕ) → Guards type was d j b → Guards type back d j b
    back-guards b j guards counts =
        let ne : j ≢ leg = λ e. not-back (subst (λ (i : ℕ). Counts back d i) e counts) in
        let before : Counts was d j = ⊎_elim (λ named. inl named) (λ in_sync. inr (sym (state-other j ne) ∙ in_sync)) counts in
        let was_held = guards before in
        let contents : slice_get (contents_of type.model back.legs j) b ≡ slice_get (contents_of type.model was.legs j) b = ap (λ (o : Option L). slice_get (contents_at type.model o) b) (other-at j ne) in
        record {
          holds = contents ∙ was_held.holds ∙ sym (ap (λ (xs : List Block). slice_get xs b) array-same);
          durable = ap (λ (o : Option L). slice_get (durable_at type.model o) b) (other-at j ne) ∙ was_held.durable ∙ sym contents;
        }
      where
        not-back : Counts back d leg → ⊥
        not-back counts = ⊎_elim (λ named. named-not named) (λ in_sync. let clash : InSync ≡ Joining = sym in_sync ∙ state-here in cc) counts

    back-behind : (b : ℕ) → b < was.place.blocks → busy_on b was.records ≡ None → Behind type b was d back d
    back-behind b inside free = record {
      stands = back-stands;
      inside = inside;
      free = free;
      count = length-set was.legs leg part;
      array = ap (λ (xs : List Block). slice_get xs b) array-same;
      guards = λ j guards. back-guards b j guards;
    }

    pub recovered-behind : (b : ℕ) → b < was.place.blocks → busy_on b was.records ≡ None → Behind type b was d new.stripe new.durable
    recovered-behind b inside free =
        subst (λ (n : Durable). Behind type b was d new.stripe n) (sym r.durable)
        (subst (λ (x : StripeState L). Behind type b was d x d) (sym r.returns.after) (back-behind b inside free))

  module _ (is_honest : IsTrue type.honest) where
    -- over all of the moves
    pub runs-covered : (moves : List (GatedMove L)) (old new : Gated L) → Stands type old.stripe old.durable → EqualOutside type old.stripe old.durable → LossyGatedRuns type moves old new → NoneHalted (answers_of (moves_of moves)) → GateCovers type moves old new
    runs-covered [] old new s outside runs goes =
        subst (λ (x : Gated L). GateCovers type [] old x) (sym runs) (record { runs = refl; stands = s; equal = outside })
    runs-covered (Goes (GateDoes step answer) ∷ moves) old new s outside runs goes =
        let first = none-first answer (answers_of (moves_of moves)) goes in
        let is = runs.1.0 in
        let mid = runs.0 in
        let rest = runs-covered moves mid new (move-stands type is_honest (GateDoes step answer) [] old mid s is (first.0, tt)) (unmarked-equal type is_honest (GateDoes step answer ∷ []) old mid s outside (mid, is, refl) (first.0, tt)) runs.2 first.1 in
        record { runs = (mid.stripe, record { no_attach = runs.1.1; asked = is.asked; does = is.does }, rest.runs); stands = rest.stands; equal = rest.equal }
    runs-covered (Goes (GateLooks leg block found) ∷ moves) old new s outside runs goes =
        let is = runs.1.0 in
        let mid = runs.0 in
        let rest = runs-covered moves mid new (move-stands type is_honest (GateLooks leg block found) [] old mid s is tt) (unmarked-equal type is_honest (GateLooks leg block found ∷ []) old mid s outside (mid, is, refl) tt) runs.2 goes in
        record { runs = (mid.stripe, is.0, rest.runs); stands = rest.stands; equal = rest.equal }
    runs-covered (Goes (Saves saved) ∷ moves) old new s outside runs goes =
        let is = runs.1.0 in
        let mid = runs.0 in
        let rest = runs-covered moves mid new (move-stands type is_honest (Saves saved) [] old mid s is tt) (unmarked-equal type is_honest (Saves saved ∷ []) old mid s outside (mid, is, refl) tt) runs.2 goes in
        record { runs = subst (λ (x : StripeState L). LossyRuns type (moves_of moves) x new.stripe) is.1 rest.runs; stands = rest.stands; equal = rest.equal }
    runs-covered (Goes (Clears cleared) ∷ moves) old new s outside runs goes =
        let is = runs.1.0 in
        let mid = runs.0 in
        let rest = runs-covered moves mid new (move-stands type is_honest (Clears cleared) [] old mid s is tt) (unmarked-equal type is_honest (Clears cleared ∷ []) old mid s outside (mid, is, refl) tt) runs.2 goes in
        record { runs = subst (λ (x : StripeState L). LossyRuns type (moves_of moves) x new.stripe) is.1 rest.runs; stands = rest.stands; equal = rest.equal }
    runs-covered (Recovers leg held part marks ∷ moves) old new s outside runs goes =
        let r = runs.1 in
        let mid = runs.0 in
        let rest = runs-covered moves mid new (recovered-stands leg held part marks old mid s outside r) (recovered-equal leg held part marks old mid s outside r) runs.2 goes in
        record { runs = (mid.stripe, returns-lost leg held part marks old mid s outside r, rest.runs); stands = rest.stands; equal = rest.equal }

-- what the gate gives a return covers its losses
pub gate-covers : {L : Type 0} (type : LegType L) → ((leg : L) → length (type.model leg).unsynced ≡ length (type.model leg).contents) → ((leg : L) → IsDurableElsewhere (type.model leg)) → IsTrue type.honest → GateCoversLosses type
gate-covers type each elsewhere is_honest moves old new s outside runs goes = runs-covered type each elsewhere is_honest moves old new s outside runs goes
