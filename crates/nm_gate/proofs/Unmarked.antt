-- Outside marked spans the legs that are covered stay equal, and a span that has cooled may be unmarked.
use Rattle.std.proofs.Common.{◌≡◌, ⊎_elim, inl, inr, ℕ, ◌/◌, ◌<◌, arith, length, Bool, true, false, IsTrue, List, [], ◌∷◌, Option, None, refl, sym, ap, ◌∙◌, subst, slice_get, slice_index_or}
use Rattle.nm_choice.specs.declared.leg_state.LegState.{LegState}
use Rattle.nm_choice.specs.declared.leg_state.LegState.TheVariants.{Out}
use Rattle.nm_choice.specs.declared.leg_state.LegState.TheVariants as state
use Rattle.nm_fanout.specs.Records.{busy_on}
use Rattle.nm_leg.specs.Leg.{LegType}
use Rattle.nm_rules.specs.declared.at.At.{At}
use Rattle.nm_rules.specs.Array.{contents_of, stripe_array}
use Rattle.nm_rules.specs.Flushed.{durable_of}
use Rattle.nm_rules.specs.Invariant.{Keeps}
use Rattle.nm_rules.specs.State.{StripeState}
use Rattle.nm_rules.proofs.RecordLemmas.{one_or_two}
use Rattle.nm_rules.proofs.StateLemmas.{in_sync_inside}
use Rattle.nm_stripe.specs.declared.answer.Answer.{Answer}
use Rattle.nm_stripe.specs.declared.answer.Answer.TheVariants.{Joining, InSync}
use Rattle.nm_stripe.specs.declared.step.Step.{Step}
use Rattle.nm_stripe.specs.declared.step.Step.TheVariants.{Attach, Return, Replace, Copy, Promote}
use Rattle.nm_stripe.specs.Run.{MayBeAsked, NoneHalted, StepOf}
use Rattle.nm_stripe.proofs.RunLemmas.{step-shape}
use Rattle.nm_stripe.proofs.StepLemmas.{step-keeps}
use Rattle.nm_gate.specs.Durable.{Durable, is_lacking, is_marked, is_named}
use Rattle.nm_gate.specs.Gate.{Allows, AllowsCopy, is_marked_at}
use Rattle.nm_gate.specs.Held.{HoldsDurably, NoneOn}
use Rattle.nm_gate.specs.Looking.{LooksAt}
use Rattle.nm_gate.specs.Moves.{AllLeave, Clears, Does, Gated, GatedRuns, IsEqualAt, Looks, Move, MoveOf, NoneStop, Saves, Unmarks}
use Rattle.nm_gate.specs.Saves.{IsCovered, Resaves}
use Rattle.nm_gate.specs.Survive.{CooledMayClear, EqualOutside, Stands, UnmarkedStayEqual}
use Rattle.nm_gate.proofs.Acknowledged.{move-stands, stop-later}
use Rattle.nm_gate.proofs.Added.{step-still}
use Rattle.nm_gate.proofs.Guarded.{array-stays, joins-not, promoted-guards, promoted-in_sync}
use Rattle.nm_gate.proofs.LegParts.{in_sync-joining}
use Rattle.nm_gate.proofs.LegsLeft.{LegsLeft, Spared, any, but}
use Rattle.nm_gate.proofs.Looked.{looked-inside, looked-keeps, looked-left, looked-none, looked-place}
use Rattle.nm_gate.proofs.Runs.{runs-behind, runs-make}
use Rattle.nm_gate.proofs.Spans.{both-ways, copy-outside, leaves-of}
use Rattle.nm_gate.proofs.StepsLeft.{free_of, other_of, step-left}
use Rattle.nm_gate.proofs.Untouched.{none-busy}

module _ {L : Type 0} (type : LegType L) (is_honest : IsTrue type.honest) (old new : StripeState L) (d : Durable) (s : Stands type old d) where
  module _ (keeps : Keeps type new) (b : ℕ) (inside : b < old.place.blocks) (within : b < new.place.blocks) (unmarked : is_marked_at b old d ≡ false) (equal : IsEqualAt type.model old d b) (none : NoneOn b new.records) where
    was_free : busy_on b old.records ≡ None
    was_free = none-busy b old.records equal.none

    is_free : busy_on b new.records ≡ None
    is_free = none-busy b new.records none

    -- so a leg that is covered is spared by a copy that is allowed
    spared-copy : (leg most from : ℕ) → AllowsCopy d old leg from → (j : ℕ) → IsCovered old d j → Spared (free_of {L = L} (Copy leg most from) old b) old j
    spared-copy leg most from marked j covered =
        ⊎_elim
        (λ e. ⊎_elim
        (λ named. inl (s.apart j named))
        (λ more. ⊎_elim
        (λ lacking. inr (inr (copy-outside type old d s.keeps b unmarked leg most from marked (subst (λ (i : ℕ). is_lacking i d ≡ true) e lacking))))
        (λ in_sync. inl (λ joins. in_sync-joining (sym in_sync ∙ joins)))
        more)
        covered)
        (λ ne. inr (inl ne))
        (one_or_two j leg)

    module _ (other free : ℕ → Type 0) (left : LegsLeft type b other free old new) where
      covered-before : (j : ℕ) → other j → IsCovered new d j → IsCovered old d j
      covered-before j o covered = ⊎_elim (λ named. inl named) (λ more. inr (⊎_elim (λ lacking. inl lacking) (λ in_sync. inr (left.in_sync j o in_sync)) more)) covered

      array : slice_get (stripe_array type.model new) b ≡ slice_get (stripe_array type.model old) b
      array = array-stays type old new d b is_honest s keeps inside within was_free is_free other free left

      equal-other : (j : ℕ) → other j → Spared free old j → IsCovered new d j → HoldsDurably type.model new j b
      equal-other j o spared covered =
          let held = equal.holds j (covered-before j o covered) in
          record {
            holds = left.contents j o spared ∙ held.holds ∙ sym array;
            durable = left.durable j o spared held.durable;
          }

      -- a leg that joins, with nothing of it changed
      equal-joined : (leg : ℕ) → new.legs ≡ old.legs → is_lacking leg d ≡ true → HoldsDurably type.model new leg b
      equal-joined leg legs lacking =
          let held = equal.holds leg (inr (inl lacking)) in
          let contents : slice_get (contents_of type.model new.legs leg) b ≡ slice_get (contents_of type.model old.legs leg) b = ap (λ xs. slice_get (contents_of type.model xs leg) b) legs in
          record {
            holds = contents ∙ held.holds ∙ sym array;
            durable = ap (λ xs. slice_get (durable_of type.model xs leg) b) legs ∙ held.durable ∙ sym contents;
          }

    at-leg : (leg j : ℕ) → j ≡ leg → HoldsDurably type.model new leg b → HoldsDurably type.model new j b
    at-leg leg j e held = subst (λ (i : ℕ). HoldsDurably type.model new i b) (sym e) held

    covered-at : (leg j : ℕ) → j ≡ leg → IsCovered new d j → IsCovered new d leg
    covered-at leg j e covered = subst (λ (i : ℕ). IsCovered new d i) e covered

    step-equal : (step : Step L) (answer : Answer L) → Allows d old step → MayBeAsked type.model old step → StepOf type step answer old new → LegsLeft type b (other_of step answer) (free_of step old b) old new → (j : ℕ) → IsCovered new d j → HoldsDurably type.model new j b
    step-equal (Attach leg) (Joining blocks) allowed asked is left j covered =
        let free = free_of {L = L} (Attach leg) old b in
        ⊎_elim
        (λ e. at-leg leg j e (⊎_elim
        (λ named. absurd (both-ways (is_named leg d) named allowed.1))
        (λ more. ⊎_elim
        (λ lacking. equal-joined (but leg) free left leg (ap (λ (x : StripeState L). x.legs) is.0.after) lacking)
        (λ in_sync. absurd (joins-not old.states leg (subst (λ (xs : List LegState). slice_index_or xs leg Out ≡ state.InSync) (ap (λ (x : StripeState L). x.states) is.0.after) in_sync)))
        more)
        (covered-at leg j e covered)))
        (λ ne. equal-other (but leg) free left j ne (inr tt) covered)
        (one_or_two j leg)
    step-equal (Return leg marks) (Joining blocks) allowed asked is left j covered =
        let free = free_of {L = L} (Return leg marks) old b in
        ⊎_elim
        (λ e. at-leg leg j e (⊎_elim
        (λ named. absurd (both-ways (is_named leg d) named allowed.1))
        (λ more. ⊎_elim
        (λ lacking. equal-joined (but leg) free left leg (ap (λ (x : StripeState L). x.legs) is.0.after) lacking)
        (λ in_sync. absurd (joins-not old.states leg (subst (λ (xs : List LegState). slice_index_or xs leg Out ≡ state.InSync) (ap (λ (x : StripeState L). x.states) is.0.after) in_sync)))
        more)
        (covered-at leg j e covered)))
        (λ ne. equal-other (but leg) free left j ne (inr tt) covered)
        (one_or_two j leg)
    step-equal (Replace leg part) (Joining blocks) allowed asked is left j covered =
        let free = free_of {L = L} (Replace leg part) old b in
        ⊎_elim
        (λ e. at-leg leg j e (⊎_elim
        (λ named. absurd (both-ways (is_named leg d) named allowed.1))
        (λ more. ⊎_elim
        (λ lacking. absurd (both-ways (is_lacking leg d) lacking allowed.2))
        (λ in_sync. absurd (joins-not old.states leg (subst (λ (xs : List LegState). slice_index_or xs leg Out ≡ state.InSync) (ap (λ (x : StripeState L). x.states) is.0.after) in_sync)))
        more)
        (covered-at leg j e covered)))
        (λ ne. equal-other (but leg) free left j ne (inr tt) covered)
        (one_or_two j leg)
    step-equal (Promote leg) InSync allowed asked is left j covered =
        let free = free_of {L = L} (Promote leg) old b in
        ⊎_elim
        (λ e. at-leg leg j e (promoted-guards type old new d b is_honest s keeps inside within was_free is_free free leg asked left is (inr (promoted-in_sync type old new d s leg asked is))))
        (λ ne. equal-other (but leg) free left j ne (inr tt) covered)
        (one_or_two j leg)
    step-equal (Copy leg most from) answer allowed asked is left j covered =
        let free = free_of {L = L} (Copy leg most from) old b in
        equal-other any free left j tt (spared-copy leg most from allowed j (covered-before any free left j tt covered)) covered
    step-equal step answer allowed asked is left j covered = equal-other any (free_of step old b) left j tt (inr tt) covered

  module _ (outside : EqualOutside type old d) where
    step-outside : (step : Step L) (answer : Answer L) → NoneHalted (answer ∷ []) → Allows d old step → MayBeAsked type.model old step → StepOf type step answer old new → EqualOutside type new d
    step-outside step answer goes allowed asked is b within unmarked =
        let shape = step-shape type step answer old new is in
        let inside : b < old.place.blocks = subst (λ (place : At). b < place.blocks) shape.place within in
        let was : is_marked_at b old d ≡ false = subst (λ (place : At). is_marked (b / place.region) d ≡ false) shape.place unmarked in
        let equal = outside b inside was in
        let keeps = step-keeps type step answer old new s.keeps asked is in
        let none = step-still type old new b equal.none step answer (leaves-of type.model d old b was step answer allowed asked) goes is in
        record {
          none = none;
          holds = step-equal keeps b inside within was equal none step answer allowed asked is
              (step-left type old new b is_honest (none-busy b old.records equal.none) s.keeps step answer goes is);
        }

    looked-outside : (leg block : ℕ) (found : Option (List ℕ)) → LooksAt type leg block found old new → EqualOutside type new d
    looked-outside leg block found is b within unmarked =
        let inside = looked-inside type leg block found old new is b within in
        let was : is_marked_at b old d ≡ false = subst (λ (place : At). is_marked (b / place.region) d ≡ false) (looked-place type leg block found old new is) unmarked in
        let equal = outside b inside was in
        let none = looked-none type leg block found old new is b equal.none in
        record {
          none = none;
          holds = λ j covered. equal-other (looked-keeps type leg block found old new is s.keeps) b inside within was equal none any any (looked-left type leg block found old new is is_honest b) j tt (inr tt) covered;
        }

    saved-outside : (saved : Durable) → Resaves old d saved → EqualOutside type old saved
    saved-outside saved is b inside unmarked =
        let was : is_marked_at b old d ≡ false = unmarked-before (is_marked_at b old d) refl in
        let equal = outside b inside was in
        record { none = equal.none; holds = λ leg covered. equal.holds leg (covered-d leg covered) }
      where
        unmarked-before : (v : Bool) → is_marked_at b old d ≡ v → is_marked_at b old d ≡ false
        unmarked-before true on = absurd (both-ways (is_marked_at b old saved) (is.marked (b / old.place.region) on) unmarked)
        unmarked-before false off = off

        covered-d : (leg : ℕ) → IsCovered old saved leg → IsCovered old d leg
        covered-d leg covered =
            ⊎_elim
            (λ named. ⊎_elim (λ was. inl was) (λ in_sync. inr (inr in_sync)) (is.named leg named))
            (λ more. ⊎_elim (λ lacking. is.lacking leg lacking) (λ in_sync. inr (inr in_sync)) more)
            covered

    cleared-outside : (cleared : Durable) → Unmarks type.model old d cleared → EqualOutside type old cleared
    cleared-outside cleared u b inside unmarked =
        let equal = equal-was (is_marked_at b old d) refl in
        record { none = equal.none; holds = λ leg covered. equal.holds leg (covered-d leg covered) }
      where
        equal-was : (v : Bool) → is_marked_at b old d ≡ v → IsEqualAt type.model old d b
        equal-was true on = u.equal b inside unmarked on
        equal-was false off = outside b inside off

        covered-d : (leg : ℕ) → IsCovered old cleared leg → IsCovered old d leg
        covered-d leg covered = subst (λ (x : Durable). IsCovered old x leg → IsCovered old d leg) (sym u.after) (λ c. c) covered

module _ {L : Type 0} (type : LegType L) (is_honest : IsTrue type.honest) where
  move-outside : (move : Move L) (moves : List (Move L)) (old new : Gated L) → Stands type old.stripe old.durable → EqualOutside type old.stripe old.durable → MoveOf type move old new → NoneStop (move ∷ moves)
      → EqualOutside type new.stripe new.durable
  move-outside (Does step answer) moves old new s outside is goes =
      subst (λ (n : Durable). EqualOutside type new.stripe n) (sym is.durable) (step-outside type is_honest old.stripe new.stripe old.durable s outside step answer goes.0 is.allowed is.asked is.does)
  move-outside (Looks leg block found) moves old new s outside is goes =
      subst (λ (n : Durable). EqualOutside type new.stripe n) (sym is.1) (looked-outside type is_honest old.stripe new.stripe old.durable s outside leg block found is.0)
  move-outside (Saves saved) moves old new s outside is goes =
      subst (λ (n : Durable). EqualOutside type new.stripe n) (sym is.2) (subst (λ (x : StripeState L). EqualOutside type x saved) (sym is.1) (saved-outside type is_honest old.stripe old.stripe old.durable s outside saved is.0))
  move-outside (Clears cleared) moves old new s outside is goes =
      subst (λ (n : Durable). EqualOutside type new.stripe n) (sym is.2) (subst (λ (x : StripeState L). EqualOutside type x cleared) (sym is.1) (cleared-outside type is_honest old.stripe old.stripe old.durable s outside cleared is.0))

  -- over all of the moves
  runs-outside : (moves : List (Move L)) (old new : Gated L) → Stands type old.stripe old.durable → EqualOutside type old.stripe old.durable → GatedRuns type moves old new → NoneStop moves → EqualOutside type new.stripe new.durable
  runs-outside [] old new s outside runs goes = subst (λ (n : Gated L). EqualOutside type n.stripe n.durable) (sym runs) outside
  runs-outside (move ∷ moves) old new s outside runs goes =
      runs-outside moves runs.0 new (move-stands type is_honest move moves old runs.0 s runs.1 goes) (move-outside move moves old runs.0 s outside runs.1 goes) runs.2 (stop-later type is_honest move moves goes)

  -- no record of a write comes on a block on which none begins
  runs-still : (moves : List (Move L)) (old new : Gated L) (b : ℕ) → NoneOn b old.stripe.records → GatedRuns type moves old new → AllLeave b moves → NoneOn b new.stripe.records
  runs-still [] old new b none runs leaves = subst (λ (n : Gated L). NoneOn b n.stripe.records) (sym runs) none
  runs-still (Does step answer ∷ moves) old new b none runs leaves =
      runs-still moves runs.0 new b (step-still type old.stripe runs.0.stripe b none step answer leaves.0.0 leaves.0.1 runs.1.does) runs.2 leaves.1
  runs-still (Looks leg block found ∷ moves) old new b none runs leaves =
      runs-still moves runs.0 new b (looked-none type leg block found old.stripe runs.0.stripe runs.1.0 b none) runs.2 leaves.1
  runs-still (Saves saved ∷ moves) old new b none runs leaves =
      runs-still moves runs.0 new b (subst (λ (x : StripeState L). NoneOn b x.records) (sym runs.1.1) none) runs.2 leaves.1
  runs-still (Clears cleared ∷ moves) old new b none runs leaves =
      runs-still moves runs.0 new b (subst (λ (x : StripeState L). NoneOn b x.records) (sym runs.1.1) none) runs.2 leaves.1

pub unmarked-equal : {L : Type 0} (type : LegType L) → IsTrue type.honest → UnmarkedStayEqual type
unmarked-equal type is_honest moves old new s outside runs goes = runs-outside type is_honest moves old new s outside runs goes

pub cooled-clear : {L : Type 0} (type : LegType L) → IsTrue type.honest → CooledMayClear type
cooled-clear type is_honest moves old new b s inside none runs leaves flush all_in_sync =
    let free = none-busy b old.stripe.records none in
    let last = runs-behind type b is_honest moves old new s inside free leaves runs in
    record {
      none = runs-still type is_honest moves old new b none runs leaves;
      holds = λ leg covered.
          let in_sync = all_in_sync leg covered in
          let there : leg < length new.stripe.legs = in_sync_inside type.model new.stripe last.stands.keeps.legs leg in_sync in
          runs-make type b is_honest moves leg old new s inside free leaves (flush leg (omega (arith, there, last.count))) runs (inr in_sync);
    }
