-- A stripe that a start opened by the superblock goes on behind its gate.
use Rattle.std.proofs.Common.{◌≡◌, ◌⊎◌, ⊎_elim, inl, inr, ℕ, true, refl, sym, ap, ◌∙◌, subst, slice_get, slice_index_or}
use Rattle.nm_choice.specs.declared.leg_state.LegState.TheVariants.{InSync, Joining, Out}
use Rattle.nm_leg.specs.Leg.{LegType}
use Rattle.nm_rules.specs.Array.{contents_of, stripe_array}
use Rattle.nm_rules.specs.Reopening.{Reopening, reopened}
use Rattle.nm_rules.specs.State.{StripeState}
use Rattle.nm_rules.proofs.ReopeningLemmas.{reopened-array}
use Rattle.nm_gate.specs.Durable.{Durable, is_lacking, is_listed, is_named}
use Rattle.nm_gate.specs.Moves.{Gated}
use Rattle.nm_gate.specs.Saves.{AllListed, IsCovered}
use Rattle.nm_gate.specs.Survive.{EqualOutside, NamedHold, Stands}
use Rattle.nm_gate.proofs.Reopened.{left-holds, restarts-right}
use Rattle.nm_plans.specs.Stands.{AreDurable, StartsBy, StartsGoOn}

module _ {L : Type 0} (type : LegType L) (old : Gated L) (r : Reopening L) (e : Durable) (by : StartsBy type old r e) where
  abbrev new : StripeState L
  new = reopened old.stripe.place r

  start-stands : Stands type new e
  start-stands = record {
    keeps = (restarts-right type old r by.stands by.outside by.goes).0;
    runs = refl;
    apart = λ leg named joins.
        let is : slice_index_or r.states leg Out ≡ InSync = subst (λ (l : ℕ). slice_index_or r.states l Out ≡ InSync) (sym (by.image.alone leg named)) by.goes.may.master in
        absurd (let clash : InSync ≡ Joining = sym is ∙ joins in cc);
  }

  master-holds : (block : ℕ) → slice_get (contents_of type.model r.legs r.master) block ≡ slice_get (stripe_array type.model new) block
  master-holds block = sym (reopened-array type old.stripe.place r by.goes.may block)

  start-holds : NamedHold type new e
  start-holds leg block named inside none =
      ap (λ (l : ℕ). slice_get (contents_of type.model r.legs l) block) (by.image.alone leg named) ∙ master-holds block

  start-listed : AllListed new e
  start-listed leg is = subst (λ (l : ℕ). is_listed l e ≡ true) (sym (by.only leg is)) by.image.listed

  covered : (leg : ℕ) → IsCovered new e leg → (is_named leg old.durable ≡ true) ⊎ (is_lacking leg old.durable ≡ true)
  covered leg (inl named) = inl (subst (λ (l : ℕ). is_named l old.durable ≡ true) (sym (by.image.alone leg named)) by.goes.named)
  covered leg (inr (inl lacking)) = by.image.lacking leg lacking
  covered leg (inr (inr is)) = inl (subst (λ (l : ℕ). is_named l old.durable ≡ true) (sym (by.only leg is)) by.goes.named)

  start-equal : AreDurable type.model r → EqualOutside type new e
  start-equal settled block inside unmarked = record {
    none = tt;
    holds = λ leg is.
        let free = by.image.marked block unmarked in
        let here = left-holds type old.stripe old.durable by.outside r.legs by.goes.left leg block inside free (⊎_elim (λ named. inl named) (λ lacking. inr (inl lacking)) (covered leg is)) in
        let there = left-holds type old.stripe old.durable by.outside r.legs by.goes.left r.master block inside free (inl by.goes.named) in
        record { holds = here ∙ sym there ∙ master-holds block; durable = settled leg block };
  }

pub starts-go-on : {L : Type 0} (type : LegType L) → StartsGoOn type
starts-go-on type old r e by = record {
  stands = start-stands type old r e by;
  hold = start-holds type old r e by;
  listed = start-listed type old r e by;
  equal = start-equal type old r e by;
}
