-- What a start finds that opens a stripe by the superblock.
use Rattle.std.proofs.Common.{◌≡◌, ◌⊎◌, ⊎_elim, inl, inr, ℕ, zero, suc, ◌<◌, arith, length, true, false, IsTrue, List, [], ◌∷◌, sym, ap, ◌∙◌, slice_get, slice_index_or}
use Rattle.nm_choice.specs.declared.leg_state.LegState.{LegState}
use Rattle.nm_choice.specs.declared.leg_state.LegState.TheVariants.{InSync, Out}
use Rattle.nm_leg.specs.Leg.{LegType}
use Rattle.nm_rules.specs.Array.{contents_of, stripe_array}
use Rattle.nm_rules.specs.Reopening.{AgreeWhereClear}
use Rattle.nm_rules.specs.State.{StripeState}
use Rattle.nm_rules.proofs.RecordLemmas.{one_or_two}
use Rattle.nm_rules.proofs.ReopeningLemmas.{reopened-array, reopened-keeps}
use Rattle.nm_gate.specs.Durable.{Durable, is_lacking, is_named}
use Rattle.nm_gate.specs.Gate.{is_marked_at}
use Rattle.nm_gate.specs.Restart.{AnsweredFoundAgain, AreLeft, FlushedFoundAgain, RestartsAreRight}
use Rattle.nm_gate.specs.Saves.{IsCovered}
use Rattle.nm_gate.specs.Survive.{EqualOutside}
use Rattle.nm_gate.proofs.Acknowledged.{runs-held}
use Rattle.nm_gate.proofs.Runs.{flushed-survive, runs-behind}

module _ {L : Type 0} (type : LegType L) (old : StripeState L) (d : Durable) (outside : EqualOutside type old d) (legs : List L) (left : AreLeft type.model old legs) where
  -- in an unmarked span a leg that is covered holds the old array after the crash
  pub left-holds : (leg b : ℕ) → b < old.place.blocks → is_marked_at b old d ≡ false → IsCovered old d leg → slice_get (contents_of type.model legs leg) b ≡ slice_get (stripe_array type.model old) b
  left-holds leg b inside unmarked covered =
      let held = (outside b inside unmarked).holds leg covered in
      ⊎_elim (λ durable. durable ∙ held.durable ∙ held.holds) (λ kept. kept ∙ held.holds) (left.blocks leg b)

pub restarts-right : {L : Type 0} (type : LegType L) → RestartsAreRight type
restarts-right {L} type old r s outside g = (
  reopened-keeps type old.stripe.place r g.may agree,
  λ b inside unmarked. reopened-array type old.stripe.place r g.may b ∙ left-holds type old.stripe old.durable outside r.legs g.left r.master b inside unmarked (inl g.named),
)
  where
    covers : (leg : ℕ) → (is_named leg old.durable ≡ true) ⊎ (is_lacking leg old.durable ≡ true) → IsCovered old.stripe old.durable leg
    covers leg either = ⊎_elim (λ named. inl named) (λ lacking. inr (inl lacking)) either

    agree : IsTrue type.honest → AgreeWhereClear type.model old.stripe.place r
    agree honest leg b within inside clear =
        ⊎_elim
        (λ e. ap (λ (i : ℕ). slice_get (contents_of type.model r.legs i) b) e)
        (λ ne.
        let by = g.behind leg b within inside ne clear in
        left-holds type old.stripe old.durable outside r.legs g.left leg b inside by.0 (covers leg by.1)
        ∙ sym (left-holds type old.stripe old.durable outside r.legs g.left r.master b inside by.0 (inl g.named)))
        (one_or_two leg r.master)

-- a leg in sync is one of the states
pub state-inside : (states : List LegState) (leg : ℕ) → slice_index_or states leg Out ≡ InSync → leg < length states
state-inside [] leg is = absurd (cc)
state-inside (x ∷ states) zero is = omega arith
state-inside (x ∷ states) (suc leg) is = let more = state-inside states leg is in omega (arith, more)

pub flushed-again : {L : Type 0} (type : LegType L) → IsTrue type.honest → FlushedFoundAgain type
flushed-again type is_honest moves later first mid old b r s inside free runs leaves flush more leaves_more g =
    let begun = runs-behind type b is_honest moves first mid s inside free leaves runs in
    let last = runs-behind type b is_honest later mid old begun.stands begun.inside begun.free leaves_more more in
    let there : r.master < length first.stripe.legs = omega (arith, state-inside r.states r.master g.may.master, g.may.state_each, g.left.count, last.count, begun.count) in
    reopened-array type old.stripe.place r g.may b
    ∙ flushed-survive type is_honest moves later first mid old b r.master r.legs s inside free runs leaves flush more leaves_more there g.named (g.left.blocks r.master b)

pub answered-again : {L : Type 0} (type : LegType L) → IsTrue type.honest → AnsweredFoundAgain type
answered-again type is_honest moves first old b r s hold runs goes g same inside none =
    reopened-array type old.stripe.place r g.may b
    ∙ same r.master b
    ∙ runs-held type is_honest moves first old s hold runs goes r.master b g.named inside none
