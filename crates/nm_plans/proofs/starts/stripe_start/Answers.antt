-- One leg more stands, and the others stay.
use Rattle.std.proofs.Common.{ℕ, ◌<◌, Bool, false, ⊎_elim, slice_set, slice_index_or, sym, ◌∙◌, subst, arith}
use Rattle.std.proofs.lemmas.List.{get_or-set_other, get_or-set_same, length-set}
use Rattle.std.proofs.lemmas.Bool.{cases_eq}
use Rattle.nm_rules.specs.declared.leg_opening.LegOpening.{LegOpening}
use Rattle.nm_rules.specs.declared.leg_opening.LegOpening.TheVariants.{Missing}
use Rattle.nm_plans.specs.Plan.{OpensBy}
use Rattle.nm_plans.proofs.starts.stripe_start.Goals as goal

pub legs-preserved : goal.legs-preserved
legs-preserved c =
    let old = c.legs.legs in
    let own = c.legs.leg in
    let is = c.leg_opening.result in
    let long = c.legs.invariant.0 in
    let inside : own < 8 = c.legs-test.true in
    let stands : ℕ → LegOpening → Type 0 = λ leg opening. OpensBy leg c.args.stripe c.args.image.now (slice_index_or c.args.here.now leg false) opening in (
      length-set old own is ∙ long,
      λ leg below. ⊎_elim
          (λ same. subst (λ (k : ℕ). stands k (slice_index_or (slice_set old own is) k Missing)) (sym same)
          (subst (stands own) (sym (get_or-set_same old own is Missing (omega (arith, long, inside))))
          (subst (λ (b : Bool). OpensBy own c.args.stripe c.args.image.now b is) c.has.ensures c.leg_opening.ensures)))
          (λ other. subst (stands leg) (sym (get_or-set_other old own leg is Missing other)) (c.legs.invariant.1 leg (omega (arith, below, other))))
          (cases_eq leg own),
    )
