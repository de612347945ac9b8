-- One stripe more is told, if the mirror has it.
use Rattle.std.proofs.Common.{arith, refl, subst, sym}
use Rattle.nm_assemble.specs.Image.{IsEqualTo}
use Rattle.nm_assemble.proofs.SetLemmas.{nothing-yet, others-told, stripe-more, stripe-past}
use Rattle.nm_assemble.specs.StripeSets.{HasThese}
use Rattle.nm_assemble.proofs.first.sets_alone.Goals.{then-stripe-stripes, else-stripe-stripes}
use Rattle.nm_assemble.proofs.first.sets_alone.Goals as goal

pub stripes-init : goal.stripes-init
stripes-init c = (
  refl,
  record {
    says = λ stripe below own. absurd (omega (arith, below));
    others = λ stripe below past. absurd (omega (arith, below));
  },
  nothing-yet,
)

pub stripes-preserved : goal.stripes-preserved
stripes-preserved c = elim c.if-stripe-stripes.branch [
  | then-stripe-stripes w ↦
      let others = subst (HasThese 8 (IsEqualTo c.args.master c.args.equal.now))
      (sym c.without-others.ensures)
      (others-told c.args.master c.args.equal.now c.alone-named.result c.alone-named.ensures) in
      let more = stripe-more c.stripes.stripe _ _ _ _ _ _ _ _ _
      c.stripes.invariant.1 c.stripes.invariant.2 w.put.ensures w.if-stripe-stripes.true
      c.alone-named.ensures others others in
      rw w.sets-is (w.put.ensures.size, more.0, more.1)
  | else-stripe-stripes w ↦
      let more = stripe-past c.stripes.stripe _ _ _ _ _
      c.stripes.invariant.1 c.stripes.invariant.2 c.stripes-test.true w.if-stripe-stripes.false in
      rw w.sets-is (c.stripes.invariant.0, more.0, more.1)
]
