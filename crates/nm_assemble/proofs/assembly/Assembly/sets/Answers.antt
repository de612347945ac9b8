-- One stripe more is told, if the mirror has it.
use Rattle.std.proofs.Common.{arith, refl}
use Rattle.nm_assemble.proofs.SetLemmas.{nothing-yet, stripe-more, stripe-past}
use Rattle.nm_assemble.proofs.assembly.Assembly.sets.Goals.{then-stripe-self, else-stripe-self}
use Rattle.nm_assemble.proofs.assembly.Assembly.sets.Goals as goal

pub stripes-init : goal.stripes-init
stripes-init c = (
  refl,
  record {
    says = λ stripe below own. absurd (omega (arith, below));
    others = λ stripe below past. absurd (omega (arith, below));
  },
  nothing-yet,
)

pub stripes-preserved : goal.stripes-preserved
stripes-preserved c = elim c.if-stripe-self.branch [
  | then-stripe-self w ↦
      let more = stripe-more c.stripes.stripe _ _ _ _ _ _ _ _ _
      c.stripes.invariant.1 c.stripes.invariant.2 w.put.ensures w.if-stripe-self.true
      w.named_set-named.ensures w.candidate_set-candidates.ensures w.partial_set-partial.ensures in
      rw w.sets-is (w.put.ensures.size, more.0, more.1)
  | else-stripe-self w ↦
      let more = stripe-past c.stripes.stripe _ _ _ _ _
      c.stripes.invariant.1 c.stripes.invariant.2 c.stripes-test.true w.if-stripe-self.false in
      rw w.sets-is (c.stripes.invariant.0, more.0, more.1)
]
