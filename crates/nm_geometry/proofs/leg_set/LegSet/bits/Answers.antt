-- One bit more is set, or stays 0.
use Rattle.std.proofs.Common.{ℕ, ◌+◌, sym, subst, rules, arith}
use Rattle.nm_geometry.proofs.LegSetLemmas.{AreBits, bit-kept, bit-set}
use Rattle.nm_geometry.proofs.leg_set.LegSet.bits.Goals as goal
use Rattle.nm_geometry.proofs.leg_set.LegSet.bits.Goals.{then-self-leg, else-self-leg}

pub legs-preserved : goal.legs-preserved
legs-preserved c = elim c.if-self-leg.branch [
  | then-self-leg w ↦ subst (λ (b : ℕ). AreBits b c.args.self.now (c.legs.leg + 1)) (sym w.bits-is)
      (bit-set c.legs.bits c.args.self.now c.legs.leg c.legs.invariant (omega arith) (search (rules, w.if-self-leg)))
  | else-self-leg w ↦ subst (λ (b : ℕ). AreBits b c.args.self.now (c.legs.leg + 1)) (sym w.bits-is)
      (bit-kept c.legs.bits c.args.self.now c.legs.leg c.legs.invariant (omega arith) (search (rules, w.if-self-leg)))
]
