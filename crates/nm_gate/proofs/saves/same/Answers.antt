-- Bit by bit.
use Rattle.nm_gate.proofs.Bits.{same-bits}
use Rattle.nm_gate.proofs.saves.same.Goals as goal

pub returns : goal.returns
returns c = same-bits c.args.one.now c.args.other.now c.eq.result c.eq.ensures
