use Rattle.std.proofs.Common.{arith}
use Rattle.nm_wire.proofs.Numbers.{take-number}
use Rattle.nm_wire.proofs.number.get_u64.Goals as goal

pub returns : goal.returns
returns c =
    take-number 8 c.args.at c.read_u64.result c.args.bytes.now (λ i. let byte = c.type_inv.bytes i in omega arith)
    c.requires c.read_u64.ensures
