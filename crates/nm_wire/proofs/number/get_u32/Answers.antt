use Rattle.std.proofs.Common.{arith}
use Rattle.nm_wire.proofs.Numbers.{take-number}
use Rattle.nm_wire.proofs.number.get_u32.Goals as goal

pub returns : goal.returns
returns c =
    take-number 4 c.args.at c.read_u32.result c.args.bytes.now (λ i. let byte = c.type_inv.bytes i in omega arith)
    c.requires c.read_u32.ensures
