use Rattle.nm_wire.specs.Number.{be}
use Rattle.nm_wire.proofs.Numbers.{drop-written, take-written}
use Rattle.nm_wire.proofs.number.put_u16.Goals as goal

pub returns-clause-written : goal.returns-clause-written
unfolding be
returns-clause-written c =
    take-written 2 c.args.at c.args.number c.args.bytes.now c.write_u16.new.buf c.requires c.write_u16.ensures

pub returns-clause-rest : goal.returns-clause-rest
unfolding be
returns-clause-rest c =
    drop-written 2 c.args.at c.args.number c.args.bytes.now c.write_u16.new.buf c.requires c.write_u16.ensures
