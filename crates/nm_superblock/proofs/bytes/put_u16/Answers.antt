use Rattle.nm_superblock.specs.Layout.{be}
use Rattle.nm_superblock.proofs.Writing.{take-number}
use Rattle.nm_superblock.proofs.bytes.put_u16.Goals as goal

pub returns : goal.returns
unfolding be
returns c =
    take-number 2 c.args.at c.args.number c.args.bytes.now c.write_u16.new.buf c.requires c.write_u16.ensures
