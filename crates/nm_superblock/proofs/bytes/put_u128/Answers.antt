use Rattle.nm_superblock.specs.Layout.{be}
use Rattle.nm_superblock.proofs.Writing.{take-number}
use Rattle.nm_superblock.proofs.bytes.put_u128.Goals as goal

pub returns : goal.returns
unfolding be
returns c =
    take-number 16 c.args.at c.args.number c.args.bytes.now c.write_u128.new.buf c.requires c.write_u128.ensures
