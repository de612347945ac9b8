use Rattle.nm_superblock.specs.Layout.{be}
use Rattle.nm_superblock.proofs.Writing.{take-number}
use Rattle.nm_superblock.proofs.bytes.put_u64.Goals as goal

pub returns : goal.returns
unfolding be
returns c =
    take-number 8 c.args.at c.args.number c.args.bytes.now c.write_u64.new.buf c.requires c.write_u64.ensures
