use Rattle.std.proofs.Common.{length, refl}
use Rattle.nm_superblock.proofs.Writing.{drop-part}
use Rattle.nm_superblock.proofs.bytes.put_bytes.Goals as goal

pub returns-clause-rest : goal.returns-clause-rest
returns-clause-rest c =
    drop-part (length c.args.piece.now) c.args.at c.args.bytes.now c.copy_from_slice.new.self c.requires
    (rw c.copy_from_slice.ensures.after refl)
