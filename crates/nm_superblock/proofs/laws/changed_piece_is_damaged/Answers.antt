-- The heads stay, under one stamp.
use Rattle.nm_superblock.proofs.Pieces.{changed-piece}
use Rattle.nm_superblock.proofs.laws.changed_piece_is_damaged.Goals as goal

pub returns : goal.returns
returns c = changed-piece
