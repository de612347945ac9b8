use Rattle.std.proofs.Common.{◌≡◌, ◌*◌, length, take}
use Rattle.nm_superblock.specs.Sectors.{pieces_of}
use Rattle.nm_superblock.proofs.sectors.read_pieces.Given as goal

-- the pieces of the first sectors are read
abbrev pub invariant-sectors : goal.invariant-sectors
invariant-sectors l = (length l.payload ≡ 3968) × (take (496 * l.number) l.payload ≡ pieces_of l.number l.slot)
