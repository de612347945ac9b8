use Rattle.std.proofs.Common.{◌≡◌, ◌*◌, length, take}
use Rattle.nm_superblock.specs.Layout.{sectors_bytes}
use Rattle.nm_superblock.proofs.sectors.write_sectors.Given as goal

-- the first sectors are written
abbrev pub invariant-sectors : goal.invariant-sectors
invariant-sectors l = (length l.slot ≡ 4096) × (take (512 * l.number) l.slot ≡ sectors_bytes l.version l.generation l.number l.payload)
