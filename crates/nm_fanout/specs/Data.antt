-- What a write puts into its blocks, as it is handed in.
use Rattle.std.specs.Prelude.{◌≡◌, ℕ, ◌+◌, ◌*◌, ◌/◌, ◌<◌, ◌≤◌, Bool, true, false, length}
use Rattle.std.specs.Prelude.{replicate}
use Rattle.nm_replay.specs.Array.{Put, Whole, Part as PartPut}
use Rattle.nm_fanout.specs.declared.block_data.Data.{Data}
use Rattle.nm_fanout.specs.declared.block_data.Data.TheVariants.{Cut, Zero, Part, ZeroPart}
use Rattle.nm_fanout.specs.RecordData.{zero_bytes}

-- so many bytes are those of 1 to 128 whole blocks
pub record AreBlocks (bytes : ℕ) : Type 0 where
  pub some : 0 < bytes / 512
  pub most : bytes / 512 ≤ 128
  pub whole : bytes ≡ 512 * (bytes / 512)

-- the data fit the blocks of a run, or they are for a part of one block, inside it
abbrev pub FitsBlocks : Data → Type 0
FitsBlocks (Cut cut) = AreBlocks (length cut)
FitsBlocks (Zero count) = (0 < count) × (count ≤ 128)
FitsBlocks (Part from bytes) = (0 < length bytes) × (from + length bytes ≤ 512)
FitsBlocks (ZeroPart from len) = (0 < len) × (from + len ≤ 512)

-- how many blocks the data are for
abbrev pub data_blocks : Data → ℕ
data_blocks (Cut cut) = length cut / 512
data_blocks (Zero count) = count
data_blocks (Part from bytes) = 1
data_blocks (ZeroPart from len) = 1

-- the data fit one block: they are as many bytes as it has, or at least one that lie inside it
abbrev pub FitsBlock : Data → Type 0
FitsBlock (Cut cut) = length cut ≡ 512
FitsBlock (Zero count) = count ≡ 1
FitsBlock (Part from bytes) = (0 < length bytes) × (from + length bytes ≤ 512)
FitsBlock (ZeroPart from len) = (0 < len) × (from + len ≤ 512)

-- whether the data are for a part of a block
abbrev pub is_part : Data → Bool
is_part (Cut cut) = false
is_part (Zero count) = false
is_part (Part from bytes) = true
is_part (ZeroPart from len) = true

-- what the data put into a block
abbrev pub put_of_data : Data → Put
put_of_data (Cut cut) = Whole (record { 0 = cut })
put_of_data (Zero count) = Whole (record { 0 = zero_bytes (512 * count) })
put_of_data (Part from bytes) = PartPut from bytes
put_of_data (ZeroPart from len) = PartPut from (replicate len 0)
