-- What a record keeps of data is as many bytes as its blocks have.
use Rattle.std.proofs.Common.{◌≡◌, ℕ, ◌+◌, ◌*◌, ◌<◌, ◌≤◌, List, ◌++◌, length, take, drop, replicate, refl, ap, arith}
use Rattle.std.proofs.lemmas.List.{length-append, length-drop, length-replicate, length-take}
use Rattle.nm_replay.specs.declared.block.Block.{Block}
use Rattle.nm_replay.specs.Array.{laid_at}
use Rattle.nm_fanout.specs.declared.block_data.Data.{Data}
use Rattle.nm_fanout.specs.declared.block_data.Data.TheVariants.{Cut, Zero, Part, ZeroPart}
use Rattle.nm_fanout.specs.declared.record_data.RecordData.{RecordData}
use Rattle.nm_fanout.specs.Data.{FitsBlock, FitsBlocks, data_blocks}
use Rattle.nm_fanout.specs.Laying.{data_over}
use Rattle.nm_fanout.specs.RecordData.{FillsBlock, FillsBlocks, LiesInside, blocks_in, bytes_of, span_of, zero_bytes}

pub length-zero_bytes : (n : ℕ) → length (zero_bytes n) ≡ n
unfolding zero_bytes
length-zero_bytes n = length-replicate {A = ℕ} n 0

-- a part leaves the block as long as it is
pub length-laid_at : (from : ℕ) (bytes : List ℕ) (block : Block) → length block.0 ≡ 512
    → from + length bytes ≤ 512 → length (laid_at from bytes block).0 ≡ 512
length-laid_at from bytes block whole inside =
    let rest = drop (from + length bytes) block.0 in
    omega (
      arith,
      whole,
      inside,
      length-append (take from block.0) (bytes ++ rest),
      length-append bytes rest,
      length-take from block.0,
      length-drop (from + length bytes) block.0,
    )

-- data that fit a block fill it
pub FillsBlock-data_over : (d : Data) (block : Block) → length block.0 ≡ 512 → FitsBlock d
    → FillsBlock (data_over d block)
FillsBlock-data_over (Cut cut) block whole fits = fits
FillsBlock-data_over (Zero count) block whole fits = omega
    (arith, length-zero_bytes (512 * count), fits)
FillsBlock-data_over (Part from bytes) block whole fits = length-laid_at from bytes block whole fits.1
FillsBlock-data_over (ZeroPart from len) block whole fits =
    let all : length (replicate len 0) ≡ len = length-replicate {A = ℕ} len 0 in
    length-laid_at from (replicate len 0) block whole (omega (arith, fits.1, all))

-- and what they change lies inside it
pub LiesInside-data_over : (d : Data) (block : Block) → FitsBlock d
    → LiesInside (span_of (data_over d block))
LiesInside-data_over (Cut cut) block fits = tt
LiesInside-data_over (Zero count) block fits = tt
LiesInside-data_over (Part from bytes) block fits = fits.1
LiesInside-data_over (ZeroPart from len) block fits = fits.1

-- the same of data for a run
pub LiesInside-run : (d : Data) (block : Block) → FitsBlocks d
    → LiesInside (span_of (data_over d block))
LiesInside-run (Cut cut) block fits = tt
LiesInside-run (Zero count) block fits = tt
LiesInside-run (Part from bytes) block fits = fits.1
LiesInside-run (ZeroPart from len) block fits = fits.1

-- as many blocks are kept as were handed in
pub blocks-data_over : (d : Data) (block : Block) → blocks_in (data_over d block) ≡ data_blocks d
blocks-data_over (Cut cut) block = refl
blocks-data_over (Zero count) block = refl
blocks-data_over (Part from bytes) block = refl
blocks-data_over (ZeroPart from len) block = refl

-- at least one, and at most 128
between : (d : Data) (block : Block) → FitsBlocks d
    → (0 < blocks_in (data_over d block)) × (blocks_in (data_over d block) ≤ 128)
between (Cut cut) block fits = (fits.some, fits.most)
between (Zero count) block fits = fits
between (Part from bytes) block fits = (omega arith, omega arith)
between (ZeroPart from len) block fits = (omega arith, omega arith)

-- what is kept of data that fit a run fills its blocks
pub FillsBlocks-kept : (d : Data) (block : Block) (kept : RecordData) → FitsBlocks d
    → kept ≡ data_over d block → length (bytes_of kept) ≡ 512 * blocks_in kept → FillsBlocks kept
FillsBlocks-kept d block kept fits is whole =
    let b = between d block fits in
    let same = ap (λ (k : RecordData). blocks_in k) is in
    record { some = omega (arith, same, b.0); most = omega (arith, same, b.1); whole = whole }
