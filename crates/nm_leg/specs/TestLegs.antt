-- What the legs for tests hold.
use Rattle.std.specs.Prelude.{ℕ, ◌+◌, ◌*◌, ◌/◌, List, ◌++◌, length, take, drop, slice_set}
use Rattle.nm_replay.specs.declared.block.Block.{Block}
use Rattle.nm_replay.specs.Array.{Array}
use Rattle.nm_leg.specs.Leg.{Leg, block_of, blocks_in, blocks_of, no_marks, set_run, zeroed_leg}
use Rattle.nm_leg.specs.declared.cached_leg.CachedLeg.{CachedLeg}
use Rattle.nm_leg.specs.declared.failing_leg.FailingLeg.{FailingLeg}
use Rattle.nm_leg.specs.declared.fuse_leg.FuseLeg.{FuseLeg}
use Rattle.nm_leg.specs.declared.lying_leg.LyingLeg.{LyingLeg}

-- what was written, what was synced, and no fault
abbrev pub of_cached : CachedLeg → Leg
of_cached leg = record {
  contents = leg.contents.items;
  durable = leg.durable.items;
  unsynced = leg.unsynced.items;
  faults = 0;
}

-- zero blocks for ever, and the faults so far
abbrev pub of_failing : FailingLeg → Leg
of_failing leg = record (zeroed_leg leg.blocks) { faults = leg.faults }

-- zero blocks, it claims
abbrev pub of_lying : LyingLeg → Leg
of_lying leg = zeroed_leg leg.blocks

-- these blocks, all of them durable, and so many faults
abbrev pub durable_leg : Array → ℕ → Leg
durable_leg blocks faults = record {
  contents = blocks;
  durable = blocks;
  unsynced = no_marks (length blocks);
  faults = faults;
}

-- what was written, all of it durable, and the faults so far
abbrev pub of_fuse : FuseLeg → Leg
of_fuse leg = durable_leg leg.blocks.items leg.faults

-- the first half of a run's bytes, 256 of one block
abbrev pub half_of : List ℕ → List ℕ
half_of bytes = take (length bytes / 2) bytes

-- the block where the second half of a run's bytes begins
abbrev pub torn_at : ℕ → List ℕ → ℕ
torn_at at bytes = at + blocks_in (half_of bytes)

-- a block of which only these bytes were written, and the rest are as they were
abbrev pub torn_block : List ℕ → Block → Block
torn_block bytes was = block_of (bytes ++ drop (length bytes) was.0)

-- An array in which a write of a run failed halfway: the first half of its bytes are new. The block
-- where the second half begins is what it was but for the bytes of the first half in it.
abbrev pub torn_run : ℕ → List ℕ → Block → Array → Array
torn_run at bytes was array =
    let half = half_of bytes in
    slice_set (set_run at (blocks_of half) array) (torn_at at bytes)
    (torn_block (drop (512 * blocks_in half) half) was)
