-- A step of a copy that reads or writes up to so many blocks of its chunk in one call.
use Rattle.std.specs.Prelude.{◌≡◌, ◌⊎◌, ℕ, ◌+◌, ◌-◌, ◌==◌, Bool, true, false}
use Rattle.std.specs.Prelude.{List, ◌++◌, drop, length, min, nat_lt, take, None, Some}
use Rattle.std.specs.Prelude.{if◌then◌else◌}
use Rattle.nm_replay.specs.declared.block.Block.{Block}
use Rattle.nm_leg.specs.Leg.{LegType}
use Rattle.nm_regions.specs.declared.copy_place.CopyPlace.{CopyPlace}
use Rattle.nm_rules.specs.Copy.{GoesOn, chunk_copied}
use Rattle.nm_rules.specs.Lost.{lost}
use Rattle.nm_rules.specs.RunCalls.{ReadsRunAt, WritesRunAt}
use Rattle.nm_rules.specs.State.{Chunk, StripeState, copy_start, is_last, table, with_table}

-- the chunk's next blocks that are to be written, at most so many
abbrev pub next_blocks : ℕ → Chunk → List Block
next_blocks most chunk =
    take (min most (chunk.length - chunk.written)) (drop chunk.written chunk.blocks)

-- the stripe once the chunk's next blocks were read from the master
abbrev pub after_copy_read_run : {L : Type 0} → StripeState L → List L → CopyPlace → Chunk
    → List Block → StripeState L
after_copy_read_run old legs copy chunk found = record old {
  legs = legs;
  copy = Some copy;
  chunk = Some (record chunk { blocks = chunk.blocks ++ found });
}

-- the stripe once so many of the chunk's blocks were written to the leg: with its last block it
-- closes
abbrev pub after_copy_write_run : {L : Type 0} → StripeState L → List L → Chunk → ℕ → StripeState L
after_copy_write_run old legs chunk count =
    if chunk.written + count == chunk.length
    then record (with_table (chunk_copied chunk.length (table old)) old)
    { legs = legs; chunk = None }
    else record old
    { legs = legs; chunk = Some (record chunk { written = chunk.written + count }) }

-- the step reads the chunk's next blocks from the master: as many as it may, and the chunk has
pub record CallsToCopyReadRun {L : Type 0} (type : LegType L) (succeeded : Bool)
    (old : StripeState L) (legs : List L) (copy : CopyPlace) (chunk : Chunk) (most : ℕ)
    (found : List Block) : Type 0 where
  pub not_filled : nat_lt (length chunk.blocks) chunk.length ≡ true
  pub count : length found ≡ min most (chunk.length - length chunk.blocks)
  pub reads : ReadsRunAt type succeeded old.master
      (copy_start old.place.region copy + length chunk.blocks) found old.legs legs

-- the step writes the chunk's next blocks to the leg: all of its blocks are read
pub record CallsToCopyWriteRun {L : Type 0} (type : LegType L) (succeeded : Bool)
    (old : StripeState L) (legs : List L) (copy : CopyPlace) (chunk : Chunk) (most : ℕ)
    : Type 0 where
  pub filled : nat_lt (length chunk.blocks) chunk.length ≡ false
  pub writes : WritesRunAt type succeeded copy.leg
      (copy_start old.place.region copy + chunk.written) (next_blocks most chunk) old.legs legs

-- a step that read blocks
pub record CopiesReadRun {L : Type 0} (type : LegType L) (old new : StripeState L)
    (leg most from : ℕ) : Type 0 where
  pub copy : CopyPlace
  pub chunk : Chunk
  pub found : List Block
  pub on : GoesOn old leg from copy chunk
  pub called : CallsToCopyReadRun type true old new.legs copy chunk most found
  pub after : new ≡ after_copy_read_run old new.legs copy chunk found

-- a step that wrote blocks
pub record CopiesWriteRun {L : Type 0} (type : LegType L) (old new : StripeState L)
    (leg most from : ℕ) : Type 0 where
  pub copy : CopyPlace
  pub chunk : Chunk
  pub on : GoesOn old leg from copy chunk
  pub called : CallsToCopyWriteRun type true old new.legs copy chunk most
  pub after : new ≡ after_copy_write_run old new.legs chunk (length (next_blocks most chunk))

-- a step whose call failed, of which this leg has gone out: the master in a read, else the leg
pub record LosesInCopyRun {L : Type 0} (type : LegType L) (old new : StripeState L)
    (leg gone most from : ℕ) : Type 0 where
  pub copy : CopyPlace
  pub chunk : Chunk
  pub found : List Block
  pub on : GoesOn old leg from copy chunk
  pub called :
      ((gone ≡ old.master) × CallsToCopyReadRun type false old new.legs copy chunk most found)
      ⊎ ((gone ≡ leg) × CallsToCopyWriteRun type false old new.legs copy chunk most)
  pub not_last : is_last gone old ≡ false
  pub after : new ≡ lost gone (record old { legs = new.legs })

-- a step whose read failed at the master, the last leg in sync: no more than the leg changed
pub record FailsInCopyRun {L : Type 0} (type : LegType L) (old new : StripeState L)
    (leg most from : ℕ) : Type 0 where
  pub copy : CopyPlace
  pub chunk : Chunk
  pub found : List Block
  pub on : GoesOn old leg from copy chunk
  pub called : CallsToCopyReadRun type false old new.legs copy chunk most found
  pub last : is_last old.master old ≡ true
  pub after : new ≡ record old { legs = new.legs }
