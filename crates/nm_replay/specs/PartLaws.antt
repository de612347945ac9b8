-- Laws of parts of blocks, over the definitions alone.
use Rattle.std.specs.Prelude.{◌≡◌, ℕ, ◌+◌, ◌≤◌, List, length}
use Rattle.nm_replay.specs.declared.block.Block.{Block}
use Rattle.nm_replay.specs.Array.{part_of, laid_at, SameOutside}

-- bytes that were laid over a block, inside it, are found in their place
abbrev pub PartIsWhereLaid : Type 0
PartIsWhereLaid =
    (from : ℕ) (bytes : List ℕ) (block : Block) → from + length bytes ≤ length block.0
    → part_of from (length bytes) (laid_at from bytes block) ≡ bytes

-- and the rest of the block is as it was
abbrev pub LayingKeepsTheRest : Type 0
LayingKeepsTheRest =
    (from : ℕ) (bytes : List ℕ) (block : Block) → from + length bytes ≤ length block.0
    → SameOutside from (length bytes) block (laid_at from bytes block)

-- as many bytes as it had
abbrev pub LayingKeepsTheLength : Type 0
LayingKeepsTheLength =
    (from : ℕ) (bytes : List ℕ) (block : Block) → from + length bytes ≤ length block.0
    → length (laid_at from bytes block).0 ≡ length block.0

-- a block that is another's outside a part is that one with the part laid over it
abbrev pub SameOutsideIsLaid : Type 0
SameOutsideIsLaid =
    (from len : ℕ) (old new : Block) → from + len ≤ length new.0 → SameOutside from len old new
    → new ≡ laid_at from (part_of from len new) old
