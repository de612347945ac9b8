-- Arrays of blocks, and the operations on them.
use Rattle.std.specs.Prelude.{◌≡◌, ℕ, ◌+◌, List, ◌++◌, length, take, drop, slice_set}
use Rattle.nm_replay.specs.declared.block.Block.{Block}

-- an array is a list of blocks
abbrev pub Array : Type 0
Array = List Block

-- an operation reads one block of an array, or writes bytes to one
pub data Operation : Type 0 where
  Reads : (block : ℕ) → Operation
  Writes : (block : ℕ) (bytes : Block) → Operation

-- what an operation leaves of an array: a read leaves it as it is, a write sets its block alone
abbrev pub after : Operation → Array → Array
after (Reads block) array = array
after (Writes block bytes) array = slice_set array block bytes

-- what a write changes of its block: all of it, or so many bytes from a place on
pub data Span : Type 0 where
  Entire : Span
  Piece : (from len : ℕ) → Span

-- what a write puts into its block: a whole block, or bytes for a part of it, from a place on
pub data Put : Type 0 where
  Whole : (bytes : Block) → Put
  Part : (from : ℕ) (bytes : List ℕ) → Put

-- so many bytes of a block, from a place on
abbrev pub part_of : ℕ → ℕ → Block → List ℕ
part_of from len block = take len (drop from block.0)

-- a block with bytes laid over it, from a place on
abbrev pub laid_at : ℕ → List ℕ → Block → Block
laid_at from bytes block =
    record { 0 = take from block.0 ++ (bytes ++ drop (from + length bytes) block.0) }

-- what a write of this span put, where it left these bytes in its block
abbrev pub put_of : Span → Block → Put
put_of Entire bytes = Whole bytes
put_of (Piece from len) bytes = Part from (part_of from len bytes)

-- two blocks are the same but for so many bytes from a place on
pub record SameOutside (from len : ℕ) (old new : Block) : Type 0 where
  pub before : take from new.0 ≡ take from old.0
  pub rest : drop (from + len) new.0 ≡ drop (from + len) old.0
