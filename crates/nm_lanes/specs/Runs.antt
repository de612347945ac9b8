-- Runs: what one step of a call writes or reads. The pieces of a range are joined to runs.
use Rattle.std.specs.Prelude.{◌≡◌, ℕ, ◌+◌, ◌*◌, ◌/◌, ◌%◌, ◌≤◌, ◌==◌, ◌&&◌, Bool, false}
use Rattle.std.specs.Prelude.{List, [], ◌∷◌, if◌then◌else◌}
use Rattle.nm_geometry.specs.declared.byte_range.ByteRange.{ByteRange}
use Rattle.nm_geometry.specs.declared.piece.Piece.{Piece}
use Rattle.nm_geometry.specs.Geometry.{Geometry}
use Rattle.nm_geometry.specs.Pieces.{pieces_of}
use Rattle.nm_lanes.specs.declared.run.Run.{Run}

-- a run has whole blocks; else it is a part of one block
abbrev pub is_whole : Run → Bool
is_whole run = run.len % 512 == 0

-- how many blocks a run has
abbrev pub run_blocks : Run → ℕ
run_blocks run = (run.len + 511) / 512

-- the bytes lie in the run's blocks, and a part in one block
pub record IsRun (run : Run) : Type 0 where
  pub fits : run.from + run.len ≤ 512 * run_blocks run
  pub part : is_whole run ≡ false → run_blocks run ≡ 1

-- one run may have both blocks: they lie in one region, and in one group of 128 blocks of it
abbrev pub in_one_run : Geometry → ℕ → ℕ → Bool
in_one_run shape one other =
    one / shape.region == other / shape.region
    && one % shape.region / 128 == other % shape.region / 128

-- a piece of a block is joined to the run behind it: both have whole blocks, which one run may have
abbrev pub is_joined : Geometry → Piece → Run → Bool
is_joined shape piece run =
    piece.len == 512 && is_whole run && in_one_run shape piece.block run.block

-- a piece as a run of its own
abbrev pub run_of : Piece → Run
run_of piece = record { block = piece.block; from = piece.from; len = piece.len }

-- a piece, and then these runs
abbrev pub before_runs : Geometry → Piece → List Run → List Run
before_runs shape piece [] = run_of piece ∷ []
before_runs shape piece (run ∷ runs) =
    if is_joined shape piece run
    then record { block = piece.block; from = piece.from; len = piece.len + run.len } ∷ runs
    else run_of piece ∷ run ∷ runs

-- the runs of pieces of blocks that follow one another
abbrev pub runs_of : Geometry → List Piece → List Run
runs_of shape [] = []
runs_of shape (piece ∷ pieces) = before_runs shape piece (runs_of shape pieces)

-- the runs of a range of bytes
abbrev pub runs_of_range : Geometry → ByteRange → List Run
runs_of_range shape range = runs_of shape (pieces_of range)
