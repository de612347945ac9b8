-- What a leg in a medium holds, where what its calls moved stands there.
use Rattle.std.specs.Prelude.{◌≡◌, ℕ, ◌+◌, ◌≤◌, List, length}
use Rattle.nm_leg.specs.Leg.{HoldsRun, blocks_in, blocks_of}
use Rattle.nm_geometry.specs.Geometry.{Geometry, stripe_blocks}
use Rattle.nm_file_leg.specs.Medium.{window}
use Rattle.nm_file_leg.specs.Blocks.{all_blocks}
use Rattle.nm_file_leg.specs.Called.{MovesRun}
use Rattle.nm_file_leg.specs.Runs.{run_places}

-- each call found what is here, or what it wrote is here
abbrev pub Stand : (moved : ℕ → List ℕ → Type 0) → (contents : List ℕ) → Type 0
Stand moved contents =
    (from : ℕ) (part : List ℕ) → moved from part → window from (length part) contents ≡ part

-- Where what calls moved stands in a medium, a run of which they moved each block stands in the
-- leg.
abbrev pub RunsStand : {M : Type 0} → (moved : M → ℕ → List ℕ → Type 0) → Type 0
RunsStand {M} moved =
    (medium : M) (contents : List ℕ) (stripe : ℕ) (shape : Geometry) (at : ℕ) (bytes : List ℕ)
    → Stand (moved medium) contents
    → at + blocks_in bytes ≤ stripe_blocks stripe shape
    → MovesRun (moved medium) (run_places stripe shape at) bytes
    → HoldsRun at (blocks_of bytes) (all_blocks stripe shape contents)
