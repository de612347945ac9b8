-- What came of calls of a medium that several users call at once. Of what it holds nothing is
-- known, since others write it meanwhile; of each call it is known what it moved.
use Rattle.std.specs.Prelude.{◌≡◌, ℕ, ◌+◌, ◌-◌, ◌*◌, ◌<◌, ◌≤◌, ◌⊎◌, IsTrue, List, length}
use Rattle.nm_leg.specs.Leg.{blocks_in}
use Rattle.nm_leg.specs.Call.{Call, Found, Reads, Writes, Zeroes, Syncs, zero_blocks}
use Rattle.nm_geometry.specs.Geometry.{Geometry}
use Rattle.nm_file_leg.specs.Medium.{window}
use Rattle.nm_file_leg.specs.Runs.{bytes_of, run_places}

-- What calls moved: that one found these bytes from a place on, that one wrote them there, and that
-- a sync succeeded.
pub record Moved : Type 1 where
  pub found : ℕ → List ℕ → Type 0
  pub wrote : ℕ → List ℕ → Type 0
  pub synced : Type 0

-- a call moved the bytes of a block at its place, perhaps among others
pub record MovesBlock (moved : ℕ → List ℕ → Type 0) (place : ℕ) (block : List ℕ) : Type 0 where
  pub from : ℕ
  pub all : List ℕ
  pub call : moved from all
  pub above : from ≤ place
  pub below : place + 512 ≤ from + length all
  pub is : window (place - from) 512 all ≡ block

-- calls moved each block of a run whose blocks have these places
abbrev pub MovesRun : (moved : ℕ → List ℕ → Type 0) → (places : ℕ → ℕ) → List ℕ → Type 0
MovesRun moved places bytes =
    (number : ℕ) → number < blocks_in bytes
    → MovesBlock moved (places number) (bytes_of number bytes)

-- bytes that a write need not write again: it wrote them, or found them there
abbrev pub wrote_or_found : (found wrote : ℕ → List ℕ → Type 0) → ℕ → List ℕ → Type 0
wrote_or_found found wrote at bytes = wrote at bytes ⊎ found at bytes

-- these are what calls moved
abbrev pub moved : (found wrote : ℕ → List ℕ → Type 0) → (synced : Type 0) → Moved
moved found wrote synced = record { found = found; wrote = wrote; synced = synced }

-- What comes of a call of the leg of a stripe that a medium keeps, by what calls of the medium
-- moved: where it succeeds, they moved each of its blocks in its place, or a sync succeeded.
abbrev pub AnswersIn : Moved → (stripe : ℕ) → Geometry → Call → Found → Type 0
AnswersIn m stripe shape (Reads at count) came = (length came.filled ≡ 512 * count)
    × (IsTrue came.done → MovesRun m.found (run_places stripe shape at) came.filled)
AnswersIn m stripe shape (Writes at bytes) came = IsTrue came.done
    → MovesRun (wrote_or_found m.found m.wrote) (run_places stripe shape at) bytes
AnswersIn m stripe shape (Zeroes at count) came = IsTrue came.done
    → MovesRun (wrote_or_found m.found m.wrote) (run_places stripe shape at) (zero_blocks count)
AnswersIn m stripe shape Syncs came = IsTrue came.done → m.synced
