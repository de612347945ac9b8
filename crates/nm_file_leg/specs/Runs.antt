-- What the calls for one run of a stripe's blocks do to a medium: one call for each region that the
-- run lies in.
use Rattle.std.specs.Prelude.{◌≡◌, ℕ, ◌+◌, ◌*◌, ◌<◌, Bool, IsTrue, List}
use Rattle.nm_leg.specs.Leg.{blocks_in}
use Rattle.nm_geometry.specs.Geometry.{Geometry}
use Rattle.nm_file_leg.specs.Medium.{Held, Owns, Kept, Apart, window}
use Rattle.nm_file_leg.specs.Blocks.{first_byte}

-- where each block of a run begins in the medium
abbrev pub run_places : (stripe : ℕ) → Geometry → (at : ℕ) → ℕ → ℕ
run_places stripe shape at number = first_byte stripe shape (at + number)

-- the bytes of one block of a run
abbrev pub bytes_of : (number : ℕ) → List ℕ → List ℕ
bytes_of number bytes = window (512 * number) 512 bytes

-- the first blocks of a run, so many, are the user's own
abbrev pub OwnsRun : Held → (places : ℕ → ℕ) → (count : ℕ) → Type 0
OwnsRun held places count = (number : ℕ) → number < count → Owns held (places number) 512

-- the next sync that succeeds makes the first blocks of a run durable, so many
abbrev pub KeepsRun : Held → (places : ℕ → ℕ) → (count : ℕ) → Type 0
KeepsRun held places count = (number : ℕ) → number < count → Kept held (places number) 512

-- the first blocks of a run, so many, and the bytes from `from` on, `many` of them, have no place
-- in common
abbrev pub IsApart : (places : ℕ → ℕ) → (count from many : ℕ) → Type 0
IsApart places count from many =
    (number : ℕ) → number < count → Apart (places number) 512 from many

-- A read of a run whose blocks begin at these places. A fault leaves any bytes in the target.
pub record ReadsRun (honest succeeded : Bool) (places : ℕ → ℕ) (old new : Held)
    (filled : List ℕ) : Type 0 where
  pub found : IsTrue honest → IsTrue succeeded → OwnsRun old places (blocks_in filled)
      → (number : ℕ) → number < blocks_in filled
      → window (places number) 512 old.contents ≡ bytes_of number filled
  pub same : IsTrue honest → new ≡ old

-- A write of a run of own blocks that begin at these places. A fault leaves any bytes in them.
pub record WritesRun (honest succeeded : Bool) (places : ℕ → ℕ) (bytes : List ℕ)
    (old new : Held) : Type 0 where
  pub own : IsTrue honest → new.own ≡ old.own
  pub written : IsTrue honest → IsTrue succeeded → OwnsRun old places (blocks_in bytes)
      → (number : ℕ) → number < blocks_in bytes
      → window (places number) 512 new.contents ≡ bytes_of number bytes
  pub kept : IsTrue honest → IsTrue succeeded → KeepsRun new places (blocks_in bytes)
  pub others : IsTrue honest → (from many : ℕ) → 0 < many
      → IsApart places (blocks_in bytes) from many
      → window from many new.contents ≡ window from many old.contents
  pub durable_others : IsTrue honest → (from many : ℕ) → 0 < many
      → IsApart places (blocks_in bytes) from many
      → window from many new.durable ≡ window from many old.durable
  pub kept_others : IsTrue honest → (from many : ℕ) → Kept old from many → Kept new from many
