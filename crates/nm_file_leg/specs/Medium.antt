-- What a medium holds for one of its users, and what one call of that user does to it.
--
-- A medium may have other users, as a leg's file has one for each stripe. An honest one keeps what
-- its user writes on two premises:
--   * Others change other bytes only: a user's own bytes are written by its own calls alone, and
--     nobody changes the length.
--   * A failed sync fails the next sync of every user: whoever's it is, it is told to each user
--     that has written since the last sync that succeeded.
use Rattle.std.specs.Prelude.{◌≡◌, ℕ, ◌+◌, ◌<◌, ◌≤◌, ◌⊎◌, Bool, IsTrue, IsFalse}
use Rattle.std.specs.Prelude.{List, length, take, replicate, Result, IfOk, OnOk}
unfoldable pub use Rattle.nm_leg.specs.Bytes.{spliced, window}

-- Whether the byte at a place is the user's own, the bytes as reads find them, the same bytes as a
-- loss of power would leave them, and whether the byte at a place is lost to later syncs, since one
-- failed that was to make it durable. What stands at places that are not the user's own says
-- nothing of the medium.
pub record Held : Type 0 where
  pub own : ℕ → Bool
  pub contents : List ℕ
  pub durable : List ℕ
  pub lost : ℕ → Bool

-- these bytes are the user's own
abbrev pub Owns : Held → (from many : ℕ) → Type 0
Owns held from many = (at : ℕ) → from ≤ at → at < from + many → IsTrue (held.own at)

-- the next sync that succeeds makes these bytes durable
abbrev pub Kept : Held → ℕ → ℕ → Type 0
Kept held from n = (at : ℕ) → from ≤ at → at < from + n → IsFalse (held.lost at)

-- the bytes from `at` on, so many of them, and the others have no place in common
abbrev pub Apart : ℕ → ℕ → ℕ → ℕ → Type 0
Apart at n from many = (from + many ≤ at) ⊎ (at + n ≤ from)

-- A read from `at` on. It says how many bytes it found, and leaves the medium as it was. What it
-- found is known where all of it is the user's own.
pub record ReadsMedium {E : Type 0} (honest : Bool) (result : Result ℕ E) (at : ℕ)
    (old new : Held) (filled : List ℕ) : Type 0 where
  pub bound : IfOk result (λ n. n ≤ length filled)
  pub found : IsTrue honest → IfOk result (λ n. Owns old at n
      → take n filled ≡ window at n old.contents)
  pub same : IsTrue honest → new ≡ old

-- A write of own bytes from `at` on. It says how many bytes it wrote; a fault leaves any bytes in
-- their place.
pub record WritesMedium {E : Type 0} (honest : Bool) (result : Result ℕ E) (at : ℕ)
    (bytes : List ℕ) (old new : Held) : Type 0 where
  pub own : IsTrue honest → new.own ≡ old.own
  pub written : IsTrue honest → Owns old at (length bytes)
      → IfOk result (λ n. window at n new.contents ≡ take n bytes)
  pub kept : IsTrue honest → IfOk result (λ n. Kept new at n)
  pub others : IsTrue honest → (from many : ℕ) → Apart at (length bytes) from many
      → window from many new.contents ≡ window from many old.contents
  pub durable_others : IsTrue honest → (from many : ℕ) → Apart at (length bytes) from many
      → window from many new.durable ≡ window from many old.durable
  pub kept_others : IsTrue honest → (from many : ℕ) → Kept old from many → Kept new from many

-- A sync. Success makes all durable but what an earlier failure lost, and loses nothing more.
-- A fault may lose every byte that was not durable, and no other.
pub record SyncsMedium {E : Type 0} (honest : Bool) (result : Result (Unit {0}) E)
    (old new : Held) : Type 0 where
  pub own : IsTrue honest → new.own ≡ old.own
  pub durable : IsTrue honest → OnOk result ((from many : ℕ) → Kept old from many
      → window from many new.durable ≡ window from many old.contents)
  pub kept : IsTrue honest → OnOk result ((from many : ℕ) → Kept old from many
      → Kept new from many)
  pub kept_durable : IsTrue honest → (from many : ℕ) → Kept old from many
      → window from many old.durable ≡ window from many old.contents → Kept new from many
  pub contents : IsTrue honest → new.contents ≡ old.contents
  pub durable_kept : IsTrue honest → (from many : ℕ)
      → window from many old.durable ≡ window from many old.contents
      → window from many new.durable ≡ window from many old.durable

-- The length of the medium.
abbrev pub TellsLength : {E : Type 0} → Bool → Result ℕ E → Held → Type 0
TellsLength honest result held = IsTrue honest → IfOk result (λ n. n ≡ length held.contents)

-- A hole: own bytes that were found to be zeroes. Of what is durable it says nothing: a sync that
-- succeeds makes them durable, as it does the other bytes that are kept.
abbrev pub FindsHole : (honest found : Bool) → (at many : ℕ) → Held → Type 0
FindsHole honest found at many held = IsTrue honest → IsTrue found → Owns held at many
    → window at many held.contents ≡ replicate many 0
