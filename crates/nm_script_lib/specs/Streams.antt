-- What was written, and what was read, where the bytes are known.
use Rattle.std.specs.Prelude.{◌≡◌, ℕ, ◌≤◌, ◌^◌, List, ◌++◌, length, Option}
use Rattle.std.specs.Io.KnownBytes.{Appends, Consumes, IsAtEnd}

-- The bytes of a stream before and after a call, where they are known.
pub record Change : Type 0 where
  pub old : Option (List ℕ)
  pub new : Option (List ℕ)

abbrev pub change : Option (List ℕ) → Option (List ℕ) → Change
change old new = record { old = old; new = new }

-- A prefix of the bytes was written, and no other byte.
abbrev pub AppendsPrefix : Option (List ℕ) → Option (List ℕ) → List ℕ → Type 0
AppendsPrefix old new bytes =
    (prefix : List ℕ) × (rest : List ℕ) × (bytes ≡ prefix ++ rest) × Appends old new prefix

-- The whole input was read: it is these bytes, and the reader is at its end.
pub record ReadsAll (old new : Option (List ℕ)) (bytes : List ℕ) : Type 0 where
  pub taken : Consumes old new bytes
  pub ended : IsAtEnd new
  pub short : length bytes ≤ 2 ^ 24

-- A prefix of the buffer was written, and the rest stays in it.
abbrev pub FlushesPrefix : Option (List ℕ) → Option (List ℕ) → List ℕ → List ℕ → Type 0
FlushesPrefix old new buffer kept =
    (sent : List ℕ) × (buffer ≡ sent ++ kept) × Appends old new sent
