-- What becomes of the output that a caller lends.
use Rattle.std.specs.Prelude.{◌≡◌, ℕ, List, ◌++◌, length, take}

-- the output begins with what it held
abbrev pub BeginsWith : List ℕ → List ℕ → Type 0
BeginsWith new old = take (length old) new ≡ old

-- bytes of which this holds were appended to what the output held
pub record Appends (old new : List ℕ) (Holds : List ℕ → Type 0) : Type 0 where
  pub bytes : List ℕ
  pub appended : new ≡ old ++ bytes
  pub holds : Holds bytes
