-- What answers name in a stripe's history.
use Rattle.std.specs.Prelude.{ℕ, ◌+◌, ◌<◌, ◌≤◌, ◌^◌, List}
use Rattle.nm_rules.specs.Runs.{EntryNames}

-- at least one entry is named and at most 128, and the numbers are below 2^63
pub record AreNamed (names : EntryNames) : Type 0 where
  pub some : 0 < names.count
  pub most : names.count ≤ 128
  pub below : names.number + names.count ≤ 2 ^ 63

-- the entries of a read, and the bytes that it found
pub record ReadBytes : Type 0 where
  pub names : EntryNames
  pub bytes : List ℕ
