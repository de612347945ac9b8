-- What a look at a medium's length tells.
use Rattle.std.specs.Prelude.{ℕ, Bool, false, Option, None, Some, nat_le}

-- whether a medium of the length that was found, if one was, has so many bytes
abbrev pub reaches : (found : Option ℕ) → (size : ℕ) → Bool
reaches None size = false
reaches (Some length) size = nat_le size length
