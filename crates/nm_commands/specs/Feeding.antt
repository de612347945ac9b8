-- How the bytes of a connection become control lines.
use Rattle.std.specs.Prelude.{◌≡◌, ◌≢◌, ℕ, ◌<◌, List, [], ◌∷◌, ◌++◌, length}
use Rattle.nm_commands.specs.declared.line_room.Fed.{Fed}
use Rattle.nm_commands.specs.declared.line_room.Fed.TheVariants.{More, Whole, TooLong}

-- Fed a byte, the line has this outcome and then these bytes. LF, which is 10, makes it whole, and
-- is no part of it. Any other byte goes to its end, or makes it too long where it has 64 bytes.
abbrev pub Feeds : List ℕ → ℕ → Fed → List ℕ → Type 0
Feeds line byte More fed =
    (byte ≢ 10) × (length line < 64) × (fed ≡ line ++ byte ∷ [])
Feeds line byte Whole fed = (byte ≡ 10) × (fed ≡ line)
Feeds line byte TooLong fed = (byte ≢ 10) × (length line ≡ 64) × (fed ≡ line)
