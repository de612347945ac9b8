-- How much memory replies may take.
use Rattle.std.specs.Prelude.{ℕ, ◌*◌, ◌/◌, ◌^◌, Option, Some, None, min, max}

-- how many bytes the replies of all sessions may carry: 4 GiB, and no more than half of the address
-- space where that has a limit
abbrev pub all_reply_bytes : Option ℕ → ℕ
all_reply_bytes None = 4 * 2 ^ 30
all_reply_bytes (Some space) = min (space / 2) (4 * 2 ^ 30)

-- those of each of so many sessions
abbrev pub reply_bytes : Option ℕ → ℕ → ℕ
reply_bytes space sessions = all_reply_bytes space / max sessions 1
