-- How long a copy rests after a turn. Times are microseconds.
use Rattle.std.specs.Prelude.{ℕ, ◌*◌, ◌/◌, ◌-◌, ◌^◌, Bool, true, false, Option, None, Some, min}
use Rattle.nm_service.specs.declared.copy_pace.CopyTurn.{CopyTurn}

-- how long so many bytes take at so many MiB a second
abbrev pub time_for : (bytes mib : ℕ) → ℕ
time_for bytes mib = 1000000 * bytes / (2 ^ 20 * mib)

-- a copy beside clients rests three times as long as its turn took, at most a tenth of a second
abbrev pub rest_beside : (is_shared : Bool) → (took : ℕ) → ℕ
rest_beside true took = min (3 * took) 100000
rest_beside false took = 0

-- with a rate it rests until the turn's own bytes have had their time: what an earlier turn was
-- late is not made up for
abbrev pub rest_after : Option ℕ → CopyTurn → ℕ
rest_after (Some mib) turn = time_for turn.bytes mib - turn.took
rest_after None turn = rest_beside turn.is_shared turn.took
