-- The time of a leg's last change, and when a save may record it.
use Rattle.std.specs.Prelude.{◌≡◌, ◌≢◌, ◌^◌, ◌*◌, ◌+◌, ℕ, Bool, IsTrue, nat_lt, if◌then◌else◌}

-- the time of a file's last change, in nanoseconds and 0 where it is unknown: as it is read, and as
-- a loss of power would leave it
pub record FileTimes : Type 0 where
  pub now : ℕ
  pub durable : ℕ

-- a file of which nothing is known
abbrev pub none : FileTimes
none = record { now = 0; durable = 0 }

-- A file is made durable with its times.
pub record SyncsAll (honest done : Bool) (old new : FileTimes) : Type 0 where
  pub durable : IsTrue honest → IsTrue done → new.durable ≡ new.now

-- The time is read, which leaves the file as it was.
pub record ReadsTime (honest : Bool) (found : ℕ) (old new : FileTimes) : Type 0 where
  pub time : IsTrue honest → found ≡ old.now
  pub same : IsTrue honest → new ≡ old

-- a time that was found is the file's, and durable
pub record IsSettledTime (honest : Bool) (found : ℕ) (times : FileTimes) : Type 0 where
  pub now : IsTrue honest → found ≢ 0 → found ≡ times.now
  pub durable : IsTrue honest → found ≢ 0 → found ≡ times.durable

-- so many seconds and nanoseconds, where 64 bits have room for them
abbrev pub nanoseconds : (seconds rest : ℕ) → ℕ
nanoseconds seconds rest =
    let all = seconds * 1_000_000_000 + rest in
    if nat_lt all (2 ^ 64) then all else 0
