-- What happens again and again, told in at most a line in so many units of time.
use Rattle.std.specs.Prelude.{◌≡◌, ◌≢◌, ℕ, ◌+◌, ◌-◌, ◌^◌, Option, Some, None, min}
use Rattle.nm_service.specs.Pacing.{IsDueAfter}
use Rattle.nm_service.specs.declared.repeats.Repeats.{Repeats}

-- a line on it is due at this time
abbrev pub IsDue : Repeats → ℕ → Type 0
IsDue old now = IsDueAfter old.pace.length old.pace.last now

-- one more that was not told yet
abbrev pub one_more : Repeats → ℕ
one_more old = min (old.untold + 1) (2 ^ 64 - 1)

-- a line at this time tells of so many, and the next one is due so long after it
pub record Tells (old : Repeats) (now count : ℕ) (told : Option ℕ) (new : Repeats) : Type 0 where
  pub answer : told ≡ Some count
  pub untold : new.untold ≡ 0
  pub last : new.pace.last ≡ Some now
  pub length : new.pace.length ≡ old.pace.length

-- no line tells of it, and so many are to be told of later
pub record Keeps (old : Repeats) (count : ℕ) (told : Option ℕ) (new : Repeats) : Type 0 where
  pub answer : told ≡ None
  pub untold : new.untold ≡ count
  pub last : new.pace.last ≡ old.pace.last
  pub length : new.pace.length ≡ old.pace.length

-- what happens at this time is told with all that was not told before, where a line is due; else it
-- is only counted
pub record Counts (old : Repeats) (now : ℕ) (told : Option ℕ) (new : Repeats) : Type 0 where
  pub due : IsDue old now → Tells old now (one_more old) told new
  pub early : ¬ IsDue old now → Keeps old (one_more old) told new

-- what was not told yet is told, where there is something and a line is due
pub record Flushes (old : Repeats) (now : ℕ) (told : Option ℕ) (new : Repeats) : Type 0 where
  pub due : old.untold ≢ 0 → IsDue old now → Tells old now old.untold told new
  pub nothing : old.untold ≡ 0 → Keeps old 0 told new
  pub early : ¬ IsDue old now → Keeps old old.untold told new
