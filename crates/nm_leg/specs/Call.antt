-- A call of one leg: what the leg is asked for, and what came of it.
use Rattle.std.specs.Prelude.{◌≡◌, ℕ, ◌*◌, Bool, List, [], length, replicate}
use Rattle.nm_leg.specs.Leg.{Leg, ReadsLeg, WritesLeg, SyncsLeg}

-- What a leg is asked for: to read so many blocks from a place on, to write these bytes there, to
-- write zeroes into so many blocks there, or to make durable what was written.
pub data Call : Type 0 where
  Reads : (at count : ℕ) → Call
  Writes : (at : ℕ) → (bytes : List ℕ) → Call
  Zeroes : (at count : ℕ) → Call
  Syncs : Call

-- What came of a call: whether it succeeded, and what a read left in its target.
pub record Found : Type 0 where
  pub done : Bool
  pub filled : List ℕ

-- the bytes of so many zero blocks
abbrev pub zero_blocks : ℕ → List ℕ
zero_blocks count = replicate (512 * count) 0

-- what came of a call that reads nothing
abbrev pub found_by : (done : Bool) → Found
found_by done = record { done = done; filled = [] }

-- a leg is one thing before a call that is made of it alone, and another after it
abbrev pub ActsOn : (honest : Bool) → Call → Found → (old new : Leg) → Type 0
ActsOn honest (Reads at count) found old new =
    (length found.filled ≡ 512 * count) × ReadsLeg honest found.done at old new found.filled
ActsOn honest (Writes at bytes) found old new = WritesLeg honest found.done at bytes old new
ActsOn honest (Zeroes at count) found old new =
    WritesLeg honest found.done at (zero_blocks count) old new
ActsOn honest Syncs found old new = SyncsLeg honest found.done old new
