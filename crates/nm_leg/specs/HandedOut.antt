-- What a stripe asks a leg for, as the leg is asked for it.
use Rattle.std.specs.Prelude.{◌≡◌, ℕ, ◌+◌, ◌*◌, ◌<◌, ◌≤◌, Bool, true, false, List}
use Rattle.nm_leg.specs.Leg.{IsRun, blocks_in}
use Rattle.nm_leg.specs.Call.{Call, Found, Reads, Writes, Zeroes, Syncs, found_by}
use Rattle.nm_leg.specs.declared.asks.Asks.{Asks}
use Rattle.nm_leg.specs.declared.asks.Asks.TheVariants.{Read, Write, Zero, Merged, Sync}

-- how many blocks a call is for
abbrev pub blocks_asked : Asks → ℕ
blocks_asked (Read count) = count
blocks_asked (Write bytes) = blocks_in bytes
blocks_asked (Zero count) = count
blocks_asked Merged = 1
blocks_asked Sync = 0

-- how many bytes of its maker's room a call takes: for what it reads, or of what it writes
abbrev pub room_asked : Asks → ℕ
room_asked (Read count) = 512 * count
room_asked (Write bytes) = 0
room_asked (Zero count) = 0
room_asked Merged = 512
room_asked Sync = 0

-- whether a call reads
abbrev pub is_read : Asks → Bool
is_read (Read count) = true
is_read (Write bytes) = false
is_read (Zero count) = false
is_read Merged = false
is_read Sync = false

-- a call from this block on lies inside a leg of so many blocks
abbrev pub IsInside : Asks → (block blocks : ℕ) → Type 0
IsInside (Read count) block blocks = (0 < count) × (block + count ≤ blocks)
IsInside (Write bytes) block blocks = IsRun block blocks bytes
IsInside (Zero count) block blocks = (0 < count) × (block + count ≤ blocks)
IsInside Merged block blocks = block + 1 ≤ blocks
IsInside Sync block blocks = Unit {0}

-- a call lies inside its leg, and its room is as long as it takes
abbrev pub Fits : Asks → (block blocks room : ℕ) → Type 0
Fits asks block blocks room = (room ≡ room_asked asks) × IsInside asks block blocks

-- the call of a leg that is made, where these bytes lie in the room before it
abbrev pub call_of : Asks → (block : ℕ) → (room : List ℕ) → Call
call_of (Read count) block room = Reads block count
call_of (Write bytes) block room = Writes block bytes
call_of (Zero count) block room = Zeroes block count
call_of Merged block room = Writes block room
call_of Sync block room = Syncs

-- what came of it, where these bytes lie in the room behind it
abbrev pub found_of : Asks → (done : Bool) → (room : List ℕ) → Found
found_of (Read count) done room = record { done = done; filled = room }
found_of (Write bytes) done room = found_by done
found_of (Zero count) done room = found_by done
found_of Merged done room = found_by done
found_of Sync done room = found_by done
