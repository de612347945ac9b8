-- The records of writes, by rising ticket.
use Rattle.std.specs.Prelude.{◌≡◌, ℕ, ◌+◌, Bool, IsTrue, None, ◌<◌, ◌≤◌, ◌&&◌, ◌==◌, nat_le, nat_lt}
use Rattle.std.specs.Prelude.{not, if◌then◌else◌}
use Rattle.std.specs.Prelude.{List, [], ◌∷◌, ◌++◌, length, map, slice_get, find, filter, position}
use Rattle.std.specs.Prelude.{count_by}
use Rattle.std.specs.Prelude.{Option, is_none}
use Rattle.std.specs.List.{list_any}
use Rattle.std.specs.Option.{option_map, option_and_then}
use Rattle.nm_fanout.specs.declared.write_record.Record.{Record}
use Rattle.nm_fanout.specs.Record.{is_under_way, lowest_owed, without_leg, with_entry, IsWhole}

-- the record of this ticket
abbrev pub find_record : ℕ → List Record → Option Record
find_record ticket list = find (λ r. r.ticket == ticket) list

-- the record under way on this block
abbrev pub busy_on : ℕ → List Record → Option Record
busy_on block list = find (λ r. (r.block == block) && is_under_way r) list

-- whether the block is one of so many from the first on
abbrev pub is_among : ℕ → ℕ → ℕ → Bool
is_among first count block = nat_le first block && nat_lt block (first + count)

-- the record of the lowest ticket under way on a block among these
abbrev pub busy_among : ℕ → ℕ → List Record → Option Record
busy_among first count list = find (λ r. is_among first count r.block && is_under_way r) list

-- whether some write is under way
abbrev pub any_under_way : List Record → Bool
any_under_way list = list_any is_under_way list

-- the record of this ticket is at this place
pub record IsAt (ticket place : ℕ) (list : List Record) : Type 0 where
  pub within : place < length list
  pub found : find_record ticket list ≡ slice_get list place

-- the number of the entry of the write at this place
abbrev pub entry_at : ℕ → List Record → Option ℕ
entry_at place list = option_and_then (λ r. r.entry) (slice_get list place)

-- how many of the writes have no entry yet
abbrev pub unlanded : List Record → ℕ
unlanded list = count_by (λ r. is_none r.entry) list

-- the place of the lowest ticket whose write has no entry yet
abbrev pub first_unlanded : List Record → Option ℕ
first_unlanded list = position (λ r. is_none r.entry) list

-- the lowest leg that this ticket's write has still to reach
abbrev pub next_owed : ℕ → List Record → Option ℕ
next_owed ticket list = option_and_then lowest_owed (find_record ticket list)

-- the lowest ticket under way, with the lowest leg that it has still to reach
abbrev pub first_owed : List Record → Option (ℕ × ℕ)
first_owed list =
    option_and_then (λ r. option_map (λ leg. (r.ticket, leg)) (lowest_owed r))
    (find is_under_way list)

-- the records with that of this ticket changed by f
abbrev pub changed : (Record → Record) → ℕ → List Record → List Record
changed f ticket [] = []
changed f ticket (r ∷ rs) = (if r.ticket == ticket then f r else r) ∷ changed f ticket rs

-- the records after this ticket's write has reached the leg
abbrev pub reached : ℕ → ℕ → List Record → List Record
reached ticket leg list = changed (without_leg leg) ticket list

-- the records after this ticket's write got its entry, under this number
abbrev pub landed : ℕ → ℕ → List Record → List Record
landed ticket number list = changed (with_entry number) ticket list

-- the records after a leg has left: no write has to reach it any more
abbrev pub left_by : ℕ → List Record → List Record
left_by leg list = map (without_leg leg) list

-- the records after each write without an entry got one, by rising ticket, from this number on
abbrev pub landed_all : ℕ → List Record → List Record
landed_all next [] = []
landed_all next (r ∷ rs) =
    if is_none r.entry then with_entry next r ∷ landed_all (next + 1) rs
    else r ∷ landed_all next rs

-- the records but that of this ticket
abbrev pub without : ℕ → List Record → List Record
without ticket list = filter (λ r. not (r.ticket == ticket)) list

-- the records but each of these, which go one after the other
abbrev pub without_each : List Record → List Record → List Record
without_each [] list = list
without_each (r ∷ rs) list = without_each rs (without r.ticket list)

-- the records after a write has begun
abbrev pub with_new : Record → List Record → List Record
with_new r list = list ++ r ∷ []

-- each record's ticket is above this one
abbrev pub AllAbove : ℕ → List Record → Type 0
AllAbove ticket [] = Unit {0}
AllAbove ticket (r ∷ rs) = (ticket < r.ticket) × AllAbove ticket rs

-- each record's ticket is below this one
abbrev pub AllBelow : ℕ → List Record → Type 0
AllBelow ticket [] = Unit {0}
AllBelow ticket (r ∷ rs) = (r.ticket < ticket) × AllBelow ticket rs

-- the tickets rise, so that no two records have the same
abbrev pub Ascends : List Record → Type 0
Ascends [] = Unit {0}
Ascends (r ∷ rs) = AllAbove r.ticket rs × Ascends rs

-- each record has a block's worth of bytes and a place for each of eight legs
abbrev pub AllWhole : List Record → Type 0
AllWhole [] = Unit {0}
AllWhole (r ∷ rs) = IsWhole r × AllWhole rs

-- one for the first record of a run, and none for another
abbrev pub run_begins : Record → ℕ
run_begins r = if r.run == r.ticket then 1 else 0

-- how many runs there are
abbrev pub runs_in : List Record → ℕ
runs_in [] = 0
runs_in (r ∷ rs) = run_begins r + runs_in rs

-- whole records of at most 256 runs, by rising ticket
pub record AreInOrder (list : List Record) : Type 0 where
  pub few : runs_in list ≤ 256
  pub ascending : Ascends list
  pub whole : AllWhole list

-- no block has two records under way
abbrev pub OneWriterABlock : List Record → Type 0
OneWriterABlock [] = Unit {0}
OneWriterABlock (r ∷ rs) =
    (IsTrue (is_under_way r) → busy_on r.block rs ≡ None) × OneWriterABlock rs
