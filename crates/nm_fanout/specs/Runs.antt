-- The records of runs, and those of their blocks. Each block of a run has a record of its own, with
-- a ticket and a block of its own, that names its run by the run's first ticket.
use Rattle.std.specs.Prelude.{◌≡◌, ℕ, zero, suc, ◌+◌, ◌/◌, ◌≤◌, ◌&&◌, Bool, nat_lt, is_none}
use Rattle.std.specs.Prelude.{List, [], ◌∷◌, ◌++◌, length, find, take, drop, replicate}
use Rattle.std.specs.Prelude.{Option, None, Some, if◌then◌else◌}
use Rattle.nm_replay.specs.Array.{Entire}
use Rattle.nm_replay.specs.Events.{entry_of_write}
use Rattle.nm_replay.specs.declared.entry.Entry.{Entry}
use Rattle.nm_fanout.specs.declared.record_data.RecordData.{RecordData}
use Rattle.nm_fanout.specs.declared.record_data.RecordData.TheVariants.{Cut, Zero, Merged}
use Rattle.nm_fanout.specs.declared.write_record.Record.{Record}
use Rattle.nm_fanout.specs.Record.{IsRun, is_under_way, waiting, with_entry}
use Rattle.nm_fanout.specs.RecordData.{blocks_in}
use Rattle.nm_fanout.specs.Records.{changed, find_record}

-- the run is under way, and has a block among so many from the first on
abbrev pub meets : ℕ → ℕ → Record → Bool
meets first count r =
    (nat_lt first (r.block + blocks_in r.data) && nat_lt r.block (first + count))
    && is_under_way r

-- the run of the lowest ticket under way on a block among these
abbrev pub run_busy_among : ℕ → ℕ → List Record → Option Record
run_busy_among first count list = find (λ r. meets first count r) list

-- how many blocks of the runs have no entry yet
abbrev pub unlanded_blocks : List Record → ℕ
unlanded_blocks [] = 0
unlanded_blocks (r ∷ rs) = waiting r + unlanded_blocks rs

-- the runs after each without an entry got one, and as many numbers as it has blocks
abbrev pub runs_landed : ℕ → List Record → List Record
runs_landed next [] = []
runs_landed next (r ∷ rs) =
    if is_none r.entry then with_entry next r ∷ runs_landed (next + blocks_in r.data) rs
    else r ∷ runs_landed next rs

-- each record's ticket is this one, or above it
abbrev pub AllFrom : ℕ → List Record → Type 0
AllFrom ticket [] = Unit {0}
AllFrom ticket (r ∷ rs) = (ticket ≤ r.ticket) × AllFrom ticket rs

-- the tickets of each run's blocks are below this one
abbrev pub AllEndBy : ℕ → List Record → Type 0
AllEndBy ticket [] = Unit {0}
AllEndBy ticket (r ∷ rs) = (r.ticket + blocks_in r.data ≤ ticket) × AllEndBy ticket rs

-- the tickets of the runs' blocks rise: each run's come after all of the last one's
abbrev pub RunsRise : List Record → Type 0
RunsRise [] = Unit {0}
RunsRise (r ∷ rs) = AllFrom (r.ticket + blocks_in r.data) rs × RunsRise rs

-- each record is that of a run
abbrev pub AllRuns : List Record → Type 0
AllRuns [] = Unit {0}
AllRuns (r ∷ rs) = IsRun r × AllRuns rs

-- the records of at most 256 runs, whose tickets rise
pub record AreRuns (list : List Record) : Type 0 where
  pub few : length list ≤ 256
  pub rise : RunsRise list
  pub runs : AllRuns list

-- the cuts of so many blocks out of these bytes
abbrev pub cuts_of : ℕ → List ℕ → List RecordData
cuts_of zero bytes = []
cuts_of (suc n) bytes = Cut (take 512 bytes) ∷ cuts_of n (drop 512 bytes)

-- the data of each block
abbrev pub each_block : RecordData → List RecordData
each_block (Cut cut) = cuts_of (length cut / 512) cut
each_block (Zero count) = replicate count (Zero 1)
each_block (Merged from len block) = Merged from len block ∷ []

-- the number of the next block's entry, where this block has one
abbrev pub next_entry : Option ℕ → Option ℕ
next_entry None = None
next_entry (Some number) = Some (number + 1)

-- the records of blocks with these data: tickets, blocks and entries follow one another
abbrev pub laid_from : ℕ → ℕ → ℕ → List Bool → Option ℕ → List RecordData → List Record
laid_from run ticket block owed entry [] = []
laid_from run ticket block owed entry (d ∷ ds) =
    record {
      run = run;
      ticket = ticket;
      block = block;
      «data» = d;
      owed = owed;
      entry = entry;
    }
    ∷ laid_from run (ticket + 1) (block + 1) owed (next_entry entry) ds

-- the records of the run's blocks
abbrev pub laid_out : Record → List Record
laid_out r = laid_from r.run r.ticket r.block r.owed r.entry (each_block r.data)

-- the records of the blocks of all runs
abbrev pub flat : List Record → List Record
flat [] = []
flat (r ∷ rs) = laid_out r ++ flat rs

-- each of these is the record of its ticket
abbrev pub AllFound : List Record → List Record → Type 0
AllFound [] list = Unit {0}
AllFound (o ∷ os) list = (find_record o.ticket list ≡ Some o) × AllFound os list

-- the records with each of these changed, one after the other, by numbers from this one on
abbrev pub each_changed : (ℕ → Record → Record) → ℕ → List Record → List Record
    → List Record
each_changed f number [] list = list
each_changed f number (o ∷ os) list =
    each_changed f (number + 1) os (changed (f number) o.ticket list)

-- the entries of whole writes of so many blocks, from this number, ticket and block on
abbrev pub entries_from : ℕ → ℕ → ℕ → ℕ → List ℕ → List Entry
entries_from zero number ticket block bytes = []
entries_from (suc n) number ticket block bytes =
    entry_of_write number ticket block Entire (record { 0 = take 512 bytes })
    ∷ entries_from n (number + 1) (ticket + 1) (block + 1) (drop 512 bytes)
