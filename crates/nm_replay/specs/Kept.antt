-- A kept history, as contracts see it.
use Rattle.std.specs.Prelude.{ℕ, zero, suc, ◌+◌, ◌-◌, List, [], ◌∷◌, ◌++◌, length, take, drop}
use Rattle.nm_replay.specs.declared.entry.Entry.{Entry}
use Rattle.nm_replay.specs.declared.entry.Kind.{Kind}
use Rattle.nm_replay.specs.declared.entry.Kind.TheVariants.{Read, Write, Patch}

-- the last so many of the entries; all of them where there are fewer
abbrev pub last_kept : ℕ → List Entry → List Entry
last_kept most entries = drop (length entries - most) entries

-- the entries that are kept, in the order of their pushes, and how many are kept at most
pub record KeptEntries : Type 0 where
  pub entries : List Entry
  pub most : ℕ

-- what is kept once these entries came: as many of the last as before
abbrev pub kept_with : List Entry → KeptEntries → KeptEntries
kept_with more kept = record kept { entries = last_kept kept.most (kept.entries ++ more) }

-- the entries that are kept, and how many there were in all
pub record KeptHistory : Type 0 where
  pub last : KeptEntries
  pub total : ℕ

-- the ticket in this kind, and 0 at a read
abbrev pub ticket_in : Kind → ℕ
ticket_in Read = 0
ticket_in (Write ticket) = ticket
ticket_in (Patch ticket from len) = ticket

-- the kind of the entry of a run's next block, which is written under the next ticket
abbrev pub next_kind : Kind → Kind
next_kind Read = Read
next_kind (Write ticket) = Write (ticket + 1)
next_kind (Patch ticket from len) = Patch (ticket + 1) from len

-- the entries of a run of so many blocks with these bytes, from this number, kind and block on
abbrev pub run_from : ℕ → ℕ → Kind → ℕ → List ℕ → List Entry
run_from zero number kind block bytes = []
run_from (suc n) number kind block bytes =
    record { seq = number; kind = kind; block = block; bytes = record { 0 = take 512 bytes } }
    ∷ run_from n (number + 1) (next_kind kind) (block + 1) (drop 512 bytes)
