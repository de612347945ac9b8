-- Events that one array explains: each operation acts once, between its begin and its reply.
use Rattle.std.specs.Prelude.{◌≡◌, ℕ, ◌+◌, List, length}
use Rattle.nm_replay.specs.Array.{Array}
use Rattle.nm_replay.specs.History.{Legal}
use Rattle.nm_replay.specs.Events.{Event, entries_of}
use Rattle.nm_replay.specs.WriteLives.{WriteLife, WriteLives, NotBegun as NoWriteBegun}
use Rattle.nm_replay.specs.ReadLives.{ReadLife, ReadLives, NotBegun as NoReadBegun}

-- where a list of events starts or stops: the number of the next entry, the array, and how far each
-- write and each read is
pub record Point : Type 0 where
  pub next : ℕ
  pub array : Array
  pub writes : ℕ → WriteLife
  pub reads : ℕ → ReadLife

-- the events are explained from one point to another: their entries are legal from the one array to
-- the other, the next number counts them, and each write and each read goes through its stages in
-- order: it begins, lands and is replied to, each at most once
pub record Explained (from to : Point) (events : List Event) : Type 0 where
  pub legal : Legal from.next (entries_of events) from.array to.array
  pub next : to.next ≡ from.next + length (entries_of events)
  pub each_write : (ticket : ℕ) → WriteLives ticket (from.writes ticket) events (to.writes ticket)
  pub each_read : (number : ℕ) → ReadLives number (from.reads number) events (to.reads number)

-- no two points explain the events
abbrev pub NothingExplains : List Event → Type 0
NothingExplains events = (from to : Point) → ¬ Explained from to events

-- the events are explained from some point at which the write of this ticket has not begun
pub record ExplainsWrite (ticket : ℕ) (events : List Event) : Type 0 where
  pub from : Point
  pub to : Point
  pub not_begun : from.writes ticket ≡ NoWriteBegun
  pub explained : Explained from to events

-- the events are explained from some point at which the read of this number has not begun
pub record ExplainsRead (number : ℕ) (events : List Event) : Type 0 where
  pub from : Point
  pub to : Point
  pub not_begun : from.reads number ≡ NoReadBegun
  pub explained : Explained from to events
