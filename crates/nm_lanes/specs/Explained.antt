-- Events of a mirror that one array explains: each operation acts once, between begin and reply.
use Rattle.std.specs.Prelude.{◌≡◌, ℕ, ◌+◌, ◌<◌, ◌==◌, if◌then◌else◌, List, [], ◌∷◌, length}
use Rattle.nm_replay.specs.Array.{Array}
use Rattle.nm_replay.specs.Events.{entries_of}
use Rattle.nm_replay.specs.History.{EntryFits, after_entry}
use Rattle.nm_replay.specs.ReadLives.{ReadLife, ReadLives}
use Rattle.nm_replay.specs.WriteLives.{WriteLife, WriteLives}
use Rattle.nm_lanes.specs.Events.{MirrorEvent, MirrorEntry, events_of, EventsOfStripes}
use Rattle.nm_lanes.specs.Events.{mirror_entries}

-- the numbers of the stripes' next entries, once this stripe has one more
abbrev pub counted : ℕ → (ℕ → ℕ) → ℕ → ℕ
counted stripe next other = if stripe == other then next other + 1 else next other

-- the entries are legal from one array of the mirror to another: their numbers rise by one in each
-- stripe, and, done in order, each fits the array that it meets, and the last array is what they
-- leave
abbrev pub MirrorLegal : (ℕ → ℕ) → List MirrorEntry → Array → Array → Type 0
MirrorLegal next [] from to = to ≡ from
MirrorLegal next (e ∷ es) from to =
    (e.entry.seq ≡ next e.stripe) × EntryFits e.entry from
    × MirrorLegal (counted e.stripe next) es (after_entry e.entry from) to

-- where a list of a mirror's events starts or stops: the mirror's array, and, of each stripe, the
-- number of its next entry and how far its writes (by ticket) and its reads (by number) are
pub record MirrorPoint : Type 0 where
  pub array : Array
  pub next : ℕ → ℕ
  pub writes : ℕ → ℕ → WriteLife
  pub reads : ℕ → ℕ → ReadLife

-- the events of so many stripes are explained from one point to another: their entries are legal
-- from the one array to the other, and each write and each read of a stripe goes through its stages
-- in order: it begins, lands and is replied to, each at most once
pub record MirrorExplained (stripes : ℕ) (from to : MirrorPoint)
    (events : List MirrorEvent) : Type 0 where
  pub of_stripes : EventsOfStripes stripes events
  pub legal : MirrorLegal from.next (mirror_entries events) from.array to.array
  pub next : (stripe : ℕ) → stripe < stripes
      → to.next stripe ≡ from.next stripe + length (entries_of (events_of stripe events))
  pub each_write : (stripe ticket : ℕ) → stripe < stripes
      → WriteLives ticket (from.writes stripe ticket) (events_of stripe events)
      (to.writes stripe ticket)
  pub each_read : (stripe number : ℕ) → stripe < stripes
      → ReadLives number (from.reads stripe number) (events_of stripe events)
      (to.reads stripe number)
