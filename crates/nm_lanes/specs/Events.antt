-- What is seen of a mirror: the events of its stripes, each at its block of the export.
use Rattle.std.specs.Prelude.{◌≡◌, ℕ, ◌<◌, ◌==◌, if◌then◌else◌, List, [], ◌∷◌, ◌++◌}
use Rattle.nm_replay.specs.declared.entry.Entry.{Entry}
use Rattle.nm_replay.specs.Events.{Event, BeginsRead, BeginsWrite, Lands, RepliesRead, RepliesWrite}

-- an event of one of the stripes, at its block of the export
pub record MirrorEvent : Type 0 where
  pub stripe : ℕ
  pub event : Event

-- an entry in the history of one of the stripes, at its block of the export
pub record MirrorEntry : Type 0 where
  pub stripe : ℕ
  pub entry : Entry

-- the events of one stripe
abbrev pub events_of : ℕ → List MirrorEvent → List Event
events_of stripe [] = []
events_of stripe (e ∷ events) =
    if e.stripe == stripe then e.event ∷ events_of stripe events else events_of stripe events

-- each event is of one of so many stripes
abbrev pub EventsOfStripes : ℕ → List MirrorEvent → Type 0
EventsOfStripes stripes [] = Unit {0}
EventsOfStripes stripes (e ∷ events) = (e.stripe < stripes) × EventsOfStripes stripes events

-- each event is of this stripe
abbrev pub AllOfStripe : ℕ → List MirrorEvent → Type 0
AllOfStripe stripe [] = Unit {0}
AllOfStripe stripe (e ∷ events) = (e.stripe ≡ stripe) × AllOfStripe stripe events

-- some entries, with that of an event of this stripe in front where the event has one
abbrev pub behind_entry_of : ℕ → Event → List MirrorEntry → List MirrorEntry
behind_entry_of stripe (BeginsRead number block) later = later
behind_entry_of stripe (BeginsWrite ticket block put) later = later
behind_entry_of stripe (Lands entry) later = record { stripe = stripe; entry = entry } ∷ later
behind_entry_of stripe (RepliesRead number bytes) later = later
behind_entry_of stripe (RepliesWrite ticket number) later = later

-- the entries among the events
abbrev pub mirror_entries : List MirrorEvent → List MirrorEntry
mirror_entries [] = []
mirror_entries (e ∷ events) = behind_entry_of e.stripe e.event (mirror_entries events)

-- the entries of one stripe
abbrev pub entries_in : ℕ → List MirrorEntry → List Entry
entries_in stripe [] = []
entries_in stripe (e ∷ es) =
    if e.stripe == stripe then e.entry ∷ entries_in stripe es else entries_in stripe es

-- the events of all lists, one list after the other
abbrev pub all_events : List (List MirrorEvent) → List MirrorEvent
all_events [] = []
all_events (events ∷ more) = events ++ all_events more
