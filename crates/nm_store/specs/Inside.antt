-- The state that a `Store` stands for.
use Rattle.std.specs.Prelude.{◌≡◌, ◌+◌, ◌<◌, ◌^◌, length, List, [], ◌∷◌}
use Rattle.nm_fanout.specs.declared.write_record.Record.{Record}
use Rattle.nm_fanout.specs.RecordData.{blocks_in}
use Rattle.nm_fanout.specs.Runs.{flat}
use Rattle.nm_rules.specs.declared.at.At.{At}
use Rattle.nm_rules.specs.Runs.{FitsRun}
use Rattle.nm_rules.specs.State.{StripeState, table}
use Rattle.nm_store.specs.declared.store.Store.TheInside.{Inside}

-- the fields, as a state: each block of a run has a record of its own
abbrev pub state_of : {L : Type 0} → Inside L → StripeState L
state_of s = record {
  place = s.place;
  policy = s.policy;
  legs = s.legs.items;
  states = s.states.items;
  flags = s.regions.legs;
  master = s.master;
  settling = s.settling;
  stopped = s.stopped;
  turn = s.turn;
  copy = s.regions.copy;
  chunk = s.buffer.chunk;
  records = flat s.records;
  tickets = s.tickets;
  kept = s.kept.last;
  first = s.first;
  total = s.kept.total;
}

-- each of these runs lies in one region of the stripe, and its blocks' tickets are words
abbrev pub AllFit : At → List Record → Type 0
AllFit place [] = Unit {0}
AllFit place (r ∷ rs) =
    FitsRun place r.block (blocks_in r.data) × (r.ticket + blocks_in r.data < 2 ^ 64)
    × AllFit place rs

-- the fields agree: the region table is that of the state, there are a state and regions a leg, the
-- buffer holds a chunk, and each run lies in one region
pub record IsStore {L : Type 0} (s : Inside L) : Type 0 where
  pub regions : s.regions ≡ table (state_of s)
  pub states : length s.states.items ≡ length s.legs.items
  pub flags : length s.regions.legs ≡ length s.legs.items
  pub chunk : s.buffer.most ≡ s.place.chunk
  pub runs : AllFit s.place s.records
