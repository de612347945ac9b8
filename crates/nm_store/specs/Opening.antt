-- What a store takes memory for, as it opens.
use Rattle.std.specs.Prelude.{◌≡◌, ℕ, [], map}
use Rattle.nm_regions.specs.Changes as regions
use Rattle.nm_resync.specs.Chunk.{empty}
use Rattle.nm_rules.specs.declared.at.At.{At}
use Rattle.nm_rules.specs.Opening.{bits_from, opened_state}
use Rattle.nm_store.specs.declared.opening.Room.{Room}

-- the room of a stripe at this place, of so many legs, those of these bits in sync: no record and
-- no history
pub record IsRoom (place : At) (legs bits : ℕ) (room : Room) : Type 0 where
  pub states : room.states.items ≡ map opened_state (bits_from bits legs 0)
  pub regions : room.regions ≡ regions.opened place.blocks place.region (bits_from bits legs 0)
  pub buffer : room.buffer ≡ empty place.chunk
  pub records : room.records ≡ []
  pub last : room.kept.last ≡ record { entries = []; most = place.history }
  pub total : room.kept.total ≡ 0
