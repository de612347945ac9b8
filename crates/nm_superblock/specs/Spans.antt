-- The map of spans, and the sets of legs of each stripe.
use Rattle.std.specs.Prelude.{◌≡◌, ◌≢◌, ℕ, ◌<◌, ◌+◌, ◌*◌, ◌/◌, ◌%◌, slice_index}
use Rattle.std.specs.Int.{bit_at}
use Rattle.nm_superblock.specs.declared.leg_sets.LegSets.{LegSets}
use Rattle.nm_superblock.specs.declared.span_map.SpanMap.{SpanMap}

-- the mark of a span: 1 where legs may differ there, else 0
abbrev pub mark_of : (span : ℕ) → SpanMap → ℕ
mark_of span map = bit_at (slice_index map.bytes (span / 8)) (span % 8)

-- none of the first spans is marked
abbrev pub IsUnmarked : ℕ → SpanMap → Type 0
IsUnmarked count map = (span : ℕ) → span < count → mark_of span map ≢ 1

-- a span gets this mark, and no other span another one
pub record SetsMark (span mark : ℕ) (old new : SpanMap) : Type 0 where
  pub here : mark_of span new ≡ mark
  pub others : (other : ℕ) → other ≢ span → mark_of other new ≡ mark_of other old

-- the sets of legs of a stripe: in sync, about to be, out of sync in no more than marked spans
abbrev pub in_sync_of : (stripe : ℕ) → LegSets → ℕ
in_sync_of stripe sets = slice_index sets.bytes (4 * stripe)

abbrev pub candidates_of : (stripe : ℕ) → LegSets → ℕ
candidates_of stripe sets = slice_index sets.bytes (4 * stripe + 1)

abbrev pub partial_of : (stripe : ℕ) → LegSets → ℕ
partial_of stripe sets = slice_index sets.bytes (4 * stripe + 2)
