-- What a superblock says of one stripe, as a list of spans.
use Rattle.std.specs.Prelude.{◌≡◌, ◌<◌, ◌↔◌, ℕ, Bool, false, List, IsTrue, slice_index_or}
use Rattle.nm_superblock.specs.declared.span_map.SpanMap.{SpanMap}
use Rattle.nm_superblock.specs.Spans.{mark_of}

-- of the first spans, those of the list are marked
abbrev pub AreMarksOf : (count : ℕ) → SpanMap → List Bool → Type 0
AreMarksOf count map marks =
    (span : ℕ) → span < count → IsTrue (slice_index_or marks span false) ↔ (mark_of span map ≡ 1)
