use Rattle.nm_superblock.specs.Spans.{IsUnmarked}
use Rattle.nm_superblock.proofs.span_map.SpanMap.is_empty.Given as goal

-- no span so far is marked
abbrev pub invariant-spans : goal.invariant-spans
invariant-spans l = IsUnmarked l.span l.self
