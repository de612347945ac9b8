-- So far the room has what was read, and room where that is nothing.
use Rattle.std.proofs.Common.{◌≡◌, ◌-◌, ◌<◌, [], length}
use Rattle.std.specs.Io.KnownBytes.{Consumes}
use Rattle.nm_workers.proofs.reader.fill.Given as goal

abbrev pub invariant-reads : goal.invariant-reads
invariant-reads g l = record {
  gives : Consumes (g.I.Read.remaining l.fn.source) (g.I.Read.remaining l.source) l.room.items;
  some : l.room.items ≡ [] → 0 < l.room.spare;
}

abbrev pub decreases-reads : goal.decreases-reads
decreases-reads g l = l.fn.wanted - length l.room.items
