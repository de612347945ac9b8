-- What is left to add makes the whole with what is there.
use Rattle.std.proofs.Common.{◌≡◌, ◌+◌, ◌-◌, ◌≤◌, ◌++◌, length}
use Rattle.circular_buffer.specs.Buffer.{keep_last}
use Rattle.nm_replay.specs.Heads.{heads_from}
use Rattle.nm_replay.specs.Kept.{ticket_in}
use Rattle.nm_replay.proofs.kept.add_heads.Given as goal

abbrev pub invariant-loop : goal.invariant-loop
invariant-loop l = record {
  number : l.next.seq ≡ l.fn.first.seq + l.counter;
  ticket : ticket_in l.next.kind ≤ ticket_in l.fn.first.kind + l.counter;
  block : l.next.block ≡ l.fn.first.block + l.counter;
  capacity : l.heads.capacity ≡ l.fn.heads.capacity;
  few : length l.heads.items ≤ l.fn.heads.capacity;
  items : keep_last l.fn.heads.capacity (l.heads.items ++ heads_from (l.count - l.counter) l.next)
      ≡ keep_last l.fn.heads.capacity (l.fn.heads.items ++ heads_from l.count l.fn.first);
}
