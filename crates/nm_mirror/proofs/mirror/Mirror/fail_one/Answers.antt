-- The stripe behind the lock is the one that was counted.
use Rattle.std.proofs.Common.{rules}
use Rattle.nm_mirror.proofs.mirror.Mirror.fail_one.Goals as goal

pub returns-clause-counts : goal.returns-clause-counts
returns-clause-counts g c = record {
  held = (c.deref_mut.result.now.gated, c.fail_if_there.new.held.gated);
  number_is = search (rules, c.hold-held.ensures, c.deref_mut.ensures.value);
  counts = c.fail_if_there.ensures.counts;
  goes_out = c.fail_if_there.ensures.fails;
  stays = c.fail_if_there.ensures.stays;
  notes = c.fail_if_there.ensures.notes;
}
