-- The stripe behind the lock is the one that was told so.
use Rattle.std.proofs.Common.{rules}
use Rattle.nm_mirror.proofs.mirror.Mirror.end_one.Goals as goal

pub returns : goal.returns
returns g c = record {
  held = (c.deref_mut.result.now.gated, c.end_save.new.self.gated);
  number_is = search (rules, c.hold-held.ensures, c.deref_mut.ensures.value);
  so_is = c.end_save.ensures.ends;
  notes = c.end_save.ensures.notes;
}
