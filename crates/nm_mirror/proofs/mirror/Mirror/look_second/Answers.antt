-- The stripe behind the lock is the one that was looked at.
use Rattle.std.proofs.Common.{rules}
use Rattle.nm_mirror.proofs.mirror.Mirror.look_second.Goals as goal

pub returns-clause-looks : goal.returns-clause-looks
returns-clause-looks g c = record {
  stripes = (c.deref_mut.result.now.gated.stripe, c.look_second.new.self.gated.stripe);
  number = search (rules, c.hold-lent.ensures, c.deref_mut.ensures.value);
  sees = c.look_second.ensures.sees;
}
