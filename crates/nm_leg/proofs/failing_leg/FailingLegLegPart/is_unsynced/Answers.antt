-- No block is ever marked.
use Rattle.std.proofs.Common.{sym}
use Rattle.nm_leg.proofs.MarkLemmas.{none-marked}
use Rattle.nm_leg.proofs.failing_leg.FailingLegLegPart.is_unsynced.Goals as goal

pub returns : goal.returns
returns c = sym (none-marked c.args._at c.args._count c.args.self.now.blocks)
