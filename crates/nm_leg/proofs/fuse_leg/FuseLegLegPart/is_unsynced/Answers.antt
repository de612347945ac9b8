-- No block is ever marked.
use Rattle.std.proofs.Common.{sym, length}
use Rattle.nm_leg.proofs.MarkLemmas.{none-marked}
use Rattle.nm_leg.proofs.fuse_leg.FuseLegLegPart.is_unsynced.Goals as goal

pub returns : goal.returns
returns c = sym (none-marked c.args._at c.args._count (length c.args.self.now.blocks.items))
