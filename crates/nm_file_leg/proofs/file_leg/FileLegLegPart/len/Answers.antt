use Rattle.std.proofs.Common.{sym, ◌∙◌}
use Rattle.nm_file_leg.specs.Blocks.{length-blocks_from}
use Rattle.nm_file_leg.proofs.file_leg.FileLegLegPart.len.Goals as goal

pub returns : goal.returns
returns g c =
    let leg = c.args.self.now in
    c.stripe_blocks.ensures.blocks ∙ sym (length-blocks_from leg.stripe leg.shape _ _ _)
