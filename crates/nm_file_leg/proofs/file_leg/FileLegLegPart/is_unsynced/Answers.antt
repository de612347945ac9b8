-- The leg has as many blocks as its regions.
use Rattle.std.proofs.Common.{ℕ, ap, arith, ◌∙◌}
use Rattle.nm_leg.specs.Leg.{is_marked_in}
use Rattle.nm_geometry.specs.Geometry.{stripe_blocks}
use Rattle.nm_file_leg.specs.Blocks.{length-blocks_from}
use Rattle.nm_file_leg.specs.FileLeg.{written_from}
use Rattle.nm_file_leg.proofs.file_leg.FileLegLegPart.is_unsynced.Goals as goal

pub are_written-requires : goal.are_written-requires
are_written-requires g c =
    let leg = c.args.self.now in
    record { inside = omega (arith, leg.rules.blocks, c.requires, length-blocks_from leg.stripe leg.shape 0 (stripe_blocks leg.stripe leg.shape) (g.M.Medium.held leg.medium).contents) }

pub returns : goal.returns
returns g c =
    let leg = c.args.self.now in
    c.are_written.ensures ∙ ap (λ (n : ℕ). is_marked_in c.args.at c.args.count (written_from leg.writes n 0)) leg.rules.blocks
