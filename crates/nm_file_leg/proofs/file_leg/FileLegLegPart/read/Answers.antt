use Rattle.std.proofs.Common.{rules, ◌≡◌, ℕ, ◌+◌, ◌/◌, ◌≤◌, length, ap, subst, arith}
use Rattle.nm_leg.specs.Leg.{IsRun}
use Rattle.nm_geometry.specs.Geometry.{stripe_blocks}
use Rattle.nm_file_leg.specs.Blocks.{length-blocks_from}
use Rattle.nm_file_leg.proofs.LegLemmas.{reads-failed, reads-marked, reads-run}
use Rattle.nm_file_leg.proofs.file_leg.FileLegLegPart.read.Goals as goal

pub read_run-requires-clause-run : goal.read_run-requires-clause-run
read_run-requires-clause-run g c =
    let leg = c.args.self.now in
    subst (λ (n : ℕ). IsRun c.args.at n c.args.into.now) (length-blocks_from leg.stripe leg.shape _ _ _) c.requires

pub returns-then-not-read_run : goal.returns-then-not-read_run
returns-then-not-read_run g c = reads-marked (reads-failed _ _ c.args.self.now.stripe c.args.self.now.shape _ _ _ _ _ _ c.count_fault.ensures c.read_run.ensures)

pub returns : goal.returns
returns g c =
    let leg = c.args.self.now in
    let long : length c.read_run.new.into / 512 ≡ length c.args.into.now / 512 = ap (λ (n : ℕ). n / 512) c.read_run.auto.into in
    let inside : c.args.at + length c.read_run.new.into / 512 ≤ stripe_blocks leg.stripe leg.shape = omega (arith, long, c.requires.inside, length-blocks_from leg.stripe leg.shape 0 (stripe_blocks leg.stripe leg.shape) (g.M.Medium.held leg.medium).contents) in
    reads-marked (reads-run _ _ leg.stripe leg.shape _ _ _ _ _ (search rules) inside leg.owns c.read_run.ensures)
