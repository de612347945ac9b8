-- All may have been written, and nothing is lost.
use Rattle.std.proofs.Common.{◌<◌, IsTrue, sym, subst}
use Rattle.nm_geometry.specs.Geometry.{Geometry, stripe_blocks}
use Rattle.nm_file_leg.specs.FileLeg.{OwnsBlocks, KeepsBlocks}
use Rattle.nm_file_leg.specs.Remembered.{Begins}
use Rattle.nm_file_leg.proofs.RuleLemmas.{rules-begin}
use Rattle.nm_file_leg.proofs.file_leg.FileLeg.new.Goals as goal

pub invariant_of-result-2 : goal.invariant_of-result-2
invariant_of-result-2 g c =
    let s = c.args.stripe in
    let held = g.M.Medium.held c.args.medium in
    let same = sym c.shape.view_is in
    let all = rw c.stripe_blocks-blocks.ensures.blocks at c.in_ok-writes.ensures in
    let begins = subst (λ (p : Geometry). Begins c.shape.inside.region (stripe_blocks s p) c.in_ok-writes.writes) same all in
    let keeps = subst (λ (p : Geometry). IsTrue g.M.Medium.honest → KeepsBlocks held s p (stripe_blocks s p)) same c.requires.kept in
    record {
      bounds = c.shape.invariant;
      inside = subst (λ (p : Geometry). s < p.stripes) same c.requires.stripe;
      owns = subst (λ (p : Geometry). IsTrue g.M.Medium.honest → OwnsBlocks held s p) same c.requires.owns;
      rules = rules-begin _ held s _ c.in_ok-writes.writes c.shape.invariant begins keeps;
    }
