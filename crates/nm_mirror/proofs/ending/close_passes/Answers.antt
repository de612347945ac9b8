-- One pass more.
use Rattle.std.proofs.Common.{◌≡◌, ◌++◌, ◌∷◌, [], ◌∙◌, rules}
use Rattle.nm_mirror.proofs.EndingLemmas.{one-taken, pass-closed}
use Rattle.nm_mirror.proofs.ending.close_passes.Goals as goal

pub loop-pass-preserved-in-Some : goal.loop-pass-preserved-in-Some
loop-pass-preserved-in-Some g c =
    let here = c.loop-pass.invariant in
    let last : c.loop-pass.rest.items ≡ c.pop.new.self.items ++ c.in-Some.pass ∷ [] = search rules in (
      c.in-Some.pass ∷ here.0,
      one-taken c.args.passes.items c.loop-pass.rest.items c.pop.new.self.items here.0 c.in-Some.pass here.1 last,
      pass-closed c.in-Some.pass here.0 c.args.closer.now.passes c.loop-pass.closer.passes c.close_lanes.new.closer.passes here.2 c.close_lanes.ensures.passes,
      c.close_lanes.ensures.shards ∙ here.3,
    )
