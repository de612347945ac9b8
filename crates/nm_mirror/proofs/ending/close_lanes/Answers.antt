-- One lane more.
use Rattle.std.proofs.Common.{◌≡◌, ◌++◌, ◌∷◌, [], ◌∙◌, rules}
use Rattle.nm_mirror.proofs.EndingLemmas.{lane-closed, one-taken}
use Rattle.nm_mirror.proofs.ending.close_lanes.Goals as goal

pub loop-lane-preserved : goal.loop-lane-preserved
loop-lane-preserved g c =
    let here = c.loop-lane.invariant in
    let last : c.loop-lane.rest.items ≡ c.pop.new.self.items ++ c.in-Some.lane ∷ [] = search rules in (
      c.in-Some.lane ∷ here.0,
      one-taken c.args.lanes.items c.loop-lane.rest.items c.pop.new.self.items here.0 c.in-Some.lane here.1 last,
      lane-closed c.in-Some.lane c.into_pass.result here.0 c.args.closer.now.passes c.loop-lane.closer.passes c.close.new.closer.passes c.into_pass.ensures here.2 c.close.ensures.passes,
      c.close.ensures.shards ∙ here.3,
    )
