-- What was done on the only lane.
use Rattle.std.proofs.Common.{get_or, arith}
use Rattle.nm_lanes.specs.Ends.{LaneDid, LaneTries}
use Rattle.nm_lanes.specs.Fillings.{filling}
use Rattle.nm_lanes.specs.RegionRuns.{DoesSomeIn}
use Rattle.nm_lanes.proofs.EachLemmas.{each-one}
use Rattle.nm_lanes.proofs.RegionLemmas.{region-one, region-lies}
use Rattle.nm_lanes.proofs.RunLaneLemmas.{did-some, done-one, tries-some}
use Rattle.nm_lanes.proofs.region_runs.do_stripe.Goals as goal

pub returns-in-Ok : goal.returns-in-Ok
returns-in-Ok g c =
    let shape = c.args.call.now.caller.now.shape.now in
    let region = c.args.region in
    let reads = region.pieces.is_read in
    let writes = filling shape region.pieces c.args.cuts.now in
    let lanes = c.args.lanes.now in
    let any = c.index-lanes-0.result in
    let new = c.do_lane.new.lane in
    let into = c.do_lane.new.into in
    let own = region-one shape region c.args.cuts.now c.within_bounds.ensures c.requires.pieces c.requires.region in
    record {
      does = record {
        each = each-one (λ stripe before after. LaneDid g.D.Lane.follows (λ own. DoesSomeIn shape reads writes stripe own) before after) region.stripe lanes any new c.requires.one (did-some g.D.Lane.follows shape reads region.stripe writes into (get_or lanes 0 any) new own c.in-Ok.ensures.ok);
        all = done-one g.D.Lane.follows g.met.D.Lane.stays shape reads writes into region.stripe lanes any new c.requires.one c.in-Ok.ensures.ok;
      };
    }

pub returns-in-Err : goal.returns-in-Err
returns-in-Err g c =
    let shape = c.args.call.now.caller.now.shape.now in
    let region = c.args.region in
    let reads = region.pieces.is_read in
    let writes = filling shape region.pieces c.args.cuts.now in
    let lanes = c.args.lanes.now in
    let any = c.index-lanes-0.result in
    let new = c.do_lane.new.lane in
    let kind = c.in-Err.kind in
    let own = region-one shape region c.args.cuts.now c.within_bounds.ensures c.requires.pieces c.requires.region in
    record {
      does = record {
        each = record {
          from = omega arith;
          upto = omega (arith, c.requires.one);
          each = each-one (λ stripe before after. LaneTries g.D.Lane.follows (λ own. DoesSomeIn shape reads writes stripe own) (record { stripe = region.stripe; kind = kind }) stripe before after) region.stripe lanes any new c.requires.one
              (tries-some g.D.Lane.follows shape reads region.stripe writes (record { stripe = region.stripe; kind = kind }) (get_or lanes 0 any) new own c.in-Err.ensures.err);
        };
        all = region-lies shape region c.args.cuts.now c.within_bounds.ensures c.requires.pieces c.requires.region;
      };
    }
