-- What was done on the only lane.
use Rattle.std.proofs.Common.{◌≡◌, get_or, subst, rules, arith}
use Rattle.nm_lanes.specs.Ends.{LaneDid, LaneTries}
use Rattle.nm_lanes.specs.Syncs.{AllSync, IsLegSyncs, LaneSyncs, LaneSyncStops}
use Rattle.nm_lanes.proofs.EachLemmas.{each-one}
use Rattle.nm_lanes.proofs.SyncLemmas.{syncs-did, syncs-tried}
use Rattle.nm_lanes.proofs.flushing.flush_one.Goals as goal

pub returns-in-Ok : goal.returns-in-Ok
returns-in-Ok g c =
    let legs = c.args.call.now.caller.now.shape.now.legs in
    let old = get_or c.args.lanes.now 0 c.index-lanes-0.result in
    let new = c.sync_all.new.lane in
    let is : c.shape.inside.legs ≡ legs = search rules in
    let did = subst (λ n. LaneSyncs g.D.Lane.follows (old, new) n n) is c.in-Ok.ensures.ok in
    record { syncs = each-one (λ stripe before after. LaneDid g.D.Lane.follows (λ own. IsLegSyncs legs own) before after) c.args.stripe c.args.lanes.now c.index-lanes-0.result new c.requires.one (syncs-did g.D.Lane.follows legs old new did) }

pub returns-in-Err : goal.returns-in-Err
returns-in-Err g c =
    let legs = c.args.call.now.caller.now.shape.now.legs in
    let old = get_or c.args.lanes.now 0 c.index-lanes-0.result in
    let new = c.sync_all.new.lane in
    let kind = c.in-Err.kind in
    let is : c.shape.inside.legs ≡ legs = search rules in
    let stops = subst (λ n. LaneSyncStops g.D.Lane.follows (old, new) n kind) is c.in-Err.ensures.err in
    record {
      syncs = record {
        from = omega arith;
        upto = omega (arith, c.requires.one);
        each = each-one (λ stripe before after. LaneTries g.D.Lane.follows (λ own. AllSync legs own) (record { stripe = c.args.stripe; kind = kind }) stripe before after) c.args.stripe c.args.lanes.now c.index-lanes-0.result new c.requires.one
            (syncs-tried g.D.Lane.follows legs c.args.stripe kind old new stops);
      };
    }
