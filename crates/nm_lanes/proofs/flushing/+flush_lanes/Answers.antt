-- A lane, and the lanes after it.
use Rattle.std.proofs.Common.{◌≡◌, ◌+◌, length, arith, subst}
use Rattle.std.specs.Prelude.{ℕ, Result}
use Rattle.nm_lanes.specs.declared.call_error.CallError.{CallError}
use Rattle.nm_lanes.specs.OnLanes.{RunsLanes}
use Rattle.nm_lanes.specs.Syncs.{AllSync, IsLegSyncs}
use Rattle.nm_lanes.proofs.OnLanesLemmas.{first-ended, both-ok}
use Rattle.nm_lanes.proofs.flushing.+flush_lanes.Goals as goal

pub returns-in-Ok : goal.returns-in-Ok
returns-in-Ok g t c =
    let legs = c.args.call.now.caller.now.shape.now.legs in
    let cut = c.split_at_mut-lane in
    let at : c.args.first + 1 ≡ c.args.first + length cut.result.0.now = omega (arith, cut.ensures.front_len) in
    let all = both-ok g.D.Lane.follows (λ stripe own. IsLegSyncs legs own) (λ stripe own. AllSync legs own) (λ stripe own all. all.only) c.args.first (c.args.first + 1) cut.result.0.now c.flush_one-done.new.lanes cut.result.1.now c.flush_lanes-others.new.lanes
    c.flush_one-done.result c.flush_lanes-others.result c.in-Ok.field-0 at c.in-Ok.is c.flush_one-done.ensures.syncs c.flush_lanes-others.ensures.syncs in
    record { syncs = rw cut.ensures.value all }

pub returns-in-Err : goal.returns-in-Err
returns-in-Err g t c =
    let legs = c.args.call.now.caller.now.shape.now.legs in
    let cut = c.split_at_mut-lane in
    let at : c.args.first + 1 ≡ c.args.first + length cut.result.0.now = omega (arith, cut.ensures.front_len) in
    let ended = subst (λ (r : Result _ CallError). RunsLanes g.D.Lane.follows (λ stripe own. IsLegSyncs legs own) (λ stripe own. AllSync legs own) c.args.first (cut.result.0.now, c.flush_one-done.new.lanes) r) c.in-Err.is c.flush_one-done.ensures.syncs in
    let others = subst (λ (n : ℕ). RunsLanes g.D.Lane.follows (λ stripe own. IsLegSyncs legs own) (λ stripe own. AllSync legs own) n (cut.result.1.now, c.flush_lanes-others.new.lanes) c.flush_lanes-others.result) at c.flush_lanes-others.ensures.syncs in
    let all = first-ended g.D.Lane.follows (λ stripe own. IsLegSyncs legs own) (λ stripe own. AllSync legs own) (λ stripe own all. all.only) c.args.first c.in-Err.cause cut.result.0.now c.flush_one-done.new.lanes cut.result.1.now c.flush_lanes-others.new.lanes
    c.flush_lanes-others.result ended others in
    record { syncs = rw cut.ensures.value all }
