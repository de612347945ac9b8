-- Begun, pushed and claimed, or the end after the begin.
use Rattle.std.proofs.Common.{rules}
use Rattle.nm_lanes.proofs.WriteLemmas.{write-done, pushes-stop, claims-stop}
use Rattle.nm_lanes.proofs.stripe_call.StripeCall.write_one.Goals as goal

pub returns-in_err-push_all-clause-err : goal.returns-in_err-push_all-clause-err
returns-in_err-push_all-clause-err g c =
    let all = pushes-stop g.D.Lane.follows g.met.D.Lane.joins c.args.lane.now c.begin_one.new.lane c.push_all.new.lane c.args.block c.args.slice c.in_ok-ticket.ticket c.in_err-push_all.field-0.0 c.in_ok-ticket.ensures.ok c.in_err-push_all.ensures.err in
    search (rules, all)

pub returns-in-Err-clause-err : goal.returns-in-Err-clause-err
returns-in-Err-clause-err g c =
    claims-stop g.D.Lane.follows g.met.D.Lane.joins c.args.lane.now c.begin_one.new.lane c.push_all.new.lane c.claim_one.new.lane c.args.block c.args.slice c.in_ok-ticket.ticket c.in-Err.kind c.in_ok-ticket.ensures.ok c.in_ok-push_all.ensures.ok c.in-Err.ensures.err

pub returns-in-Ok-clause-ok : goal.returns-in-Ok-clause-ok
returns-in-Ok-clause-ok g c =
    write-done g.D.Lane.follows g.met.D.Lane.joins c.args.lane.now c.begin_one.new.lane c.push_all.new.lane c.claim_one.new.lane c.args.block c.args.slice c.in_ok-ticket.ticket c.in_ok-ticket.ensures.ok c.in_ok-push_all.ensures.ok c.in-Ok.ensures.ok
