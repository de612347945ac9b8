-- A refused claim is the end, or pushes stand after it.
use Rattle.std.proofs.Common.{rules, ◌≡◌, Some, None}
use Rattle.nm_lanes.specs.Own.{claim_end_of}
use Rattle.nm_lanes.proofs.WriteLemmas.{claim-done, claim-ends, claim-goes, claim-stops}
use Rattle.nm_lanes.proofs.stripe_call.StripeCall.try_claim_once.Goals as goal

pub returns-in-Ok-clause-ok : goal.returns-in-Ok-clause-ok
returns-in-Ok-clause-ok g c = claim-done g.D.Lane.follows c.args.lane.now c.claim.new.lane c.args.ticket c.in-Ok.field-0 c.in-Ok.ensures.follows

pub returns-in-Some-clause-err : goal.returns-in-Some-clause-err
returns-in-Some-clause-err g c =
    let is : claim_end_of c.in-Err.refusal ≡ Some c.in-Some.kind = search rules in
    claim-ends g.D.Lane.follows c.args.lane.now c.claim.new.lane c.args.ticket c.in-Err.refusal c.in-Some.kind c.in-Err.ensures.follows is

pub returns-in_err-help_write-in-Err-clause-err : goal.returns-in_err-help_write-in-Err-clause-err
returns-in_err-help_write-in-Err-clause-err g c =
    let none : claim_end_of c.in-Err.refusal ≡ None = search rules in
    let kind = c.in_err-help_write-in-Err.field-0.0 in
    let all = claim-stops g.D.Lane.follows g.met.D.Lane.joins c.args.lane.now c.claim.new.lane c.help_write.new.lane c.args.ticket c.in-Err.refusal kind c.in-Err.ensures.follows none c.in_err-help_write-in-Err.ensures.err in
    search (rules, all)

pub returns-in_ok-help_write-in-Err-clause-ok : goal.returns-in_ok-help_write-in-Err-clause-ok
returns-in_ok-help_write-in-Err-clause-ok g c =
    let none : claim_end_of c.in-Err.refusal ≡ None = search rules in
    claim-goes g.D.Lane.follows g.met.D.Lane.joins c.args.lane.now c.claim.new.lane c.help_write.new.lane c.args.ticket c.in-Err.refusal c.in-Err.ensures.follows none c.in_ok-help_write-in-Err.ensures.ok
