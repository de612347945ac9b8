-- The request is answered, and what is to go out is sent.
use Rattle.nm_mailbox.specs.Ends.{received_by}
use Rattle.nm_replies.specs.Sending.{device_of}
use Rattle.nm_workers.specs.Moving.{owner_state}
use Rattle.nm_workers.specs.Results.{moment}
use Rattle.nm_workers.proofs.ResultRuns.{same_moment}
use Rattle.nm_workers.proofs.Rounds.{handed_on, stops_there}
use Rattle.nm_workers.proofs.Steps.{moves_on, breaks_on, stays, settles, sends, sends_part}
use Rattle.nm_workers.proofs.requests.do_deferred.Goals as goal

pub returns-in_err-answer_deferred-clause-err : goal.returns-in_err-answer_deferred-clause-err
returns-in_err-answer_deferred-clause-err g c =
    let old = moment c.args.owner.now.core c.args.owner.now.log in
    let stopped = c.in_err-answer_deferred.ensures.err in
    handed_on c.from_residual.result c.in_err-answer_deferred.field-0.0 _ c.from_residual.ensures.1
    (stops_there c.in_err-answer_deferred.field-0.0 stopped.0 _ _
    (stays old (moment c.answer_deferred.new.core c.answer_deferred.new.log) (received_by c.args.owner.now.inbox)
    (g.O.Write.contents (device_of c.args.owner.now.sender))
    (same_moment c.args.owner.now.core c.answer_deferred.new.core c.args.owner.now.log c.answer_deferred.new.log
    stopped.1 stopped.2)))

pub returns-clause-ok : goal.returns-clause-ok
returns-clause-ok g c =
    let heard = received_by c.args.owner.now.inbox in
    let output = g.O.Write.contents (device_of c.args.owner.now.sender) in
    let written = g.O.Write.contents (device_of c.send_out.new.sender) in
    let old = moment c.args.owner.now.core c.args.owner.now.log in
    let log = c.answer_deferred.new.log in
    moves_on (owner_state old heard output) (owner_state (moment c.answer_deferred.new.core log) heard output)
    (owner_state (moment c.send_out.new.core log) heard written)
    (settles old (moment c.answer_deferred.new.core log) c.args.dispatcher.now.pool.deferred heard output
    c.in_ok-answer_deferred.ensures.ok)
    (sends c.answer_deferred.new.core c.send_out.new.core log heard output written c.in_ok-send_out.ensures.ok)

pub returns-in_err-send_out-clause-err : goal.returns-in_err-send_out-clause-err
returns-in_err-send_out-clause-err g c =
    let heard = received_by c.args.owner.now.inbox in
    let output = g.O.Write.contents (device_of c.args.owner.now.sender) in
    let written = g.O.Write.contents (device_of c.send_out.new.sender) in
    let old = moment c.args.owner.now.core c.args.owner.now.log in
    let log = c.answer_deferred.new.log in
    handed_on c.from_residual-in_err-send_out.result c.in_err-send_out.field-0.0 _
    c.from_residual-in_err-send_out.ensures.1
    (breaks_on c.in_err-send_out.field-0.0 (owner_state old heard output)
    (owner_state (moment c.answer_deferred.new.core log) heard output) (owner_state (moment c.send_out.new.core log) heard written)
    (settles old (moment c.answer_deferred.new.core log) c.args.dispatcher.now.pool.deferred heard output
    c.in_ok-answer_deferred.ensures.ok)
    (sends_part c.in_err-send_out.field-0.0 c.answer_deferred.new.core c.send_out.new.core log heard output written
    c.in_err-send_out.ensures.err))
