-- Each message that is taken goes on from the moves so far.
use Rattle.std.proofs.Common.{◌∙◌, List, sym, subst}
use Rattle.nm_mailbox.specs.declared.message.Message.{Message}
use Rattle.nm_mailbox.specs.Ends.{received_by}
use Rattle.nm_session.specs.CalledValue.{CalledValue}
use Rattle.nm_workers.specs.Moving.{owner_state, Moves}
use Rattle.nm_workers.specs.Results.{IsNoted, moment}
use Rattle.nm_workers.proofs.ResultRuns.{same_moment}
use Rattle.nm_workers.proofs.Steps.{moves_on, breaks_on, hears_at, loses_at, learns_at, stops_hearing}
use Rattle.nm_workers.proofs.messages.receive.Goals as goal

pub returns-in_default-clause-err : goal.returns-in_default-clause-err
returns-in_default-clause-err g c output = stops_hearing _ _ _ output c.in_default.ensures.none

pub returns-in-Err-clause-err : goal.returns-in-Err-clause-err
returns-in-Err-clause-err g c output =
    let same = c.in-Err.ensures.err in
    loses_at (moment c.args.core.now c.args.log.now) (moment c.handle_message.new.core c.handle_message.new.log)
    c.in-Some.first (received_by c.args.inbox.now) (received_by c.wait.new.inbox) c.in-Some.ensures.some
    c.in-Err.fault output c.in-Err.ensures.cause
    (same_moment c.args.core.now c.handle_message.new.core c.args.log.now c.handle_message.new.log same.0 same.1)

pub messages-init : goal.messages-init
messages-init g c = record {
  moves = λ output. hears_at (moment c.args.core.now c.args.log.now)
      (moment c.handle_message.new.core c.handle_message.new.log) c.in-Some.first (received_by c.args.inbox.now)
      (received_by c.wait.new.inbox) c.in-Some.ensures.some output c.in-Ok.ensures.ok;
  known = learns_at c.in-Some.first (received_by c.args.inbox.now)
      (received_by c.wait.new.inbox) c.in-Some.ensures.some c.in-Ok.state c.args.state c.in-Ok.ensures.learned
      c.requires.known;
  channel = c.in-Some.ensures.channel;
}

pub returns-in-Err-handle_message-clause-err : goal.returns-in-Err-handle_message-clause-err
returns-in-Err-handle_message-clause-err g c output =
    let here = moment c.messages.core c.messages.log in
    let there = moment c.handle_message-in-messages.new.core c.handle_message-in-messages.new.log in
    let same = c.in-Err-handle_message.ensures.err in
    breaks_on c.in-Err-handle_message.fault
    (owner_state (moment c.args.core.now c.args.log.now) (received_by c.args.inbox.now) output)
    (owner_state here (received_by c.messages.inbox) output) (owner_state there (received_by c.try_recv.new.self) output)
    (c.messages.invariant.moves output)
    (loses_at here there c.in-Some-try_recv.message (received_by c.messages.inbox) (received_by c.try_recv.new.self)
    c.in-Some-try_recv.ensures.some c.in-Err-handle_message.fault output c.in-Err-handle_message.ensures.cause
    (same_moment c.messages.core c.handle_message-in-messages.new.core c.messages.log
    c.handle_message-in-messages.new.log same.0 same.1))

pub messages-preserved : goal.messages-preserved
messages-preserved g c =
    let here = moment c.messages.core c.messages.log in
    let there = moment c.handle_message-in-messages.new.core c.handle_message-in-messages.new.log in
    record {
      moves = λ output. moves_on
          (owner_state (moment c.args.core.now c.args.log.now) (received_by c.args.inbox.now) output)
          (owner_state here (received_by c.messages.inbox) output)
          (owner_state there (received_by c.try_recv.new.self) output) (c.messages.invariant.moves output)
          (hears_at here there c.in-Some-try_recv.message (received_by c.messages.inbox)
          (received_by c.try_recv.new.self) c.in-Some-try_recv.ensures.some output c.in-Ok-handle_message.ensures.ok);
      known = learns_at c.in-Some-try_recv.message
          (received_by c.messages.inbox) (received_by c.try_recv.new.self) c.in-Some-try_recv.ensures.some
          c.in-Ok-handle_message.next c.messages.state c.in-Ok-handle_message.ensures.learned c.messages.invariant.known;
      channel = c.in-Some-try_recv.ensures.channel ∙ c.messages.invariant.channel;
    }

pub returns-in_default-try_recv-clause-ok : goal.returns-in_default-try_recv-clause-ok
returns-in_default-try_recv-clause-ok g c output =
    subst (λ (heard : List (Message CalledValue)). Moves (IsNoted g.T.Target g.T.Log.SessionLog g.E.Extent.session)
    (owner_state (moment c.args.core.now c.args.log.now) (received_by c.args.inbox.now) output)
    (owner_state (moment c.messages.core c.messages.log) heard output)) (sym c.in_default-try_recv.ensures.none)
    (c.messages.invariant.moves output)
