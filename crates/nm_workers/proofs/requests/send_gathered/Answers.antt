-- What waits is sent, or a part of it.
use Rattle.nm_mailbox.specs.Ends.{received_by}
use Rattle.nm_replies.specs.Sending.{device_of}
use Rattle.nm_workers.proofs.Rounds.{led_off}
use Rattle.nm_workers.proofs.Steps.{sends, sends_part}
use Rattle.nm_workers.proofs.requests.send_gathered.Goals as goal

pub returns-clause-leads : goal.returns-clause-leads
returns-clause-leads g c = (
  sends c.args.owner.now.core c.send_out.new.core c.args.owner.now.log (received_by c.args.owner.now.inbox)
      (g.O.Write.contents (device_of c.args.owner.now.sender)) (g.O.Write.contents (device_of c.send_out.new.sender))
      c.in_ok-send_out.ensures.ok,
  c.requires.known,
)

pub returns-in_err-send_out-clause-leads : goal.returns-in_err-send_out-clause-leads
returns-in_err-send_out-clause-leads g c =
    led_off g.O.Write.contents c.from_residual.result c.in_err-send_out.field-0.0 _ _ c.from_residual.ensures.1
    (sends_part c.in_err-send_out.field-0.0 c.args.owner.now.core c.send_out.new.core c.args.owner.now.log (received_by c.args.owner.now.inbox)
    (g.O.Write.contents (device_of c.args.owner.now.sender)) (g.O.Write.contents (device_of c.send_out.new.sender))
    c.in_err-send_out.ensures.err)
