-- What went out of the second chunk went out behind the first one.
use Rattle.std.proofs.Common.{◌≡◌, ◌+◌, Err, length, ap, arith}
use Rattle.std.proofs.lemmas.Result.{err_from_is_err_and}
use Rattle.nm_session.proofs.Following.{sends_of_first, sends_behind}
use Rattle.nm_session.proofs.io.send_both.Goals as goal

pub returns-in_err-send-clause-device : goal.returns-in_err-send-clause-device
returns-in_err-send-clause-device g c = λ sent is.
    let handed = err_from_is_err_and c.from_residual.result c.from_residual.ensures.1 in
    let went = c.in_err-send.ensures.device sent (cc (is, handed.1, handed.2)) in
    sends_of_first (g.O.Write.contents c.args.sender.now.device) (g.O.Write.contents c.send.new.self.device)
    c.args.first.now c.args.second.now sent went.0 went.1

pub overflow_add-result : goal.overflow_add-result
overflow_add-result g c =
    let went = c.in-Err-Device.ensures.device c.in-Err-Device.sent (ap Err c.in-Err-Device.field-0-is) in
    omega (arith, went.0, c.well_formed.1.0.1, c.well_formed.1.1.0.1)

pub returns-in-Err-Device-clause-device : goal.returns-in-Err-Device-clause-device
returns-in-Err-Device-clause-device g c = λ sent is.
    let went = c.in-Err-Device.ensures.device c.in-Err-Device.sent (ap Err c.in-Err-Device.field-0-is) in
    let count : length c.args.first.now + c.in-Err-Device.sent ≡ sent = cc is in
    sends_behind (g.O.Write.contents c.args.sender.now.device) (g.O.Write.contents c.send.new.self.device)
    (g.O.Write.contents c.send-2.new.self.device) c.args.first.now c.args.second.now
    c.in-Err-Device.sent sent count c.in_ok-send.ensures.ok went.0 went.1
