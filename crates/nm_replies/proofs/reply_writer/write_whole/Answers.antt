use Rattle.std.proofs.Common.{length, ap, arith}
use Rattle.std.proofs.lemmas.List.{length-drop, take_rest}
use Rattle.nm_replies.proofs.Appending.{appends-more}
use Rattle.nm_replies.proofs.reply_writer.write_whole.Goals as goal

pub loop-sent-preserved : goal.loop-sent-preserved
loop-sent-preserved g c =
    let rest = ap length (take_rest c.args.bytes.now c.loop-sent.sent) in
    let size = length-drop c.loop-sent.sent c.args.bytes.now in
    let bound = c.in-Ok.ensures.bound in
    let before = c.loop-sent-test.true in (
      omega (arith, rest, size, bound, before),
      appends-more (g.W.Write.contents c.args.device.now) (g.W.Write.contents c.loop-sent.device)
          (g.W.Write.contents c.write.new.self) c.args.bytes.now c.loop-sent.sent c.in-Ok.taken
          c.loop-sent.invariant.1 c.in-Ok.ensures.bytes,
    )
