use Rattle.nm_script_lib.proofs.Sent.{sent_more}
use Rattle.nm_script_lib.proofs.streams.send.Goals as goal

pub loop-rest-preserved : goal.loop-rest-preserved
loop-rest-preserved g c =
    let i = c.loop-rest.invariant in
    sent_more _ _ _ c.args.bytes.now i.0 c.loop-rest.rest.now c.in-Ok.count i.1 i.2
    c.in-Ok.ensures.bytes
