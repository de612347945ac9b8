-- The part that comes back is as long as the leg was.
use Rattle.nm_script_lib.proofs.Comebacks.{back-shape}
use Rattle.nm_script_lib.proofs.script_stripe.ScriptStripe.come_back.Goals as goal

pub returns-in-Ok-clause-shape : goal.returns-in-Ok-clause-shape
returns-in-Ok-clause-shape c =
    back-shape c.args.mirror.now c.args.self.now.stripe c.args.leg c.part.result.now c.in_ok-part.part
    c.requires.shape c.part.ensures c.in_ok-part.ensures.left c.return_lost.new.self c.requires.leg c.in-Ok.ensures.ok
