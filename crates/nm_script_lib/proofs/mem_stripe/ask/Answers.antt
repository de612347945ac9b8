-- What is asked is inside the stripe, which keeps its shape.
use Rattle.nm_script_lib.proofs.Inside.{may_ask, keeps_shape}
use Rattle.nm_script_lib.proofs.mem_stripe.ask.Goals as goal

pub step-answer-requires : goal.step-answer-requires
step-answer-requires c =
    may_ask c.args.mirror.now c.args.step _ c.args.running.now.stripe c.requires.shape c.requires.inside
    c.in_ok-asked.ensures.asked

pub returns-clause-shape : goal.returns-clause-shape
returns-clause-shape c =
    keeps_shape c.args.mirror.now _ _ _ _ c.requires.shape
    (may_ask c.args.mirror.now c.args.step _ c.args.running.now.stripe c.requires.shape c.requires.inside
    c.in_ok-asked.ensures.asked) c.step-answer.ensures.step
