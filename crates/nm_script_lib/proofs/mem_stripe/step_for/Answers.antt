use Rattle.nm_script_lib.proofs.Inside.{replacement_asked}
use Rattle.nm_script_lib.proofs.mem_stripe.step_for.Goals as goal

pub returns-in_ok-part-in-Replace-clause-asked : goal.returns-in_ok-part-in-Replace-clause-asked
returns-in_ok-part-in-Replace-clause-asked c =
    replacement_asked c.args.mirror.now c.args.step c.in-Replace.leg c.in-Replace.fill
    c.in_ok-part-in-Replace.part c.in-Replace.is c.in_ok-part-in-Replace.ensures.part
