use Rattle.std.proofs.Common.{◌∙◌}
use Rattle.nm_script_lib.proofs.Legs.{no_legs, leg_more}
use Rattle.nm_script_lib.proofs.mem_stripe.new_legs.Goals as goal

pub loop-init : goal.loop-init
loop-init c = no_legs c.args.mirror.now.blocks _ c.new-all.ensures.items

pub loop-preserved : goal.loop-preserved
loop-preserved c =
    leg_more c.loop.counter c.args.mirror.now.blocks c.loop.all.items _ _ c.loop.invariant
    (c.in_ok-synced.ensures.leg ∙ c.in_ok-leg.ensures.ok) c.in_ok-push.ensures.items
