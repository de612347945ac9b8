use Rattle.std.proofs.Common.{◌≡◌, take}
use Rattle.nm_leg.specs.TestLegs.{of_fuse}
use Rattle.nm_script_lib.specs.MemStripe.{loaded_leg}
use Rattle.nm_script_lib.proofs.mem_stripe.loaded_leg.Given as goal

abbrev pub invariant-loop-load : goal.invariant-loop-load
invariant-loop-load l = of_fuse l.leg ≡ loaded_leg l.mirror (take l.load-index l.loads) l.place
