-- A halt and a refusal that ends the call are its last step.
use Rattle.std.proofs.Common.{rules}
use Rattle.nm_lanes.specs.Steps.{Nobodys}
use Rattle.nm_lanes.specs.Own.{EndsSo}
use Rattle.nm_lanes.specs.declared.call_error_kind.CallErrorKind.TheVariants as cause
use Rattle.nm_lanes.proofs.LaneLemmas.{stops-one, stops-refused}
use Rattle.nm_lanes.proofs.stripe_call.StripeCall.try_push.Goals as goal

pub returns-in-Ok-Halted-clause-err : goal.returns-in-Ok-Halted-clause-err
returns-in-Ok-Halted-clause-err g c =
    stops-one g.D.Lane.follows _ _ _ _ (EndsSo Nobodys cause.Halted) c.in-Ok-Halted.ensures.follows (search rules)

pub returns-in-Some-clause-err : goal.returns-in-Some-clause-err
returns-in-Some-clause-err g c =
    stops-refused g.D.Lane.follows _ _ _ _ c.in-Err.refusal c.in-Some.kind Nobodys c.in-Err.ensures.follows (search rules) (search rules)
