-- A read that is not astray is the stripe's, answered as its step would be.
use Rattle.std.proofs.Common.{rules}
use Rattle.nm_leg.specs.Leg.{leg_type}
use Rattle.nm_part.specs.Asking.{GoesOn}
use Rattle.nm_part.proofs.AskLemmas.{read-step}
use Rattle.nm_part.proofs.part.Part.read.Goals as goal

pub returns-else-not-has_run-2-clause-step : goal.returns-else-not-has_run-2-clause-step
returns-else-not-has_run-2-clause-step g c =
    GoesOn (search rules) (read-step (leg_type g.L.LegPart.model g.L.LegPart.honest) c.args.stripe.now c.read-read.new.self c.args.block c.args.into.now c.read-read.new.into c.read-read.result c.read-read.ensures.long c.read-read.ensures.ok c.read-read.ensures.refused)
