-- A number is replied to once.
use Rattle.nm_leg.specs.Leg.{leg_type}
use Rattle.nm_stripe.proofs.ApartLemmas.{runs-lie-apart}
use Rattle.nm_stripe.proofs.laws.runs_lie_apart.Goals as goal

pub returns : goal.returns
returns g c steps answers old new none runs act i j one other less first second =
    runs-lie-apart (leg_type g.L.LegPart.model g.L.LegPart.honest) steps answers old new none runs act i j one other less first second
