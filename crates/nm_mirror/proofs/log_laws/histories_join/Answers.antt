-- Stripe by stripe the histories act, and so the mirror's steps do.
use Rattle.nm_leg.specs.Leg.{leg_type}
use Rattle.nm_mirror.proofs.JointLemmas.{histories-join}
use Rattle.nm_mirror.proofs.log_laws.histories_join.Goals as goal

pub returns : goal.returns
returns g c is_honest = histories-join (leg_type g.L.LegPart.model g.L.LegPart.honest) is_honest
