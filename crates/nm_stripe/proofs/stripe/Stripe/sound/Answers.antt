-- What the stripe keeps makes it sound.
use Rattle.nm_leg.specs.Leg.{leg_type}
use Rattle.nm_rules.proofs.SoundLemmas.{keeps-sound}
use Rattle.nm_stripe.proofs.stripe.Stripe.sound.Goals as goal

pub returns : goal.returns
returns g c = rw (← c.self.view_is) (keeps-sound (leg_type g.L.LegPart.model g.L.LegPart.honest) c.self.inside.store c.self.invariant)
