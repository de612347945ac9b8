-- One marked span has every region of a stripe.
use Rattle.nm_losses.proofs.Gated.{everywhere-covers}
use Rattle.nm_losses.proofs.laws.everywhere_covers_losses.Goals as goal

pub returns : goal.returns
returns g c = everywhere-covers g.L.LegPart.model
