-- So far there is a leg of the stripe for each of the first places.
use Rattle.std.proofs.Common.{◌≡◌, All, length}
use Rattle.nm_leg_files.specs.Files.{IsOfStripe, leg_place}
use Rattle.nm_leg_files.proofs.leg_maker.LegMakerMakesLegsLeg.make.Given as goal

abbrev pub invariant-loop-number : goal.invariant-loop-number
invariant-loop-number l =
    (length l.legs.items ≡ l.number)
    × All (λ leg. IsOfStripe l.fn.stripe l.fn.self.shape (leg_place leg.medium leg.stripe leg.shape)) l.legs.items
