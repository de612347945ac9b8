-- So far there is a leg on each of the first files.
use Rattle.std.proofs.Common.{◌≡◌, map, take}
use Rattle.nm_leg_files.specs.Files.{leg_place, place_on}
use Rattle.nm_leg_files.proofs.leg_files.stripe_legs.Given as goal

abbrev pub invariant-loop-number : goal.invariant-loop-number
invariant-loop-number l =
    map (λ leg. leg_place leg.medium leg.stripe leg.shape) l.legs.items
    ≡ map (place_on l.fn.stripe l.fn.shape) (take l.number l.fn.files.files.items)
