-- So far there are the legs of the first stripes.
use Rattle.std.proofs.Common.{◌≡◌, map}
use Rattle.nm_leg_files.specs.Files.{file_places, leg_place}
use Rattle.nm_leg_files.proofs.file_legs.legs_on.Given as goal

abbrev pub invariant-loop-stripe : goal.invariant-loop-stripe
invariant-loop-stripe l =
    map (λ leg. leg_place leg.medium leg.stripe leg.shape) l.legs.items
    ≡ file_places l.stripe l.fn.shape l.fn.file
