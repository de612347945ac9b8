-- So far there are the legs of the first stripes.
use Rattle.std.proofs.Common.{◌≡◌, map}
use Rattle.nm_leg_files.specs.Files.{leg_place, places_of}
use Rattle.nm_leg_files.proofs.leg_files.mirror_legs.Given as goal

abbrev pub invariant-loop-stripe : goal.invariant-loop-stripe
invariant-loop-stripe l =
    map (λ own. map (λ leg. leg_place leg.medium leg.stripe leg.shape) own.items) l.all.items
    ≡ places_of l.stripe l.fn.shape l.fn.files
