use Rattle.std.proofs.Common.{◌≡◌, ◌<◌, ℕ, false, length, slice_index_or}
use Rattle.nm_rules.specs.declared.leg_opening.LegOpening.TheVariants.{Missing}
use Rattle.nm_plans.specs.Plan.{OpensBy}
use Rattle.nm_plans.proofs.starts.stripe_start.Given as goal

-- the legs so far open as the image has them start
abbrev pub invariant-legs : goal.invariant-legs
invariant-legs l =
    (length l.legs ≡ 8)
    × ((leg : ℕ) → leg < l.leg → OpensBy leg l.stripe l.image (slice_index_or l.here leg false) (slice_index_or l.legs leg Missing))
