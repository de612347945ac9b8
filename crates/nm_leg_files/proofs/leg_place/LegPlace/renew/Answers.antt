-- The legs are those on the file that was opened.
use Rattle.nm_leg_files.proofs.PlaceLemmas.{of-stripes}
use Rattle.nm_leg_files.proofs.leg_place.LegPlace.renew.Goals as goal

-- src/leg_renewal.rt:57:5
pub returns : goal.returns
returns g c =
    let all = of-stripes c.args.shape.now.stripes c.args.shape.now c.renew.new.self in
    rw c.in_ok-legs.ensures.legs (record { count = all.0; each = all.1 })
