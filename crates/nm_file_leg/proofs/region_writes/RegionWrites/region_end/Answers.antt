-- A region lies inside the stripe.
use Rattle.std.proofs.Common.{◌<◌, sym, subst, arith}
use Rattle.nm_file_leg.specs.Remembered.{Remembered, count_regions}
use Rattle.nm_file_leg.proofs.RememberedLemmas.{ends-inside, region-few}
use Rattle.nm_file_leg.proofs.region_writes.RegionWrites.region_end.Goals as goal

pub overflow_add-region : goal.overflow_add-region
overflow_add-region c =
    let low = subst (λ (m : Remembered). c.args.region < count_regions m) (sym c.self.view_is) c.requires in
    let few = region-few _ _ c.args.region c.self.invariant.some low in
    omega (arith, few, c.self.invariant.few)

pub overflow_mul-region : goal.overflow_mul-region
overflow_mul-region c =
    let low = subst (λ (m : Remembered). c.args.region < count_regions m) (sym c.self.view_is) c.requires in
    let ends = ends-inside _ _ c.args.region c.self.invariant.some low in
    omega (arith, ends, c.self.invariant.few, c.self.invariant.most)
