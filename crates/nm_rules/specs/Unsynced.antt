-- What a leg has not synced: a loss of its power may take it.
use Rattle.std.specs.Prelude.{ℕ, zero, suc, ◌+◌, ◌*◌, Bool, if◌then◌else◌, List, [], slice_get}
use Rattle.std.specs.Prelude.{Option, None, Some}
use Rattle.nm_leg.specs.Leg.{Leg, is_marked_in}
use Rattle.nm_regions.specs.Table.{RegionTable, length_of, regions_of}
use Rattle.nm_rules.specs.State.{StripeState, table}

-- the marks of what a leg has not synced; none where there is no leg
abbrev pub unsynced_at : {L : Type 0} → (L → Leg) → Option L → List Bool
unsynced_at model None = []
unsynced_at model (Some leg) = (model leg).unsynced

-- by these marks something of this region is not synced
abbrev pub is_unsynced : (marks : List Bool) → RegionTable → (region : ℕ) → Bool
is_unsynced marks t region = is_marked_in (region * t.region) (length_of region t) marks

-- how many blocks have those of the first so many regions of which something is not synced
abbrev pub unsynced_below : (marks : List Bool) → RegionTable → ℕ → ℕ
unsynced_below marks t zero = 0
unsynced_below marks t (suc region) =
    unsynced_below marks t region
    + (if is_unsynced marks t region then length_of region t else 0)

-- how many blocks have the regions of which the leg has something not synced
abbrev pub unsynced : {L : Type 0} → (L → Leg) → ℕ → StripeState L → ℕ
unsynced model leg stripe =
    unsynced_below (unsynced_at model (slice_get stripe.legs leg)) (table stripe)
    (regions_of stripe.place.blocks stripe.place.region)
