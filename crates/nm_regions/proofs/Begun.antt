-- A table stays sound as a write begins.
use Rattle.std.proofs.Common.{◌≡◌, ℕ, ◌<◌, true, false, List, length, get_or, map, Option, None, Some, refl, ap, ◌∙◌, inl, inr}
use Rattle.std.proofs.lemmas.Bool.{cases_Bool}
use Rattle.std.proofs.lemmas.List.{length-set, length-map, get_or-map}
use Rattle.std.proofs.lemmas.List.Elements.{All-map, All-weaker}
use Rattle.nm_regions.specs.declared.copy_place.CopyPlace.{CopyPlace}
use Rattle.nm_regions.specs.LegFlags.{LegRegions, no_leg, is_behind, marked_if_out}
use Rattle.nm_regions.specs.Table.{RegionTable, is_out, leg_at}
use Rattle.nm_regions.specs.Sound.{AllHave, IsOpenCopy, IsRegionTable}

marked-length : (region regions : ℕ) (leg : LegRegions) → length leg.behind ≡ regions
    → length (marked_if_out region leg).behind ≡ regions
marked-length region regions leg h =
    elim (cases_Bool leg.out) [
      | inl out ↦ rw out (length-set leg.behind region true ∙ h)
      | inr not_out ↦ rw not_out h
    ]

-- each leg keeps its regions
all-marked-have : (region regions : ℕ) (legs : List LegRegions) → AllHave regions legs
    → AllHave regions (map (marked_if_out region) legs)
all-marked-have region regions legs h =
    All-map (λ leg. length leg.behind ≡ regions) (marked_if_out region) legs
    (All-weaker (λ leg. length leg.behind ≡ regions)
    (λ leg. length (marked_if_out region leg).behind ≡ regions) (marked-length region regions)
    legs h)

-- a leg that is not out is as it was
marked-attached : (region : ℕ) (leg : LegRegions) → leg.out ≡ false
    → marked_if_out region leg ≡ leg
marked-attached region leg h = rw h refl

-- so it is in the list
pub leg-kept : (region leg : ℕ) (t : RegionTable) → leg < length t.legs → is_out leg t ≡ false
    → get_or (map (marked_if_out region) t.legs) leg no_leg ≡ leg_at leg t
leg-kept region leg t within attached =
    get_or-map (marked_if_out region) t.legs leg no_leg no_leg within
    ∙ marked-attached region (leg_at leg t) attached

-- the leg of an open copy is as it was
copy-kept : (region : ℕ) (writes : List ℕ) (copy : Option CopyPlace) (t : RegionTable)
    → IsOpenCopy copy t → IsOpenCopy copy
    (record t { legs = map (marked_if_out region) t.legs; writes = writes })
copy-kept region writes None t h = tt
copy-kept region writes (Some copy) t h =
    let same = leg-kept region copy.leg t h.leg h.attached in
    record {
      leg = rw (length-map t.legs (marked_if_out region)) h.leg;
      attached = ap (λ (leg : LegRegions). leg.out) same ∙ h.attached;
      behind = ap (λ (leg : LegRegions). is_behind copy.region leg) same ∙ h.behind;
      within = h.within;
    }

pub sound-begun : (region : ℕ) (legs : List LegRegions) (writes : List ℕ) (t : RegionTable)
    → IsRegionTable t → legs ≡ map (marked_if_out region) t.legs → length writes ≡ length t.writes
    → IsRegionTable (record t { legs = legs; writes = writes })
sound-begun region legs writes t h marks same = rw marks (record {
  sizes = rw (length-map t.legs (marked_if_out region)) h.sizes;
  covered = rw same h.covered;
  no_more = rw same h.no_more;
  flags = rw same (all-marked-have region (length t.writes) t.legs h.flags);
  copy = copy-kept region writes t.copy t h.copy;
})
