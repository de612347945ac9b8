-- A table stays sound as a leg goes out.
use Rattle.std.proofs.Common.{◌≡◌, ℕ, suc, ◌<◌, Bool, false, ◌==◌, List, [], ◌∷◌, length, get_or, set, Option, None, Some, refl, sym, ap, ◌∙◌, inl, inr}
use Rattle.std.proofs.lemmas.Bool.{cases_Bool, eq-eqb, false≢true}
use Rattle.std.proofs.lemmas.List.{length-set, get_or-set_other}
use Rattle.std.proofs.lemmas.List.Elements.{All-set}
use Rattle.nm_regions.specs.declared.copy_place.CopyPlace.{CopyPlace}
use Rattle.nm_regions.specs.LegFlags as leg_flags
use Rattle.nm_regions.specs.LegFlags.{LegRegions, no_leg, is_behind, dirty_marked}
use Rattle.nm_regions.specs.Table.{RegionTable, leg_at}
use Rattle.nm_regions.specs.Changes.{copy_but_of, gone_out}
use Rattle.nm_regions.specs.Sound.{IsOpenCopy, IsRegionTable}

pub length-dirty : (writes : List ℕ) (flags : List Bool)
    → length (dirty_marked writes flags) ≡ length flags
length-dirty writes [] = refl
length-dirty [] (behind ∷ flags) = refl
length-dirty (count ∷ writes) (behind ∷ flags) = ap suc (length-dirty writes flags)

-- another leg is as it was
pub other-kept : (leg other : ℕ) (changed : LegRegions) (t : RegionTable) → (other == leg) ≡ false
    → get_or (set t.legs leg changed) other no_leg ≡ leg_at other t
other-kept leg other changed t differ =
    get_or-set_other t.legs leg other changed no_leg
    (λ is. false≢true (sym differ ∙ eq-eqb other leg is))

-- the copy of another leg stays one of the table
copy-kept : (leg : ℕ) (changed : LegRegions) (copy : Option CopyPlace) (t : RegionTable)
    → IsOpenCopy copy t
    → IsOpenCopy (copy_but_of leg copy)
    (record t { legs = set t.legs leg changed; copy = copy_but_of leg copy })
copy-kept leg changed None t h = tt
copy-kept leg changed (Some copy) t h =
    elim (cases_Bool (copy.leg == leg)) [
      | inl same ↦ rw same tt
      | inr differ ↦
          let same = other-kept leg copy.leg changed t differ in
          rw differ (record {
            leg = rw (length-set t.legs leg changed) h.leg;
            attached = ap (λ (l : LegRegions). l.out) same ∙ h.attached;
            behind = ap (λ (l : LegRegions). is_behind copy.region l) same ∙ h.behind;
            within = h.within;
          })
    ]

pub sound-gone : (leg : ℕ) (t : RegionTable) → IsRegionTable t → leg < length t.legs
    → IsRegionTable (gone_out leg t)
sound-gone leg t h within =
    let changed = leg_flags.gone_out t.writes (leg_at leg t) in
    let same = length-set t.legs leg changed in
    record {
      sizes = rw same h.sizes;
      covered = h.covered;
      no_more = h.no_more;
      flags = All-set (λ l. length l.behind ≡ length t.writes) t.legs leg changed
          (length-dirty t.writes (leg_at leg t).behind ∙ h.flags leg no_leg within) h.flags;
      copy = copy-kept leg changed t.copy t h.copy;
    }
