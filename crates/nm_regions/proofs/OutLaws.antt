-- What is left of the legs as one goes out or comes back, and where a lost leg is behind.
use Rattle.std.proofs.Common.{◌≡◌, ℕ, zero, suc, ◌-◌, ◌*◌, ◌<◌, ◌≤◌, Bool, true, false, not, ◌||◌, ◌==◌, List, [], ◌∷◌, length, replicate, get_or, set, Option, None, Some, refl, sym, ap, ◌∙◌, inl, inr, suc-mul, arith}
use Rattle.std.proofs.Math.Nat.{sub-zero}
use Rattle.std.proofs.lemmas.Bool.{cases_Bool, eqb-true, eq-eqb, false≢true}
use Rattle.std.proofs.lemmas.List.{get_or-set_same, length-set}
use Rattle.nm_regions.specs.declared.copy_place.CopyPlace.{CopyPlace}
use Rattle.nm_regions.specs.LegFlags as leg_flags
use Rattle.nm_regions.specs.LegFlags.{LegRegions, no_leg, is_behind, dirty_marked}
use Rattle.nm_regions.specs.Table.{RegionTable, leg_at, is_out, blocks_behind, copied}
use Rattle.nm_regions.specs.Changes.{copy_but_of, all_marked, attached, replaced}
use Rattle.nm_regions.specs.Sound.{IsOpenCopy}
use Rattle.nm_regions.specs.Laws.{GoOutMarksDirty, GoOutKeepsLeft, ReplaceKeepsLeft, AttachKeepsLeft, ReplaceLeavesAll}
use Rattle.nm_regions.proofs.Dirtied.{flag-is}
use Rattle.nm_regions.proofs.GoneOut.{other-kept}

dirty-at : (region : ℕ) (writes : List ℕ) (flags : List Bool) → length flags ≡ length writes
    → region < length writes → get_or (dirty_marked writes flags) region false
    ≡ (get_or flags region false || not (get_or writes region 0 == 0))
dirty-at region [] flags same lt = absurd (omega arith)
dirty-at region (count ∷ writes) [] same lt = absurd (omega arith)
dirty-at zero (count ∷ writes) (behind ∷ flags) same lt = flag-is (count == 0) behind
dirty-at (suc region) (count ∷ writes) (behind ∷ flags) same lt =
    dirty-at region writes flags (omega (arith, same)) (omega (arith, lt))

pub out-marks-dirty : GoOutMarksDirty
out-marks-dirty t leg region h within lt =
    let changed = get_or-set_same t.legs leg (leg_flags.gone_out t.writes (leg_at leg t)) no_leg
    within in
    ap (λ (l : LegRegions). is_behind region l) changed
    ∙ dirty-at region t.writes (leg_at leg t).behind (h.flags leg no_leg within) lt

-- the copy of another leg is not dropped
copied-other : (leg other : ℕ) (copy : Option CopyPlace) → (other == leg) ≡ false
    → copied other (copy_but_of leg copy) ≡ copied other copy
copied-other leg other None differ = refl
copied-other leg other (Some copy) differ =
    elim (cases_Bool (copy.leg == leg)) [
      | inl same ↦ elim (cases_Bool (copy.leg == other)) [
        | inl both ↦ absurd (false≢true (sym differ ∙ eq-eqb other leg
            (sym (eqb-true copy.leg other both) ∙ eqb-true copy.leg leg same)))
        | inr not_both ↦ rw (same, not_both) refl
      ]
      | inr not_it ↦ rw not_it refl
    ]

-- what is left of a leg, by its flags and what its copy has copied
abbrev left-by : RegionTable → LegRegions → ℕ → ℕ
left-by t l n = blocks_behind t.region t.blocks l.behind - n

pub out-keeps-left : GoOutKeepsLeft
out-keeps-left t leg other differ =
    ap (λ (l : LegRegions). left-by t l (copied other (copy_but_of leg t.copy)))
    (other-kept leg other (leg_flags.gone_out t.writes (leg_at leg t)) t differ)
    ∙ ap (left-by t (leg_at other t)) (copied-other leg other t.copy differ)

pub replace-keeps-left : ReplaceKeepsLeft
replace-keeps-left t leg other differ =
    ap (λ (l : LegRegions). left-by t l (copied other t.copy))
    (other-kept leg other (leg_flags.attached (leg_at leg (all_marked leg t))) (all_marked leg t)
    differ ∙ other-kept leg other (leg_flags.all_marked (leg_at leg t)) t differ)

-- a leg that is attached, and every other one, is behind where it was
attached-flags : (t : RegionTable) (leg other : ℕ) → leg < length t.legs
    → (leg_at other (attached leg t)).behind ≡ (leg_at other t).behind
attached-flags t leg other within =
    elim (cases_Bool (other == leg)) [
      | inl same ↦ rw (eqb-true other leg same) (ap (λ (l : LegRegions). l.behind)
          (get_or-set_same t.legs leg (leg_flags.attached (leg_at leg t)) no_leg within))
      | inr differ ↦ ap (λ (l : LegRegions). l.behind)
          (other-kept leg other (leg_flags.attached (leg_at leg t)) t differ)
    ]

pub attach-keeps-left : AttachKeepsLeft
attach-keeps-left t leg other within =
    ap (λ flags. blocks_behind t.region t.blocks flags - copied other t.copy)
    (attached-flags t leg other within)

blocks-all : (region blocks regions : ℕ) → blocks ≤ regions * region
    → blocks_behind region blocks (replicate regions true) ≡ blocks
blocks-all region blocks zero covered = omega arith
blocks-all region blocks (suc regions) covered =
    omega (
      arith,
      suc-mul regions region,
      blocks-all region (blocks - region) regions
          (omega (arith, suc-mul regions region)),
    )

-- no copy is open of a leg that is out
copied-none : (leg : ℕ) (copy : Option CopyPlace) (t : RegionTable) → IsOpenCopy copy t
    → is_out leg t ≡ true → copied leg copy ≡ 0
copied-none leg None t h out = refl
copied-none leg (Some copy) t h out =
    elim (cases_Bool (copy.leg == leg)) [
      | inl same ↦ absurd (false≢true (sym (rw (eqb-true copy.leg leg same) at h.attached) ∙ out))
      | inr differ ↦ rw differ refl
    ]

-- a leg that is replaced is behind in all regions
replaced-flags : (t : RegionTable) (leg : ℕ) → leg < length t.legs
    → (leg_at leg (replaced leg t)).behind ≡ replicate (length (leg_at leg t).behind) true
replaced-flags t leg within =
    let marked = leg_flags.all_marked (leg_at leg t) in
    let back = leg_flags.attached (leg_at leg (all_marked leg t)) in
    ap (λ (l : LegRegions). l.behind) (get_or-set_same (set t.legs leg marked) leg back no_leg
    (rw (length-set t.legs leg marked) within))
    ∙ ap (λ (l : LegRegions). l.behind) (get_or-set_same t.legs leg marked no_leg within)

pub replace-leaves-all : ReplaceLeavesAll
replace-leaves-all t leg h within out =
    let none = copied-none leg t.copy t h.copy out in
    ap (λ flags. blocks_behind t.region t.blocks flags - copied leg t.copy)
    (replaced-flags t leg within)
    ∙ ap (λ n. blocks_behind t.region t.blocks (replicate n true) - copied leg t.copy)
    (h.flags leg no_leg within)
    ∙ ap (λ n. n - copied leg t.copy) (blocks-all t.region t.blocks (length t.writes) h.covered)
    ∙ ap (λ n. t.blocks - n) none ∙ sub-zero t.blocks
