-- What is left of a leg after each step of a copy.
use Rattle.std.proofs.Common.{◌≡◌, ℕ, zero, suc, ◌+◌, ◌-◌, ◌*◌, Bool, true, false, cond, ◌==◌, min, List, [], ◌∷◌, get_or, set, Option, None, Some, refl, sym, ap, ◌∙◌, subst, suc-mul, arith}
use Rattle.std.proofs.Math.Nat.{sub-zero}
use Rattle.std.proofs.lemmas.Bool.{eq-eqb}
use Rattle.std.proofs.lemmas.List.{get_or-set_same}
use Rattle.nm_regions.specs.declared.copy_place.CopyPlace.{CopyPlace}
use Rattle.nm_regions.specs.LegFlags.{LegRegions, no_leg, cleared}
use Rattle.nm_regions.specs.Table.{RegionTable, leg_at, blocks_behind, copied, left, copy_rest, rest_of, length_of, region_of}
use Rattle.nm_regions.specs.Changes.{advanced, moved, region_finished, cleared_for}
use Rattle.nm_regions.specs.Sound.{IsRegionTable, IsCopyOf, IsOpenCopy}
use Rattle.nm_regions.specs.Laws.{AdvanceLowersLeft, OpenKeepsLeft, FinishKeepsLeft, BeginKeepsLeft}
use Rattle.nm_regions.proofs.Sizes.{length-behind}
use Rattle.nm_regions.proofs.Begun.{leg-kept}

-- a region that is cleared takes its blocks along
pub blocks-cleared : (region blocks : ℕ) (flags : List Bool) (k : ℕ) → get_or flags k false ≡ true
    → blocks_behind region blocks flags
    ≡ blocks_behind region blocks (set flags k false) + min region (blocks - k * region)
blocks-cleared region blocks [] k h = absurd cc
blocks-cleared region blocks (true ∷ flags) zero h = omega arith
blocks-cleared region blocks (false ∷ flags) zero h = absurd cc
blocks-cleared region blocks (true ∷ flags) (suc k) h =
    omega (arith, suc-mul k region, blocks-cleared region (blocks - region) flags k h)
blocks-cleared region blocks (false ∷ flags) (suc k) h =
    omega (arith, suc-mul k region, blocks-cleared region (blocks - region) flags k h)

-- a copy has copied up to its cursor for its own leg
copied-own : (copy : CopyPlace) → copied copy.leg (Some copy) ≡ copy.cursor
copied-own copy = ap (λ (b : Bool). cond b copy.cursor 0) (eq-eqb copy.leg copy.leg refl)

-- the open copy is one of this table
is-copy-of : (t : RegionTable) (copy : CopyPlace) → IsRegionTable t → t.copy ≡ Some copy
    → IsCopyOf copy t
is-copy-of t copy h opened = subst (λ (o : Option CopyPlace). IsOpenCopy o t) opened h.copy

rest-is : (t : RegionTable) (copy : CopyPlace) → t.copy ≡ Some copy
    → copy_rest t ≡ length_of copy.region t - copy.cursor
rest-is t copy opened = ap (λ (o : Option CopyPlace). rest_of o t) opened

left-is : (t : RegionTable) (copy : CopyPlace) → t.copy ≡ Some copy
    → left copy.leg t ≡ blocks_behind t.region t.blocks (leg_at copy.leg t).behind - copy.cursor
left-is t copy opened =
    let all = blocks_behind t.region t.blocks (leg_at copy.leg t).behind in
    ap (λ (o : Option CopyPlace). all - copied copy.leg o) opened ∙ ap (λ n. all - n) (copied-own copy)

pub advance-lowers : AdvanceLowersLeft
advance-lowers t copy blocks h opened within =
    let is = is-copy-of t copy h opened in
    let all = blocks_behind t.region t.blocks (leg_at copy.leg t).behind in
    let len = length-behind t.region t.blocks (leg_at copy.leg t).behind copy.region
    is.behind in
    let new : left copy.leg (advanced blocks t) ≡ all - (copy.cursor + blocks) =
    left-is (advanced blocks t) (record copy { cursor = copy.cursor + blocks })
    (ap (λ (o : Option CopyPlace). moved blocks o) opened) in
    omega (arith, new, left-is t copy opened, is.within, len, rest-is t copy opened)

nothing-copied : (b : Bool) → ◌≡◌ {A = ℕ} (cond b 0 0) 0
nothing-copied true = refl
nothing-copied false = refl

pub opening-keeps : OpenKeepsLeft
opening-keeps t leg copied_leg region none =
    let all = blocks_behind t.region t.blocks (leg_at leg t).behind in
    ap (λ n. all - n) (nothing-copied (copied_leg == leg))
    ∙ sym (ap (λ (o : Option CopyPlace). all - copied leg o) none)

pub finish-keeps : FinishKeepsLeft
finish-keeps t copy h opened done =
    let is = is-copy-of t copy h opened in
    let cleared-leg : get_or (set t.legs copy.leg (cleared copy.region (leg_at copy.leg t)))
    copy.leg no_leg ≡ cleared copy.region (leg_at copy.leg t) =
    get_or-set_same t.legs copy.leg (cleared copy.region (leg_at copy.leg t)) no_leg is.leg in
    let parts = blocks-cleared t.region t.blocks (leg_at copy.leg t).behind copy.region
    is.behind in
    let new : left copy.leg (region_finished t) ≡ blocks_behind t.region t.blocks
    (set (leg_at copy.leg t).behind copy.region false) =
    ap (λ (o : Option CopyPlace). left copy.leg (record (cleared_for o t) { copy = None })) opened
    ∙ ap (λ (l : LegRegions). blocks_behind t.region t.blocks l.behind - 0) cleared-leg
    ∙ sub-zero _ in
    omega (arith, new, left-is t copy opened, parts, is.within, rest-is t copy opened)

pub begin-keeps : BeginKeepsLeft
begin-keeps t leg block count within attached =
    ap (λ (l : LegRegions). blocks_behind t.region t.blocks l.behind - copied leg t.copy)
    (leg-kept (region_of block t) leg t within attached)
