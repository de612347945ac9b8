-- The open copy's region lies within what is behind for its leg.
use Rattle.std.proofs.Common.{ℕ, ◌≤◌, ◌==◌, Option, None, Some, inl, inr, arith}
use Rattle.std.proofs.lemmas.Bool.{cases_Bool, eqb-true}
use Rattle.nm_regions.specs.declared.copy_place.CopyPlace.{CopyPlace}
use Rattle.nm_regions.specs.Table.{RegionTable, leg_at, blocks_behind, copied}
use Rattle.nm_regions.specs.Sound.{IsCopyOf, IsOpenCopy}
use Rattle.nm_regions.proofs.Sizes.{length-behind}

-- a copy has copied no more than what is behind for its leg
copied-own : (copy : CopyPlace) (t : RegionTable) → IsCopyOf copy t
    → copy.cursor ≤ blocks_behind t.region t.blocks (leg_at copy.leg t).behind
copied-own copy t h = omega (
  arith,
  h.within,
  length-behind t.region t.blocks (leg_at copy.leg t).behind copy.region h.behind,
)

-- so of any leg
pub copied-le : (leg : ℕ) (copy : Option CopyPlace) (t : RegionTable) → IsOpenCopy copy t
    → copied leg copy ≤ blocks_behind t.region t.blocks (leg_at leg t).behind
copied-le leg None t h = omega arith
copied-le leg (Some copy) t h =
    elim (cases_Bool (copy.leg == leg)) [
      | inl same ↦ rw same (rw (eqb-true copy.leg leg same) at (copied-own copy t h))
      | inr other ↦ rw other (omega arith)
    ]
