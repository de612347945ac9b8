-- A table is sound as it opens.
use Rattle.std.proofs.Common.{◌≡◌, ℕ, ◌+◌, ◌-◌, ◌*◌, ◌%◌, ◌<◌, ◌≤◌, Bool, not, List, length, replicate, get_or, div-add-mod', arith}
use Rattle.std.proofs.lemmas.Nat.{mod_below}
use Rattle.std.proofs.lemmas.List.{length-map, length-replicate}
use Rattle.std.proofs.lemmas.List.Elements.{All-map}
use Rattle.nm_regions.specs.LegFlags.{opened_leg}
use Rattle.nm_regions.specs.Table.{regions_of}
use Rattle.nm_regions.specs.Changes.{opened}
use Rattle.nm_regions.specs.Sound.{AreSizes, IsRegionTable}

-- the regions cover the blocks, and one region fewer would not
regions-cover : (blocks region : ℕ) → 0 < blocks → 0 < region
    → (blocks ≤ regions_of blocks region * region)
    × (regions_of blocks region * region < blocks + region)
regions-cover blocks region some some_region =
    let parts : regions_of blocks region * region + (blocks + region - 1) % region
    ≡ blocks + region - 1 = div-add-mod' (blocks + region - 1) region in
    let rest = mod_below (blocks + region - 1) region some_region in
    (omega arith, omega arith)

pub sound-opened : (blocks region : ℕ) (in_sync : List Bool)
    → AreSizes blocks region (length in_sync) → IsRegionTable (opened blocks region in_sync)
sound-opened blocks region in_sync h =
    let regions = regions_of blocks region in
    let cover = regions-cover blocks region h.some_blocks h.some_region in
    let all : length {A = ℕ} (replicate regions 0) ≡ regions = length-replicate regions 0 in
    record {
      sizes = rw (length-map in_sync (opened_leg regions)) h;
      covered = rw all cover.0;
      no_more = rw all cover.1;
      flags = rw all (All-map (λ leg. length leg.behind ≡ regions) (opened_leg regions) in_sync
          (λ k d lt. length-replicate regions (not (get_or in_sync k d))));
      copy = tt;
    }
