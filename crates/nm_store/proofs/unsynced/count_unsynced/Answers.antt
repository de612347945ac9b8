-- No sum is past the number of blocks.
use Rattle.std.proofs.Common.{◌≡◌, ◌∙◌, ◌+◌, ◌≤◌, sym, arith, true}
use Rattle.nm_regions.specs.Table.{length_of}
use Rattle.nm_rules.specs.Unsynced.{is_unsynced, unsynced_below}
use Rattle.nm_store.proofs.UnsyncedLemmas.{counted-most}
use Rattle.nm_store.proofs.unsynced.count_unsynced.Goals as goal

pub overflow_add-blocks : goal.overflow_add-blocks
overflow_add-blocks g c =
    let marks = (g.L.LegPart.model c.args.part.now).unsynced in
    let t = c.args.regions.now in
    let is : is_unsynced marks t c.loop-region.region ≡ true = sym c.is_unsynced.ensures ∙ c.if-is_unsynced.true in
    let most : unsynced_below marks t c.loop-region.region + length_of c.loop-region.region t ≤ t.blocks = counted-most marks t c.loop-region.region is in
    omega (arith, most, c.loop-region.invariant, c.length_of-blocks.ensures.length, c.is_sound.ensures.table.sizes.most_blocks)
