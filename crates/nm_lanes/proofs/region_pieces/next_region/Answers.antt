-- The blocks lie in the region of the first one.
use Rattle.std.proofs.Common.{◌≡◌, ◌+◌, ◌-◌, ◌*◌, ◌/◌, min, rules}
use Rattle.nm_lanes.specs.PieceRanges.{first_of}
use Rattle.nm_lanes.proofs.RegionLemmas.{next-ends, next-region}
use Rattle.nm_lanes.proofs.region_pieces.next_region.Goals as goal

pub returns-clause-region : goal.returns-clause-region
returns-clause-region c =
    let shape = c.args.shape.now in
    let pieces = c.args.pieces in
    let block = c.block-block.result in
    let region : c.shape.inside.region ≡ shape.region = search rules in
    let stripes : c.shape.inside.stripes ≡ shape.stripes = search rules in
    let first : c.first_of.result ≡ first_of (min ((block / shape.region + 1) * shape.region) (block + pieces.count) - block) pieces = search (rules, region) in
    rw (region, stripes) (next-region shape pieces c.first_of.result block c.within_bounds.ensures c.requires.some c.block-block.ensures first)

pub returns-clause-ends : goal.returns-clause-ends
returns-clause-ends c =
    let shape = c.args.shape.now in
    let pieces = c.args.pieces in
    let block = c.block-block.result in
    let region : c.shape.inside.region ≡ shape.region = search rules in
    let count : c.first_of.result.count ≡ min ((block / shape.region + 1) * shape.region) (block + pieces.count) - block = search (rules, region) in
    next-ends shape pieces block c.first_of.result.count c.within_bounds.ensures c.requires.some c.block-block.ensures count
