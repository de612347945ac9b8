-- The regions are those of the first block and the last.
use Rattle.std.proofs.Common.{◌≡◌, ◌+◌, ◌-◌, ◌/◌, ap, ◌∙◌, rules, arith}
use Rattle.nm_geometry.specs.declared.piece.Piece.{Piece}
use Rattle.nm_geometry.specs.Pieces.{touched}
use Rattle.nm_lanes.proofs.TouchLemmas.{TouchesSo, touches-around, around-touches}
use Rattle.nm_lanes.proofs.flushing.stripes_touched.Goals as goal
use Rattle.nm_lanes.proofs.flushing.stripes_touched.Goals.{After-min-count}

-- the range touches as many stripes from its first region's on
met : (c : After-min-count) → TouchesSo c.args.shape.now c.args.range c.region_of-first.result c.region_of-last.result c.min-count.result
met c =
    let shape = c.args.shape.now in
    let range = c.args.range in
    let q = range.offset / 512 in
    let zero_is : q + 0 ≡ q = omega arith in
    let count : c.pieces.result ≡ touched range = c.pieces.ensures.pieces in
    record {
      region = omega (arith, c.within_bounds.ensures.some_region);
      stripes = omega (arith, c.within_bounds.ensures.some_stripes);
      some = c.requires.some;
      first_is = c.region_of-first.ensures.region ∙ ap (λ (p : Piece). p.block / shape.region) c.piece.ensures.piece ∙ ap (λ n. n / shape.region) zero_is;
      last_is = c.region_of-last.ensures.region ∙ ap (λ (p : Piece). p.block / shape.region) c.piece-2.ensures.piece ∙ ap (λ n. (q + (n - 1)) / shape.region) count;
      count_is = search rules;
    }

pub returns-clause-touched : goal.returns-clause-touched
returns-clause-touched c =
    λ stripe a. touches-around c.args.shape.now c.args.range c.region_of-first.result c.region_of-last.result c.min-count.result stripe (met (goal.at.returns-clause-touched c).After-min-count) a

pub returns-clause-only : goal.returns-clause-only
returns-clause-only c =
    λ stripe a. around-touches c.args.shape.now c.args.range c.region_of-first.result c.region_of-last.result c.min-count.result stripe (met (goal.at.returns-clause-only c).After-min-count) a
