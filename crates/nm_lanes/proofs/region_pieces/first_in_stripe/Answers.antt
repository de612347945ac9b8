-- The blocks follow one another in the stripe as well.
use Rattle.std.proofs.Common.{◌+◌, ◌≤◌, ℕ, ap, ◌∙◌, subst, sym}
use Rattle.nm_geometry.specs.Geometry.{block_in_stripe}
use Rattle.nm_lanes.specs.PieceRanges.{block_of}
use Rattle.nm_lanes.proofs.RegionLemmas.{region-follows, in_stripe-le}
use Rattle.nm_lanes.proofs.region_pieces.first_in_stripe.Goals as goal

pub returns-clause-follow : goal.returns-clause-follow
returns-clause-follow c = λ at below.
    let first = ap (λ b. block_in_stripe b c.args.shape.now) c.block.ensures in
    ap (λ (n : ℕ). n + at) (c.block_in_stripe.ensures.block ∙ first)
    ∙ region-follows c.args.shape.now c.args.region at c.within_bounds.ensures c.requires.region below

pub returns-clause-most : goal.returns-clause-most
returns-clause-most c =
    let first = ap (λ b. block_in_stripe b c.args.shape.now) c.block.ensures in
    subst (λ (n : ℕ). n ≤ block_of c.args.region.pieces) (sym (c.block_in_stripe.ensures.block ∙ first))
    (in_stripe-le c.args.shape.now (block_of c.args.region.pieces))
