-- Both legs hold the stripe's blocks of the same bytes.
use Rattle.std.proofs.Common.{ap, sym, ◌∙◌, length}
use Rattle.nm_leg.specs.Leg.{Leg}
use Rattle.nm_file_leg.specs.Blocks.{length-blocks_from}
use Rattle.nm_geometry.specs.Geometry.{stripe_blocks}
use Rattle.nm_shares.proofs.file_stripes.open_on_shares.Goals as goal

pub open_on-requires-clause-blocks : goal.open_on-requires-clause-blocks
open_on-requires-clause-blocks c =
    ap (λ (leg : Leg). length leg.contents) c.in_ok-first.ensures
    ∙ (length-blocks_from c.args.stripe c.args.shape.now 0 (stripe_blocks c.args.stripe c.args.shape.now) c.args.bytes.now
    ∙ sym c.place_of-place.ensures.blocks)

pub open_on-requires-clause-alike : goal.open_on-requires-clause-alike
open_on-requires-clause-alike c = c.in_ok-second.ensures ∙ sym c.in_ok-first.ensures
