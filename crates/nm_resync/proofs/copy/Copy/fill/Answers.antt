-- The chunk's next blocks are those that stand in the first places.
use Rattle.std.proofs.Common.{◌+◌, ◌*◌, drop, ap, ◌∙◌}
use Rattle.nm_leg.specs.Leg.{cut_into}
use Rattle.nm_resync.specs.Chunk.{CopyBuffer}
use Rattle.nm_resync.specs.Moves.{after_read}
use Rattle.nm_resync.proofs.BytesLemmas.{filled-view}
use Rattle.nm_resync.proofs.copy.Copy.fill.Goals as goal

pub returns-in-Some-clause-filled : goal.returns-in-Some-clause-filled
returns-in-Some-clause-filled c =
    let chunk = c.in-Some.chunk in
    let bytes = c.self.inside.bytes.items in
    filled-view c.self.inside.most c.args.count bytes c.self.inside.chunk chunk c.in-Some.is
    ∙ ap (λ (b : CopyBuffer). let new : CopyBuffer = record { most = b.most; chunk = after_read (cut_into c.args.count b.rest) b.chunk; rest = drop (512 * (chunk.read + c.args.count)) bytes } in new) c.self.view_is
