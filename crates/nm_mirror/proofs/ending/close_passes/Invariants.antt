-- Those of the last passes, so many, are taken in.
use Rattle.std.proofs.Common.{◌≡◌, ◌++◌, List, vec_len}
use Rattle.nm_mirror.specs.Ending.{pasts_of}
use Rattle.nm_mirror.specs.declared.pass.Pass.{Pass}
use Rattle.nm_mirror.proofs.ending.close_passes.Given as goal

abbrev pub invariant-loop-pass : goal.invariant-loop-pass
invariant-loop-pass g l =
    (done : List (Pass g.row.L.Denot g.row.J.Denot)) × (l.fn.passes.items ≡ l.rest.items ++ done)
    × (l.closer.passes ≡ pasts_of done ++ l.fn.closer.passes) × (l.closer.shards ≡ l.fn.closer.shards)

abbrev pub decreases-loop-pass : goal.decreases-loop-pass
decreases-loop-pass g l = vec_len l.rest
