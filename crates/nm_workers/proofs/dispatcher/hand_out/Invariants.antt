-- So far requests were read.
use Rattle.nm_workers.specs.Results.{IsNoted, moment, ReadsWith}
use Rattle.nm_workers.proofs.dispatcher.hand_out.Given as goal

abbrev pub invariant-requests : goal.invariant-requests
invariant-requests g l =
    ReadsWith (IsNoted g.T.Target g.T.Log.SessionLog g.E.Extent.session) (moment l.fn.core l.fn.log) (moment l.core l.log)
