-- Where there is no memory for the channels nothing happened.
use Rattle.nm_workers.specs.Results.{IsNoted}
use Rattle.nm_workers.proofs.Owning.{failed}
use Rattle.nm_workers.proofs.session.start_session.Goals as goal

pub returns-in-Err : goal.returns-in-Err
returns-in-Err g c = record {
  ends = failed (IsNoted g.T.Target g.T.Log.SessionLog g.E.Extent.session) g.O.Write.contents _ _ _ _ _ _ _
      c.broken_off.ensures.result c.broken_off.ensures.sender c.broken_off.ensures.log;
}
