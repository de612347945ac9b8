-- Requests that are read one after the other are read.
use Rattle.std.proofs.Common.{◌∙◌}
use Rattle.nm_workers.specs.Results.{IsNoted, moment}
use Rattle.nm_workers.proofs.Arrivals.{reads_none, reads_with_on, session_stays}
use Rattle.nm_workers.proofs.RequestLemmas.{size_stays}
use Rattle.nm_workers.proofs.ResultRuns.{runs_of}
use Rattle.nm_workers.proofs.dispatcher.hand_out.Goals as goal

pub requests-init : goal.requests-init
requests-init g c = reads_none _ _

pub issue-requires-clause-size : goal.issue-requires-clause-size
issue-requires-clause-size g c κs within =
    size_stays c.args.core.now c.requests.core c.requests.invariant.events g.E.Extent.bytes
    (runs_of (IsNoted g.T.Target g.T.Log.SessionLog g.E.Extent.session) (moment c.args.core.now c.args.log.now)
    (moment c.requests.core c.requests.log) c.requests.invariant.events c.requests.invariant.runs) c.requires.size

pub issue-requires-clause-session : goal.issue-requires-clause-session
issue-requires-clause-session g c κs within =
    session_stays g.T.Target g.T.Log.SessionLog g.E.Extent.session c.requests.invariant.events
    (moment c.args.core.now c.args.log.now) (moment c.requests.core c.requests.log) c.requests.invariant.runs
    ∙ c.requires.session

pub requests-preserved : goal.requests-preserved
requests-preserved g c = reads_with_on _ _ _ _ c.requests.invariant c.in-Ok-None.ensures.ok

pub returns-in-Ok-Some-clause-ok : goal.returns-in-Ok-Some-clause-ok
returns-in-Ok-Some-clause-ok g c = reads_with_on _ _ _ _ c.requests.invariant c.in-Ok-Some.ensures.ok

pub returns-in-Err-clause-err : goal.returns-in-Err-clause-err
returns-in-Err-clause-err g c =
    (c.in-Err.ensures.err.0, reads_with_on _ _ _ _ c.requests.invariant c.in-Err.ensures.err.1)
