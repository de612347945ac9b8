-- The result is of the job that was held back.
use Rattle.nm_workers.specs.Results.{IsNoted, moment}
use Rattle.nm_workers.proofs.Results.{settles_job}
use Rattle.nm_workers.proofs.requests.answer_deferred.Goals as goal

pub returns-clause-ok : goal.returns-clause-ok
returns-clause-ok g c =
    settles_job (IsNoted g.T.Target g.T.Log.SessionLog g.E.Extent.session) c.settle.result
    (moment c.args.core.now c.args.log.now) (moment c.settle.new.core c.settle.new.log) c.args.pool.now.deferred
    c.take_deferred-job.result.0 c.do_job-done.result.0 c.take_deferred-job.ensures.job c.do_job-done.ensures.index
    c.do_job-done.ensures.task c.settle.ensures.ok
