-- So far the target was called for jobs.
use Rattle.nm_mailbox.specs.Ends.{outcomes_by}
use Rattle.nm_workers.specs.Working.{WorksFor}
use Rattle.nm_workers.proofs.worker.work.Given as goal

abbrev pub invariant-jobs : goal.invariant-jobs
invariant-jobs g l = WorksFor g.T.Target l.fn.worker.target l.worker.target l.heard
    (outcomes_by l.fn.worker.outcomes) (outcomes_by l.worker.outcomes)
