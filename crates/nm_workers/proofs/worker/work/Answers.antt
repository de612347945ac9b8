-- Each job is done, and its result is reported where the ones before were heard.
use Rattle.std.proofs.Common.{ap}
use Rattle.nm_mailbox.specs.declared.outcome_end.OutcomeEnd.{OutcomeEnd}
use Rattle.nm_mailbox.specs.Ends.{outcomes_by}
use Rattle.nm_session.specs.CalledValue.{CalledValue}
use Rattle.nm_workers.proofs.Working.{works_nowhere, works_on, works_past}
use Rattle.nm_workers.proofs.worker.work.Goals as goal

pub jobs-init : goal.jobs-init
jobs-init g c = works_nowhere g.T.Target c.args.worker.target (outcomes_by c.args.worker.outcomes)

pub jobs-preserved-then-heard : goal.jobs-preserved-then-heard
jobs-preserved-then-heard g c =
    works_on g.T.Target c.args.worker.target c.jobs.worker.target c.do_job-done.result.1.target
    c.report-heard.new.self.target c.jobs.heard (outcomes_by c.args.worker.outcomes)
    (outcomes_by c.jobs.worker.outcomes) (outcomes_by c.do_job-done.result.1.outcomes)
    (outcomes_by c.report-heard.new.self.outcomes) c.do_job-done.result.0 _ _ c.jobs.invariant
    c.do_job-done.ensures.task c.do_job-done.ensures.calls
    (ap (λ (end : OutcomeEnd CalledValue). outcomes_by end) c.do_job-done.ensures.outcomes)
    c.report-heard.result c.report-heard.ensures.target c.if-heard.true c.report-heard.ensures.heard
    c.report-heard.ensures.unheard

pub jobs-preserved : goal.jobs-preserved
jobs-preserved g c =
    works_past g.T.Target c.args.worker.target c.jobs.worker.target c.do_job-done.result.1.target
    c.do_job-done.result.1.target c.jobs.heard (outcomes_by c.args.worker.outcomes)
    (outcomes_by c.jobs.worker.outcomes) (outcomes_by c.do_job-done.result.1.outcomes)
    (outcomes_by c.do_job-done.result.1.outcomes) c.do_job-done.result.0 _ _ c.jobs.invariant
    c.do_job-done.ensures.task c.do_job-done.ensures.calls
    (ap (λ (end : OutcomeEnd CalledValue). outcomes_by end) c.do_job-done.ensures.outcomes)
    c.if-heard.false
