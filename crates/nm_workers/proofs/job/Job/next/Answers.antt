-- What comes next is that requests are read.
use Rattle.std.proofs.Common.{ℕ, refl, subst}
use Rattle.nm_session.specs.declared.next.Next.TheVariants as next
use Rattle.nm_workers.proofs.Arrivals.{none_with, reads_on_with}
use Rattle.nm_workers.proofs.RequestLemmas.{ends, fills_up, issued_callable, starves}
use Rattle.nm_workers.proofs.job.Job.next.Goals as goal

pub returns-in_default-clause-err : goal.returns-in_default-clause-err
returns-in_default-clause-err g c = (refl, reads_on_with _ _ _ _ c.in_default.ensures.err)

pub invariant_of-result : goal.invariant_of-result
invariant_of-result g c = (
  issued_callable c.args.core.now c.next.new.self c.in-Issue.index c.in-Issue.task c.in-Issue.payload
      g.E.Extent.bytes (rw c.in-Issue.is at c.in-Ok.ensures.ok) c.requires.size,
  subst (λ (s : ℕ). g.T.Log.SessionLog.has_come s c.in-Issue.index c.in-Issue.payload c.ask-asked.result) c.requires.session
      c.ask-asked.ensures.told,
)

pub returns-in-Starved-clause-why : goal.returns-in-Starved-clause-why
returns-in-Starved-clause-why g c =
    let reads = rw c.in-Starved.is at c.in-Ok.ensures.ok in
    (none_with _ next.Starved _ _ _ tt reads, starves _ _ reads)

pub returns-in-Full-clause-why : goal.returns-in-Full-clause-why
returns-in-Full-clause-why g c =
    let reads = rw c.in-Full.is at c.in-Ok.ensures.ok in
    (none_with _ next.Full _ _ _ tt reads, fills_up _ _ reads)

pub returns-in-Ended-clause-why : goal.returns-in-Ended-clause-why
returns-in-Ended-clause-why g c =
    let reads = rw c.in-Ended.is at c.in-Ok.ensures.ok in
    (none_with _ next.Ended _ _ _ tt reads, ends _ _ reads)
