-- A job that is made is a request that was read.
use Rattle.std.proofs.Common.{refl}
use Rattle.nm_workers.proofs.Arrivals.{issued_with}
use Rattle.nm_workers.proofs.dispatcher.issue.Goals as goal

pub returns-then-is_err-clause-err : goal.returns-then-is_err-clause-err
returns-then-is_err-clause-err g c =
    let job = rw c.in-Ok-next.is at c.in-Ok.ensures.job in
    (refl, issued_with _ _ _ _ _ _ _ _ job.0 job.1)

pub returns-else-is_err-clause-ok : goal.returns-else-is_err-clause-ok
returns-else-is_err-clause-ok g c =
    let job = rw c.in-Ok-next.is at c.in-Ok.ensures.job in
    issued_with _ _ _ _ _ _ _ _ job.0 job.1
