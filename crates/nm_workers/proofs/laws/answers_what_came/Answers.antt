use Rattle.nm_workers.specs.Results.{IsNoted}
use Rattle.nm_workers.proofs.Coming.{answers_what_came}
use Rattle.nm_workers.proofs.laws.answers_what_came.Goals as goal

pub returns : goal.returns
returns g c session = answers_what_came (IsNoted g.T.Target g.T.Log.SessionLog session)
