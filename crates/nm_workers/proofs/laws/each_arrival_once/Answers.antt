use Rattle.nm_workers.specs.Results.{IsNoted}
use Rattle.nm_workers.proofs.Coming.{answers_once, arrivals_rise}
use Rattle.nm_workers.proofs.laws.each_arrival_once.Goals as goal

pub returns : goal.returns
returns g c = record {
  arrivals = λ session. arrivals_rise (IsNoted g.T.Target g.T.Log.SessionLog session);
  answers = λ session. answers_once (IsNoted g.T.Target g.T.Log.SessionLog session) c.answered_once.ensures;
}
