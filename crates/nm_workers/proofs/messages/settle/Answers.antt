-- The room that is taken changes nothing of what came of the task.
use Rattle.std.proofs.Common.{OnOk, subst}
use Rattle.nm_session.specs.CalledValue.{CalledValue}
use Rattle.nm_workers.specs.Hearing.{Settles}
use Rattle.nm_workers.specs.Results.{IsNoted, moment}
use Rattle.nm_workers.proofs.messages.settle.Goals as goal

pub returns-clause-ok : goal.returns-clause-ok
returns-clause-ok g c =
    subst (λ (called : CalledValue). OnOk c.answer.result
    (Settles (IsNoted g.T.Target g.T.Log.SessionLog g.E.Extent.session) (moment c.args.core.now c.args.log.now) called
    (moment c.answer.new.core c.answer.new.log))) c.take_room.ensures c.answer.ensures.ok
