-- The outcome that is kept is the result of the request's own task, and what tells of it is taken in.
use Rattle.std.proofs.Common.{rules}
use Rattle.nm_workers.specs.Results.{IsNoted, moment}
use Rattle.nm_workers.proofs.Results.{settles_own}
use Rattle.nm_workers.proofs.messages.answer.Goals as goal

pub returns-in-Ok-clause-ok : goal.returns-in-Ok-clause-ok
returns-in-Ok-clause-ok g c =
    let parts = c.into_parts-called.result in
    settles_own (IsNoted g.T.Target g.T.Log.SessionLog g.E.Extent.session) (moment c.args.core.now c.args.log.now)
    (moment c.answer.new.self c.hear.new.self) c.args.done parts.0 c.index-index.result c.task.result
    c.into_outcome.result c.into_parts-called.ensures.called c.index-index.ensures c.task.ensures c.into_outcome.ensures.says
    (search rules) c.in-Ok.ensures.ok (
      record { told = parts.1; result = c.into_parts-called.ensures.is_result; hears = c.hear.ensures.heard },
      c.hear.ensures.session,
    )
