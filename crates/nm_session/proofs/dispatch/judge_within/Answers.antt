-- What is not refused lies where it lay.
use Rattle.nm_session.proofs.Room.{still_inside}
use Rattle.nm_session.proofs.dispatch.judge_within.Goals as goal

pub returns-clause-judged : goal.returns-clause-judged
returns-clause-judged c = record {
  by_table = c.judge.result;
  is_first = c.judge.ensures.table;
  judged_is = c.refuse_long.ensures;
}

pub returns-clause-inside : goal.returns-clause-inside
returns-clause-inside c =
    still_inside c.args.limit.bytes c.args.request.now c.args.export.now c.judge.result _
    c.refuse_long.ensures c.judge.ensures.inside
