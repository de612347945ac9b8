use Rattle.std.proofs.Common.{IfOk, sym, subst}
use Rattle.nm_haggle.specs.Answer.{IsAnswered}
use Rattle.nm_haggle.proofs.ReplyBytes.{answer_to_others}
use Rattle.nm_haggle.proofs.answer.answer.Goals as goal

pub returns-in-None-clause-ok : goal.returns-in-None-clause-ok
returns-in-None-clause-ok c =
    subst (λ a. IfOk c.refuse.result (IsAnswered a c.args.out.now.items c.refuse.new.out.items))
    (sym (answer_to_others c.args.export.now c.args.no_zeroes
    (record { number = c.args.number; payload = c.args.payload.now }) c.in-None.ensures.unknown))
    c.refuse.ensures.ok
