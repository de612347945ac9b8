-- A claim, a sync and a flush are refused by the same conditions.
use Rattle.nm_gate.proofs.Asked.{saved-refused}
use Rattle.nm_gate.proofs.gated_stripe.GatedStripe.may_answer.Goals as goal

pub returns-in-Some-clause-refused : goal.returns-in-Some-clause-refused
returns-in-Some-clause-refused g c =
    saved-refused c.in-Some.durable c.args.self.now.stripe c.args.self.now.durable c.is_saved-saved.result c.answer.result c.in-Some.is c.is_saved-saved.ensures.1 c.answer.ensures
