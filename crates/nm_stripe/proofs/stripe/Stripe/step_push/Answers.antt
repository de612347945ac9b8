-- A refused push is explained by no events, and leaves the stripe as it was.
use Rattle.std.proofs.Common.{rules, ◌≡◌}
use Rattle.nm_rules.proofs.ActsLemmas.{explained-stays}
use Rattle.nm_stripe.proofs.stripe.Stripe.step_push.Goals as goal

pub returns-in-Err-clause-acts : goal.returns-in-Err-clause-acts
returns-in-Err-clause-acts g c =
    let same : c.push.new.self ≡ c.args.self.now = search rules in
    rw (c.refusal_answer.ensures, same) (λ is_honest running. explained-stays g.L.LegPart.model c.args.self.now c.sound.ensures.kept)
