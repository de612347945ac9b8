-- A refused step is explained by no events, and leaves the stripe as it was.
use Rattle.std.proofs.Common.{rules, ◌≡◌}
use Rattle.nm_rules.proofs.ActsLemmas.{explained-stays}
use Rattle.nm_stripe.proofs.stripe.Stripe.step.Goals as goal

pub returns-in-Err-clause-acts : goal.returns-in-Err-clause-acts
returns-in-Err-clause-acts g c =
    let same : c.claim.new.self ≡ c.args.self.now = search rules in
    rw (c.in-Claim.is, c.refusal_answer.ensures, same) (λ is_honest running. explained-stays g.L.LegPart.model c.args.self.now c.sound.ensures.kept)

pub returns-in-Err-attach-clause-acts : goal.returns-in-Err-attach-clause-acts
returns-in-Err-attach-clause-acts g c =
    let same : c.attach.new.self ≡ c.args.self.now = search rules in
    rw (c.in-Attach.is, c.refusal_answer-in-Err-attach.ensures, same) (λ is_honest running. explained-stays g.L.LegPart.model c.args.self.now c.sound.ensures.kept)

pub returns-in-Err-replace-clause-acts : goal.returns-in-Err-replace-clause-acts
returns-in-Err-replace-clause-acts g c =
    let same : c.replace.new.self ≡ c.args.self.now = search rules in
    rw (c.in-Replace.is, same) (λ is_honest running. explained-stays g.L.LegPart.model c.args.self.now c.sound.ensures.kept)
