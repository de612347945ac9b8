-- A refused step is explained by no events, and leaves the stripe as it was.
use Rattle.std.proofs.Common.{rules, ◌≡◌}
use Rattle.nm_rules.proofs.ActsLemmas.{explained-stays}
use Rattle.nm_stripe.proofs.stripe.Stripe.step_return.Goals as goal

pub returns-clause-acts : goal.returns-clause-acts
returns-clause-acts g c =
    let same : c.return_leg.new.self ≡ c.args.self.now = search rules in
    rw same (λ is_honest. explained-stays g.L.LegPart.model c.args.self.now c.sound.ensures.kept)
