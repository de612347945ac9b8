-- A leg that is taken out is lost, and the lemmas on that do the rest.
use Rattle.nm_leg.specs.Leg.{leg_type}
use Rattle.std.proofs.Common.{rules, ◌≡◌, None}
use Rattle.nm_rules.specs.Failing.{GoesOut, fail_cause}
use Rattle.nm_rules.proofs.ActsLemmas.{explained-stays}
use Rattle.nm_rules.proofs.LostStepLemmas.{fail-keeps, fail-acts}
use Rattle.nm_stripe.proofs.stripe.Stripe.fail.Goals as goal

pub returns-in-Some-clause-acts : goal.returns-in-Some-clause-acts
returns-in-Some-clause-acts g c is_honest =
    rw (← c.self.view_is) (explained-stays g.L.LegPart.model c.self.inside.store c.self.invariant.numbers.most)

pub invariant_of-self : goal.invariant_of-self
invariant_of-self g c =
    let type = leg_type g.L.LegPart.model g.L.LegPart.honest in
    let s = c.self.inside.store in
    let none : fail_cause s c.args.leg ≡ None = search rules in
    let gone : GoesOut s c.lose.new.self c.args.leg = record { no_cause = none; after = c.lose.ensures } in
    fail-keeps type s c.lose.new.self c.self.invariant c.args.leg gone

pub returns-clause-acts : goal.returns-clause-acts
returns-clause-acts g c is_honest =
    let type = leg_type g.L.LegPart.model g.L.LegPart.honest in
    let s = c.self.inside.store in
    let none : fail_cause s c.args.leg ≡ None = search rules in
    let gone : GoesOut s c.lose.new.self c.args.leg = record { no_cause = none; after = c.lose.ensures } in
    rw (← c.self.view_is) (fail-acts type s c.lose.new.self c.self.invariant c.args.leg gone is_honest)
