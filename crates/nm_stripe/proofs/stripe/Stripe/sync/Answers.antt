-- A sync is read off its calls once, and the lemmas on its end do the rest.
use Rattle.nm_leg.specs.Leg.{leg_type}
use Rattle.nm_leg.specs.LegCalls.{SyncsLegAt}
use Rattle.std.proofs.Common.{rules, ◌≡◌, Bool, None, is_ok, subst}
use Rattle.nm_rules.specs.Sync.{sync_cause}
use Rattle.nm_rules.proofs.ActsLemmas.{explained-stays}
use Rattle.nm_stripe.specs.Sync.{Syncs}
use Rattle.nm_stripe.proofs.SyncEndLemmas.{SyncIs, sync-ends}
use Rattle.nm_stripe.proofs.stripe.Stripe.sync.Goals as goal

pub returns-in-Some-clause-acts : goal.returns-in-Some-clause-acts
returns-in-Some-clause-acts g c is_honest =
    rw (← c.self.view_is) (explained-stays g.L.LegPart.model c.self.inside.store c.self.invariant.numbers.most)

ended : (g : _) (c : goal.After-answer_sync g) → SyncIs (leg_type g.L.LegPart.model g.L.LegPart.honest) (Syncs (leg_type g.L.LegPart.model g.L.LegPart.honest) c.self.inside.store c.answer_sync.new.store c.args.leg) c.self.inside.store c.answer_sync.new.store c.args.leg c.answer_sync.result
ended g c =
    let type = leg_type g.L.LegPart.model g.L.LegPart.honest in
    let s = c.self.inside.store in
    let mid = c.sync_leg.new.self in
    let done : is_ok c.sync_leg.result ≡ c.is_ok-done.result = search rules in
    let none : sync_cause s c.args.leg ≡ None = search rules in
    sync-ends type s mid c.answer_sync.new.store c.args.leg c.sync_leg.ensures.others c.self.invariant c.is_ok-done.result c.answer_sync.result
    (record { no_cause = none; syncs = subst (λ (b : Bool). SyncsLegAt type b c.args.leg s.legs mid.legs) done c.sync_leg.ensures.syncs })
    c.answer_sync.ensures.ends

pub invariant_of-self : goal.invariant_of-self
invariant_of-self g c = (ended g c).keeps

pub returns-clause-ok : goal.returns-clause-ok
returns-clause-ok g c = rw (← c.self.view_is) (ended g c).ok

pub returns-clause-acts : goal.returns-clause-acts
returns-clause-acts g c is_honest = rw (← c.self.view_is) ((ended g c).acts is_honest)

pub returns-clause-refused : goal.returns-clause-refused
returns-clause-refused g c = rw (← c.self.view_is) (ended g c).refused
