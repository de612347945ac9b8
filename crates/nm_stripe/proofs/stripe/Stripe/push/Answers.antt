-- A push is read off its calls once, and the lemma on its end does the rest.
use Rattle.nm_leg.specs.Leg.{leg_type}
use Rattle.std.proofs.Common.{rules, ◌≡◌, Bool, true, IsSome, is_ok, sym, subst, ◌∙◌}
use Rattle.nm_fanout.specs.Records.{find_record}
use Rattle.nm_rules.specs.RunPush.{CallsToPushRun}
use Rattle.nm_rules.specs.State.{StripeState}
use Rattle.nm_stripe.proofs.PushEndLemmas.{PushIs, ends-landed, push-ends}
use Rattle.nm_stripe.proofs.PushLemmas.{called-record}
use Rattle.nm_stripe.proofs.stripe.Stripe.push.Goals as goal

pub answer_write-requires-clause-record : goal.answer_write-requires-clause-record
answer_write-requires-clause-record g c =
    let type = leg_type g.L.LegPart.model g.L.LegPart.honest in
    let s = c.self.inside.store in
    let was = called-record type (is_ok c.write_leg.result) s c.write_leg.new.self.legs c.args.ticket c.args.leg c.write_leg.ensures.called in
    subst (λ (m : StripeState _). IsSome (find_record c.args.ticket m.records)) (sym c.write_leg.ensures.others) was

pub answer_write-requires-clause-landed : goal.answer_write-requires-clause-landed
answer_write-requires-clause-landed g c done r found over =
    let type = leg_type g.L.LegPart.model g.L.LegPart.honest in
    let s = c.self.inside.store in
    let mid = c.write_leg.new.self in
    let is : is_ok c.write_leg.result ≡ c.is_ok-done.result = search rules in
    let called : CallsToPushRun type true s mid.legs c.args.ticket c.args.leg = subst (λ (b : Bool). CallsToPushRun type b s mid.legs c.args.ticket c.args.leg) (is ∙ done) c.write_leg.ensures.called in
    ends-landed type s mid c.args.ticket c.args.leg c.write_leg.ensures.others c.self.invariant called r found over

ended : (g : _) (c : goal.After-answer_write g) → PushIs (leg_type g.L.LegPart.model g.L.LegPart.honest) c.self.inside.store c.answer_write.new.store c.args.ticket c.args.leg c.answer_write.result
ended g c =
    let type = leg_type g.L.LegPart.model g.L.LegPart.honest in
    let s = c.self.inside.store in
    let mid = c.write_leg.new.self in
    let is : is_ok c.write_leg.result ≡ c.is_ok-done.result = search rules in
    push-ends type s mid c.answer_write.new.store c.args.ticket c.args.leg c.write_leg.ensures.others c.self.invariant c.is_ok-done.result c.answer_write.result
    (subst (λ (b : Bool). CallsToPushRun type b s mid.legs c.args.ticket c.args.leg) is c.write_leg.ensures.called)
    c.answer_write.ensures.ends

pub invariant_of-self : goal.invariant_of-self
invariant_of-self g c = (ended g c).keeps

pub returns-clause-ok : goal.returns-clause-ok
returns-clause-ok g c = rw (← c.self.view_is) (ended g c).ok

pub returns-clause-acts : goal.returns-clause-acts
returns-clause-acts g c is_honest = rw (← c.self.view_is) ((ended g c).acts is_honest)
