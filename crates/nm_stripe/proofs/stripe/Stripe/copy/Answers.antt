-- A step of a copy is read off its calls once, and the lemmas on it do the rest.
use Rattle.nm_leg.specs.Leg.{leg_type}
use Rattle.std.proofs.Common.{rules, ◌≡◌, ◌<◌, true, false, length, sym, ◌∙◌, subst, refl}
use Rattle.nm_rules.specs.State.{StripeState, is_last}
use Rattle.nm_rules.proofs.ActsLemmas.{explained-stays}
use Rattle.nm_store.specs.Copying.{FailsToCopy, MovesRun}
use Rattle.nm_stripe.proofs.CopyLemmas.{moved-run, copied-explained, gone-inside, fails, fault-keeps, fault-explained, loses, lost-keeps, lost-explained}
use Rattle.nm_stripe.specs.Copy.{ForFault}
use Rattle.nm_stripe.proofs.LostLemmas.{last-from}
use Rattle.nm_stripe.proofs.stripe.Stripe.copy.Goals as goal

pub returns-in-Some-clause-acts : goal.returns-in-Some-clause-acts
returns-in-Some-clause-acts g c is_honest =
    rw (← c.self.view_is) (explained-stays g.L.LegPart.model c.self.inside.store c.self.invariant.numbers.most)

pub returns-then-not-has_more-clause-acts : goal.returns-then-not-has_more-clause-acts
returns-then-not-has_more-clause-acts g c is_honest =
    rw (← c.self.view_is) (explained-stays g.L.LegPart.model c.self.inside.store c.self.invariant.numbers.most)

pub returns-in-Some-copy_more_cause-clause-acts : goal.returns-in-Some-copy_more_cause-clause-acts
returns-in-Some-copy_more_cause-clause-acts g c is_honest =
    rw (← c.self.view_is) (explained-stays g.L.LegPart.model c.self.inside.store c.self.invariant.numbers.most)

pub invariant_of-self : goal.invariant_of-self
invariant_of-self g c =
    let type = leg_type g.L.LegPart.model g.L.LegPart.honest in
    let s = c.self.inside.store in
    let new = c.copy.new.self in
    let moves : MovesRun type s new c.args.leg c.args.most c.args.from c.in-Ok.moved = search rules in
    (moved-run type s new c.args.leg c.args.most c.args.from c.self.invariant c.requires.some c.in-Ok.moved moves).keeps

pub returns-in-Ok-clause-acts : goal.returns-in-Ok-clause-acts
returns-in-Ok-clause-acts g c is_honest =
    let type = leg_type g.L.LegPart.model g.L.LegPart.honest in
    let s = c.self.inside.store in
    let new = c.copy.new.self in
    let moves : MovesRun type s new c.args.leg c.args.most c.args.from c.in-Ok.moved = search rules in
    rw (← c.self.view_is) (copied-explained type s new c.args.leg c.args.most c.args.from c.self.invariant c.requires.some c.in-Ok.moved moves is_honest)

-- the call failed
pub is_last-requires : goal.is_last-requires
is_last-requires g c =
    let type = leg_type g.L.LegPart.model g.L.LegPart.honest in
    let s = c.self.inside.store in
    let mid = c.copy.new.self in
    let inside : c.args.leg < length s.legs = subst (λ (s : StripeState _). c.args.leg < length s.legs) (sym c.self.view_is) c.requires.leg in
    gone-inside type s mid c.args.leg c.args.most c.args.from c.in-Err.failed c.self.invariant c.in-Err.ensures.failed inside

pub lose-requires-clause-leg : goal.lose-requires-clause-leg
lose-requires-clause-leg g c =
    let type = leg_type g.L.LegPart.model g.L.LegPart.honest in
    let s = c.self.inside.store in
    let mid = c.copy.new.self in
    let inside : c.args.leg < length s.legs = subst (λ (s : StripeState _). c.args.leg < length s.legs) (sym c.self.view_is) c.requires.leg in
    gone-inside type s mid c.args.leg c.args.most c.args.from c.in-Err.failed c.self.invariant c.in-Err.ensures.failed inside

pub invariant_of-self-then-is_last : goal.invariant_of-self-then-is_last
invariant_of-self-then-is_last g c =
    let type = leg_type g.L.LegPart.model g.L.LegPart.honest in
    let s = c.self.inside.store in
    let mid = c.copy.new.self in
    let gone = c.in-Err.failed in
    let f : FailsToCopy type s mid c.args.leg c.args.most c.args.from gone = c.in-Err.ensures.failed in
    let given : c.is_last.result ≡ true = search rules in
    let last : is_last gone s ≡ true = last-from gone s mid c.is_last.result f.after c.is_last.ensures ∙ given in
    fault-keeps type s mid c.args.leg c.args.most c.args.from gone c.self.invariant f last

pub returns-then-is_last-clause-acts : goal.returns-then-is_last-clause-acts
returns-then-is_last-clause-acts g c is_honest =
    let type = leg_type g.L.LegPart.model g.L.LegPart.honest in
    let s = c.self.inside.store in
    let mid = c.copy.new.self in
    let gone = c.in-Err.failed in
    let f : FailsToCopy type s mid c.args.leg c.args.most c.args.from gone = c.in-Err.ensures.failed in
    let given : c.is_last.result ≡ true = search rules in
    let last : is_last gone s ≡ true = last-from gone s mid c.is_last.result f.after c.is_last.ensures ∙ given in
    rw (← c.self.view_is) (fault-explained type s mid c.args.leg c.args.most c.args.from gone c.self.invariant f last is_honest)

pub returns-then-is_last-clause-refused : goal.returns-then-is_last-clause-refused
returns-then-is_last-clause-refused g c =
    let type = leg_type g.L.LegPart.model g.L.LegPart.honest in
    let s = c.self.inside.store in
    let mid = c.copy.new.self in
    let gone = c.in-Err.failed in
    let f : FailsToCopy type s mid c.args.leg c.args.most c.args.from gone = c.in-Err.ensures.failed in
    let given : c.is_last.result ≡ true = search rules in
    let last : is_last gone s ≡ true = last-from gone s mid c.is_last.result f.after c.is_last.ensures ∙ given in
    rw (← c.self.view_is) (ForFault refl (fails type s mid c.args.leg c.args.most c.args.from gone c.self.invariant f last))

pub invariant_of-self-2 : goal.invariant_of-self-2
invariant_of-self-2 g c =
    let type = leg_type g.L.LegPart.model g.L.LegPart.honest in
    let s = c.self.inside.store in
    let mid = c.copy.new.self in
    let gone = c.in-Err.failed in
    let f : FailsToCopy type s mid c.args.leg c.args.most c.args.from gone = c.in-Err.ensures.failed in
    let given : c.is_last.result ≡ false = search rules in
    let last : is_last gone s ≡ false = last-from gone s mid c.is_last.result f.after c.is_last.ensures ∙ given in
    lost-keeps type s mid c.args.leg c.args.most c.args.from gone c.self.invariant f c.lose.new.self last c.lose.ensures

pub returns-clause-ok : goal.returns-clause-ok
returns-clause-ok g c =
    let type = leg_type g.L.LegPart.model g.L.LegPart.honest in
    let s = c.self.inside.store in
    let mid = c.copy.new.self in
    let gone = c.in-Err.failed in
    let f : FailsToCopy type s mid c.args.leg c.args.most c.args.from gone = c.in-Err.ensures.failed in
    let given : c.is_last.result ≡ false = search rules in
    let last : is_last gone s ≡ false = last-from gone s mid c.is_last.result f.after c.is_last.ensures ∙ given in
    rw (← c.self.view_is) (loses type s mid c.args.leg c.args.most c.args.from gone c.self.invariant f c.lose.new.self last c.lose.ensures)

pub returns-clause-acts : goal.returns-clause-acts
returns-clause-acts g c is_honest =
    let type = leg_type g.L.LegPart.model g.L.LegPart.honest in
    let s = c.self.inside.store in
    let mid = c.copy.new.self in
    let gone = c.in-Err.failed in
    let f : FailsToCopy type s mid c.args.leg c.args.most c.args.from gone = c.in-Err.ensures.failed in
    let given : c.is_last.result ≡ false = search rules in
    let last : is_last gone s ≡ false = last-from gone s mid c.is_last.result f.after c.is_last.ensures ∙ given in
    rw (← c.self.view_is) (lost-explained type s mid c.args.leg c.args.most c.args.from gone c.self.invariant f c.lose.new.self last c.lose.ensures is_honest)
