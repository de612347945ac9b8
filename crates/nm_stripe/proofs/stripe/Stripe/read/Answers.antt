-- A read is read off its calls once, and the lemma on its end does the rest.
use Rattle.nm_leg.specs.Leg.{leg_type, blocks_in, blocks_of}
use Rattle.std.proofs.Common.{rules, ◌≡◌, Bool, Result, Ok, Err, OnErr, is_ok, sym, subst}
use Rattle.nm_rules.specs.RunCalls.{ReadsRunAt}
use Rattle.nm_rules.specs.RunRead.{last_block}
use Rattle.nm_rules.specs.Runs.{FitsRun}
use Rattle.nm_rules.specs.State.{StripeState}
use Rattle.nm_rules.proofs.ActsLemmas.{explained-stays}
use Rattle.nm_rules.proofs.ReadLegLemmas.{some_current}
use Rattle.nm_rules.proofs.ReadLegLemmas as legs
use Rattle.nm_stripe.proofs.ReadEndLemmas.{ReadIs, read-ends}
use Rattle.nm_stripe.proofs.ReadLemmas.{has-run, read-inside}
use Rattle.nm_stripe.proofs.stripe.Stripe.read.Goals as goal

on-err : {A B : Type 0} (r : Result A B) (P : Type 0) → P → OnErr r P
on-err (Ok a) P is = tt
on-err (Err b) P is = is

pub ask_read-requires-clause-current : goal.ask_read-requires-clause-current
ask_read-requires-clause-current g c =
    some_current (leg_type g.L.LegPart.model g.L.LegPart.honest) c.self.inside.store (last_block c.args.block (blocks_in c.args.into.now)) c.self.invariant.legs

pub ask_read-requires-clause-few : goal.ask_read-requires-clause-few
ask_read-requires-clause-few g c = c.self.invariant.legs.sizes.most_blocks

pub returns-in_err-leg-clause-refused_acts : goal.returns-in_err-leg-clause-refused_acts
returns-in_err-leg-clause-refused_acts g c is_honest =
    on-err c.from_residual.result _ (rw (← c.self.view_is) (explained-stays g.L.LegPart.model c.self.inside.store c.self.invariant.numbers.most))

pub read_leg-requires-clause-leg : goal.read_leg-requires-clause-leg
read_leg-requires-clause-leg g c =
    legs.read-inside (leg_type g.L.LegPart.model g.L.LegPart.honest) c.self.inside.store (last_block c.args.block (blocks_in c.args.into.now)) c.self.invariant.legs c.self.invariant.chunk c.in_ok-leg.leg c.in_ok-leg.ensures.leg

pub read_leg-requires-clause-run : goal.read_leg-requires-clause-run
read_leg-requires-clause-run g c =
    let s = c.self.inside.store in
    let inside = legs.read-inside (leg_type g.L.LegPart.model g.L.LegPart.honest) s (last_block c.args.block (blocks_in c.args.into.now)) c.self.invariant.legs c.self.invariant.chunk c.in_ok-leg.leg c.in_ok-leg.ensures.leg in
    let fits : FitsRun s.place c.args.block (blocks_in c.args.into.now) = subst (λ (s : StripeState _). FitsRun s.place c.args.block (blocks_in c.args.into.now)) (sym c.self.view_is) c.requires.run in
    has-run g.L.LegPart.model s c.in_ok-leg.leg c.args.block c.args.into.now c.self.invariant.legs inside fits c.requires.whole

pub answer_read-requires-clause-leg : goal.answer_read-requires-clause-leg
answer_read-requires-clause-leg g c =
    let type = leg_type g.L.LegPart.model g.L.LegPart.honest in
    let s = c.self.inside.store in
    let leg = c.in_ok-leg.leg in
    let inside = legs.read-inside type s (last_block c.args.block (blocks_in c.args.into.now)) c.self.invariant.legs c.self.invariant.chunk leg c.in_ok-leg.ensures.leg in
    read-inside type (is_ok c.read_leg.result) s.legs c.read_leg.new.self.legs c.args.block leg (blocks_of c.read_leg.new.into) c.read_leg.ensures.reads inside

ended : (g : _) (c : goal.After-answer_read g) → ReadIs (leg_type g.L.LegPart.model g.L.LegPart.honest) c.self.inside.store c.answer_read.new.store c.args.block c.args.into.now c.read_leg.new.into c.answer_read.result
ended g c =
    let type = leg_type g.L.LegPart.model g.L.LegPart.honest in
    let s = c.self.inside.store in
    let mid = c.read_leg.new.self in
    let leg = c.in_ok-leg.leg in
    let was = c.args.into.now in
    let is = c.read_leg.new.into in
    let fits : FitsRun s.place c.args.block (blocks_in was) = subst (λ (s : StripeState _). FitsRun s.place c.args.block (blocks_in was)) (sym c.self.view_is) c.requires.run in
    let done : is_ok c.read_leg.result ≡ c.is_ok-done.result = search rules in
    read-ends type s mid c.answer_read.new.store c.args.block leg was is fits c.read_leg.ensures.long c.in_ok-leg.ensures.ok c.in_ok-leg.ensures.leg c.read_leg.ensures.others c.self.invariant c.is_ok-done.result c.answer_read.result
    (subst (λ (b : Bool). ReadsRunAt type b leg c.args.block (blocks_of is) s.legs mid.legs) done c.read_leg.ensures.reads)
    c.answer_read.ensures.ends

pub invariant_of-self : goal.invariant_of-self
invariant_of-self g c = (ended g c).keeps

pub returns-clause-ok : goal.returns-clause-ok
returns-clause-ok g c = rw (← c.self.view_is) (ended g c).ok

pub returns-clause-acts : goal.returns-clause-acts
returns-clause-acts g c is_honest = rw (← c.self.view_is) ((ended g c).acts is_honest)

pub returns-clause-refused : goal.returns-clause-refused
returns-clause-refused g c = rw (← c.self.view_is) (ended g c).refused

pub returns-clause-refused_acts : goal.returns-clause-refused_acts
returns-clause-refused_acts g c is_honest = rw (← c.self.view_is) ((ended g c).refused_acts is_honest)

pub returns-clause-target : goal.returns-clause-target
returns-clause-target g c = (ended g c).target
