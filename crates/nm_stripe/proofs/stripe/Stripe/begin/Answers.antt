-- A begin is the store's, and the lemmas on begins do the rest.
use Rattle.std.proofs.Common.{rules, ◌≡◌, false, None, refl, sym, subst}
use Rattle.nm_fanout.specs.Data.{data_blocks, is_part}
use Rattle.nm_leg.specs.Leg.{leg_type}
use Rattle.nm_rules.specs.RunBegin.{begin_run_cause}
use Rattle.nm_rules.specs.Runs.{FitsRun}
use Rattle.nm_rules.specs.State.{StripeState}
use Rattle.nm_rules.proofs.ActsLemmas.{explained-stays}
use Rattle.nm_rules.proofs.ReadLegLemmas.{some_current}
use Rattle.nm_stripe.specs.Begin.{BeginsWith}
use Rattle.nm_stripe.proofs.BeginLemmas.{begins-whole, begun-explained, begun-keeps, room}
use Rattle.nm_stripe.proofs.stripe.Stripe.begin.Goals as goal

pub returns-in-Some-clause-refused_acts : goal.returns-in-Some-clause-refused_acts
returns-in-Some-clause-refused_acts g c is_honest =
    rw (← c.self.view_is) (explained-stays g.L.LegPart.model c.self.inside.store c.self.invariant.numbers.most)

pub begin-requires-clause-current : goal.begin-requires-clause-current
begin-requires-clause-current g c = some_current (leg_type g.L.LegPart.model g.L.LegPart.honest) c.self.inside.store c.args.block c.self.invariant.legs

pub begin-requires-clause-few : goal.begin-requires-clause-few
begin-requires-clause-few g c =
    let type = leg_type g.L.LegPart.model g.L.LegPart.honest in
    let s = c.self.inside.store in
    let none : begin_run_cause s c.args.block (data_blocks c.args.data) ≡ None = search rules in
    (room type s s c.args.block (data_blocks c.args.data) c.self.invariant none refl).0

pub begin-requires-clause-more : goal.begin-requires-clause-more
begin-requires-clause-more g c =
    let type = leg_type g.L.LegPart.model g.L.LegPart.honest in
    let s = c.self.inside.store in
    let none : begin_run_cause s c.args.block (data_blocks c.args.data) ≡ None = search rules in
    (room type s s c.args.block (data_blocks c.args.data) c.self.invariant none refl).2

pub invariant_of-self : goal.invariant_of-self
invariant_of-self g c =
    let type = leg_type g.L.LegPart.model g.L.LegPart.honest in
    let s = c.self.inside.store in
    let none : begin_run_cause s c.args.block (data_blocks c.args.data) ≡ None = search rules in
    let whole : is_part c.args.data ≡ false = search rules in
    let fits : FitsRun s.place c.args.block (data_blocks c.args.data) = subst (λ (s : StripeState _). FitsRun s.place c.args.block (data_blocks c.args.data)) (sym c.self.view_is) c.requires.run in
    let is : BeginsWith type s c.begin.new.self c.args.block c.args.data c.begin.result = begins-whole type s c.begin.new.self c.args.block c.args.data c.begin.result _ none fits c.requires.fits whole c.begin.ensures.ticket c.begin.ensures.begun in
    begun-keeps type s c.begin.new.self c.args.block c.args.data c.begin.result c.self.invariant is fits c.requires.fits

pub returns-then-not-is_part-clause-ok : goal.returns-then-not-is_part-clause-ok
returns-then-not-is_part-clause-ok g c =
    let type = leg_type g.L.LegPart.model g.L.LegPart.honest in
    let s = c.self.inside.store in
    let none : begin_run_cause s c.args.block (data_blocks c.args.data) ≡ None = search rules in
    let whole : is_part c.args.data ≡ false = search rules in
    let fits : FitsRun s.place c.args.block (data_blocks c.args.data) = subst (λ (s : StripeState _). FitsRun s.place c.args.block (data_blocks c.args.data)) (sym c.self.view_is) c.requires.run in
    rw (← c.self.view_is) (begins-whole type s c.begin.new.self c.args.block c.args.data c.begin.result _ none fits c.requires.fits whole c.begin.ensures.ticket c.begin.ensures.begun)

pub returns-then-not-is_part-clause-acts : goal.returns-then-not-is_part-clause-acts
returns-then-not-is_part-clause-acts g c is_honest =
    let type = leg_type g.L.LegPart.model g.L.LegPart.honest in
    let s = c.self.inside.store in
    let none : begin_run_cause s c.args.block (data_blocks c.args.data) ≡ None = search rules in
    let whole : is_part c.args.data ≡ false = search rules in
    let fits : FitsRun s.place c.args.block (data_blocks c.args.data) = subst (λ (s : StripeState _). FitsRun s.place c.args.block (data_blocks c.args.data)) (sym c.self.view_is) c.requires.run in
    let is : BeginsWith type s c.begin.new.self c.args.block c.args.data c.begin.result = begins-whole type s c.begin.new.self c.args.block c.args.data c.begin.result _ none fits c.requires.fits whole c.begin.ensures.ticket c.begin.ensures.begun in
    rw (← c.self.view_is) (begun-explained type s c.begin.new.self c.args.block c.args.data c.begin.result c.self.invariant is c.requires.fits is_honest)
