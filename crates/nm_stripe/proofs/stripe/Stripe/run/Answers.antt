-- One turn of the loop is one step more.
use Rattle.nm_leg.specs.Leg.{leg_type}
use Rattle.std.proofs.Common.{rules, ◌≡◌, [], ◌∷◌, ◌++◌, reverse}
use Rattle.nm_rules.proofs.SoundLemmas.{keeps-sound}
use Rattle.nm_stripe.proofs.BoundLemmas.{runs-bound}
use Rattle.nm_stripe.proofs.FlushLemmas.{runs-flushed}
use Rattle.nm_stripe.proofs.RunLemmas.{run-begins, run-on, run-over, run-all}
use Rattle.nm_stripe.proofs.stripe.Stripe.run.Goals as goal

pub loop-step-init : goal.loop-step-init
loop-step-init g c =
    let turned : c.reverse.new.self.items ≡ reverse c.args.steps.items = search rules in
    let none : c.reserve.new.self.items ≡ [] = search rules in
    record {
      run = rw (turned, none) (run-begins (leg_type g.L.LegPart.model g.L.LegPart.honest) c.args.self.now c.args.steps.items c.keeps.ensures.numbers.most c.requires);
      room = search rules;
    }

pub loop-step-preserved : goal.loop-step-preserved
loop-step-preserved g c =
    let last : c.loop-step.rest.items ≡ c.pop.new.self.items ++ c.in-Some.step ∷ [] = search rules in
    let answered : c.push_reserved.new.self.items ≡ c.loop-step.answers.items ++ c.step.result ∷ [] = search rules in
    record {
      run = rw answered (run-on (leg_type g.L.LegPart.model g.L.LegPart.honest) c.args.self.now c.args.steps.items c.pop.new.self.items c.in-Some.step c.loop-step.answers.items c.step.result c.loop-step.self c.step.new.self
          (rw last at c.loop-step.invariant.run) c.step.ensures.step c.step.ensures.acts);
      room = search rules;
    }

pub returns-then-is_err-clause-sound : goal.returns-then-is_err-clause-sound
returns-then-is_err-clause-sound g c = keeps-sound (leg_type g.L.LegPart.model g.L.LegPart.honest) c.args.self.now c.keeps.ensures

pub returns-then-is_err-clause-memory_only_at_growth : goal.returns-then-is_err-clause-memory_only_at_growth
returns-then-is_err-clause-memory_only_at_growth g c = search rules

pub returns-clause-headline : goal.returns-clause-headline
returns-clause-headline g c is_honest halted =
    let none : c.loop-step.rest.items ≡ [] = search rules in
    run-over (leg_type g.L.LegPart.model g.L.LegPart.honest) c.args.self.now c.args.steps.items c.loop-step.rest.items c.loop-step.answers.items c.loop-step.self c.loop-step.invariant.run none is_honest halted

pub returns-clause-bound : goal.returns-clause-bound
returns-clause-bound g c leg joined stays =
    let type = leg_type g.L.LegPart.model g.L.LegPart.honest in
    let none : c.loop-step.rest.items ≡ [] = search rules in
    let runs = run-all type c.args.self.now c.args.steps.items c.loop-step.rest.items c.loop-step.answers.items c.loop-step.self c.loop-step.invariant.run none in
    runs-bound type c.args.steps.items c.loop-step.answers.items c.args.self.now c.loop-step.self leg c.keeps.ensures c.requires runs joined stays

pub returns-clause-flushed : goal.returns-clause-flushed
returns-clause-flushed g c is_honest flush leg block inside free leaves in_sync =
    let type = leg_type g.L.LegPart.model g.L.LegPart.honest in
    let none : c.loop-step.rest.items ≡ [] = search rules in
    let runs = run-all type c.args.self.now c.args.steps.items c.loop-step.rest.items c.loop-step.answers.items c.loop-step.self c.loop-step.invariant.run none in
    runs-flushed type c.args.steps.items c.loop-step.answers.items c.args.self.now c.loop-step.self c.keeps.ensures c.requires runs is_honest flush leg block inside free leaves in_sync
