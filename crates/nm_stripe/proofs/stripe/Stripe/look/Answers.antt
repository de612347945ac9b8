-- No contents change, so the stripe keeps what it kept; and the leg holds the array where no write is under way.
use Rattle.std.proofs.Common.{rules, ◌≡◌, ℕ, ◌/◌, ◌<◌, IsTrue, true, false, is_ok, length, sym, ap, ◌∙◌, subst}
use Rattle.nm_choice.specs.declared.leg_state.LegState.TheVariants.{InSync}
use Rattle.nm_leg.specs.Leg.{HoldsRun, blocks_in, blocks_of, leg_type}
use Rattle.nm_rules.specs.Array.{stripe_array}
use Rattle.nm_rules.specs.Runs.{FitsRun}
use Rattle.nm_rules.specs.State.{StripeState, is_quiet, leg_state}
use Rattle.nm_rules.proofs.RunCallLemmas.{length-blocks}
use Rattle.nm_stripe.proofs.LookLemmas.{look-array, look-explained, look-keeps, when_ok}
use Rattle.nm_stripe.proofs.ReadLemmas.{has-run}
use Rattle.nm_stripe.proofs.stripe.Stripe.look.Goals as goal

pub read_leg-requires-clause-run : goal.read_leg-requires-clause-run
read_leg-requires-clause-run g c =
    let s = c.self.inside.store in
    let fits : FitsRun s.place c.args.block (blocks_in c.args.into.now) = subst (λ (s : StripeState _). FitsRun s.place c.args.block (blocks_in c.args.into.now)) (sym c.self.view_is) c.requires.run in
    has-run g.L.LegPart.model s c.args.leg c.args.block c.args.into.now c.self.invariant.legs (search rules) fits c.requires.whole

pub invariant_of-self : goal.invariant_of-self
invariant_of-self g c =
    let type = leg_type g.L.LegPart.model g.L.LegPart.honest in
    look-keeps type (is_ok c.read_leg.result) c.args.leg c.args.block (blocks_of c.read_leg.new.into) c.self.inside.store c.read_leg.new.self c.read_leg.ensures.reads c.self.invariant c.read_leg.ensures.others

pub returns-clause-array : goal.returns-clause-array
returns-clause-array g c is_honest runs quiet =
    let type = leg_type g.L.LegPart.model g.L.LegPart.honest in
    let bs = blocks_of c.read_leg.new.into in
    let ok = is_ok c.read_leg.result in
    let as_many : blocks_in c.args.into.now ≡ length bs = sym (length-blocks c.read_leg.new.into ∙ ap (λ (n : ℕ). n / 512) c.read_leg.ensures.long) in
    let fits : FitsRun c.args.self.now.place c.args.block (length bs) = subst (λ (n : ℕ). FitsRun c.args.self.now.place c.args.block n) as_many c.requires.run in
    let all = look-array type ok c.args.leg c.args.block bs c.self.inside.store c.read_leg.new.self c.read_leg.ensures.reads c.self.invariant is_honest in
    let found = subst (λ (s : StripeState _). s.stopped ≡ false → c.args.leg < length s.legs → leg_state c.args.leg s ≡ InSync → FitsRun s.place c.args.block (length bs) → is_quiet c.args.block s ≡ true → IsTrue ok → HoldsRun c.args.block bs (stripe_array g.L.LegPart.model s)) c.self.view_is all in
    when_ok c.read_leg.result _ (λ done. found runs c.requires.leg c.requires.in_sync fits quiet done)

pub returns-clause-acts : goal.returns-clause-acts
returns-clause-acts g c is_honest =
    let type = leg_type g.L.LegPart.model g.L.LegPart.honest in
    rw (← c.self.view_is) (look-explained type (is_ok c.read_leg.result) c.args.leg c.args.block (blocks_of c.read_leg.new.into) c.self.inside.store c.read_leg.new.self c.read_leg.ensures.reads c.self.invariant c.read_leg.ensures.others is_honest)
