-- A leg that is not reached yet is set aside, and it then stands as the plan says.
use Rattle.std.proofs.Common.{rules, ◌≡◌, ◌≢◌, ℕ, suc, ◌+◌, ◌<◌, length, sym, subst, ap, ◌∙◌, arith}
use Rattle.std.proofs.lemmas.List.{get_or_default}
use Rattle.nm_rules.specs.declared.leg_opening.LegOpening.TheVariants.{Missing, Partial}
use Rattle.nm_rules.specs.Reopening.{OpeningPlan}
use Rattle.nm_rules.specs.State.{StripeState}
use Rattle.nm_store.specs.Reopening.{IsAside, opened_upto}
use Rattle.nm_store.proofs.ReopeningLemmas.{upto-aside, upto-next}
use Rattle.nm_store.proofs.store.Store.open_legs.Goals as goal

pub open_leg-requires-clause-aside : goal.open_leg-requires-clause-aside
open_leg-requires-clause-aside g c =
    let plan : OpeningPlan = record { master = c.args.self.now.master; others = c.args.others.now; marks = record { marked = c.args.marked.now; span = c.args.span } } in
    let within : c.loop-leg.leg < length c.args.self.now.legs = search rules in
    subst (λ (s : StripeState _). c.loop-leg.leg ≢ s.master → IsAside c.loop-leg.leg s) (sym c.loop-leg.invariant)
    (λ ne. upto-aside plan c.args.self.now c.loop-leg.leg (c.requires.aside c.loop-leg.leg within ne))

pub loop-leg-preserved : goal.loop-leg-preserved
loop-leg-preserved g c =
    let plan : OpeningPlan = record { master = c.args.self.now.master; others = c.args.others.now; marks = record { marked = c.args.marked.now; span = c.args.span } } in
    let within : c.loop-leg.leg < length c.args.others.now = search rules in
    let next : suc c.loop-leg.leg ≡ c.loop-leg.leg + 1 = omega arith in
    rw (c.open_leg.ensures, c.loop-leg.invariant, get_or_default c.args.others.now c.loop-leg.leg Partial Missing within) (sym (upto-next plan c.args.self.now c.loop-leg.leg)
    ∙ ap (λ (n : ℕ). opened_upto plan n c.args.self.now) next)
