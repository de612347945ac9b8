-- What was opened, with all but the master set aside, opens leg by leg as the plan says.
use Rattle.std.proofs.Common.{◌≡◌, length, ap, sym, subst, ◌∙◌, slice_set}
use Rattle.nm_choice.specs.declared.leg_state.LegState.TheVariants.{InSync}
use Rattle.nm_regions.specs.Changes.{all_set_aside, attached}
use Rattle.nm_rules.specs.Comparing.{comparing}
use Rattle.nm_rules.specs.Reopening.{OpeningPlan, plan_of}
use Rattle.nm_rules.specs.State.{StripeState, table}
use Rattle.nm_store.specs.Reopening.{AreAside, opened_upto}
use Rattle.nm_store.proofs.ComparingLemmas.{comparing-is}
use Rattle.nm_store.proofs.ReopeningLemmas.{opened-planned, starts-aside}
use Rattle.nm_store.proofs.store.Store.open_marked.Goals as goal

pub open_legs-requires-clause-aside : goal.open_legs-requires-clause-aside
open_legs-requires-clause-aside g c =
    let plan : OpeningPlan = plan_of c.args.plan.now in
    let start : c.start_comparing.new.self ≡ comparing c.args.place c.args.legs.items plan.master c.args.first c.args.policy =
    c.start_comparing.ensures ∙ ap (λ (s : StripeState _). let x : StripeState _ = record s { states = slice_set s.states plan.master InSync; flags = (attached plan.master (all_set_aside (table s))).legs; master = plan.master } in x) c.in_ok-store.ensures.opened
    ∙ comparing-is c.args.place c.args.legs.items plan.master c.args.first c.args.policy c.requires.master in
    subst (λ (s : StripeState _). AreAside s) (sym start) (starts-aside c.args.place c.args.legs.items plan c.args.first c.args.policy c.requires.master c.requires.each)

pub returns-clause-opened : goal.returns-clause-opened
returns-clause-opened g c =
    let plan : OpeningPlan = plan_of c.args.plan.now in
    let start : c.start_comparing.new.self ≡ comparing c.args.place c.args.legs.items plan.master c.args.first c.args.policy =
    c.start_comparing.ensures ∙ ap (λ (s : StripeState _). let x : StripeState _ = record s { states = slice_set s.states plan.master InSync; flags = (attached plan.master (all_set_aside (table s))).legs; master = plan.master } in x) c.in_ok-store.ensures.opened
    ∙ comparing-is c.args.place c.args.legs.items plan.master c.args.first c.args.policy c.requires.master in
    c.open_legs.ensures
    ∙ ap (λ (s : StripeState _). opened_upto (record plan { master = s.master }) (length s.legs) s) start
    ∙ opened-planned c.args.place c.args.legs.items plan c.args.first c.args.policy c.requires.master c.requires.each
