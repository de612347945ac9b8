-- What was opened, with all but the master set aside, is what a comparison begins with.
use Rattle.std.proofs.Common.{rules, ◌≡◌, ap, sym, subst, ◌∙◌, slice_set}
use Rattle.nm_choice.specs.declared.leg_state.LegState.TheVariants.{InSync}
use Rattle.nm_leg.specs.Leg.{leg_type}
use Rattle.nm_regions.specs.Changes.{all_set_aside, attached}
use Rattle.nm_rules.specs.Comparing.{comparing}
use Rattle.nm_rules.specs.RunComparing.{FailsOnMasterRun, OpensComparedRuns}
use Rattle.nm_rules.specs.State.{StripeState, table}
use Rattle.nm_store.specs.Comparing.{ComparesAll, IsComparing}
use Rattle.nm_store.proofs.ComparingLemmas.{comparing-is, starts-comparing}
use Rattle.nm_store.proofs.store.Store.open_compared.Goals as goal

pub compare_runs-requires-clause-comparing : goal.compare_runs-requires-clause-comparing
compare_runs-requires-clause-comparing g c =
    let model = g.L.LegPart.model in
    subst (λ (s : StripeState _). IsComparing model s)
    (sym (c.start_comparing.ensures ∙ ap (λ (s : StripeState _). let x : StripeState _ = record s { states = slice_set s.states c.args.master InSync; flags = (attached c.args.master (all_set_aside (table s))).legs; master = c.args.master } in x) c.in-Ok.ensures.opened
    ∙ comparing-is c.args.place c.args.legs.items c.args.master c.args.first c.args.policy c.requires.master))
    (starts-comparing c.args.place c.args.legs.items c.args.master c.args.first c.args.policy c.requires.master model c.requires.lengths)

pub returns-then-is_err-clause-handed_back : goal.returns-then-is_err-clause-handed_back
returns-then-is_err-clause-handed_back g c =
    let type = leg_type g.L.LegPart.model g.L.LegPart.honest in
    let start : c.start_comparing.new.self ≡ comparing c.args.place c.args.legs.items c.args.master c.args.first c.args.policy =
    c.start_comparing.ensures ∙ ap (λ (s : StripeState _). let x : StripeState _ = record s { states = slice_set s.states c.args.master InSync; flags = (attached c.args.master (all_set_aside (table s))).legs; master = c.args.master } in x) c.in-Ok.ensures.opened
    ∙ comparing-is c.args.place c.args.legs.items c.args.master c.args.first c.args.policy c.requires.master in
    let failed : FailsOnMasterRun type c.start_comparing.new.self c.compare_runs.new.self.legs = search rules in
    rw c.into_legs.ensures (rw start at failed)

pub returns-clause-opened : goal.returns-clause-opened
returns-clause-opened g c =
    let type = leg_type g.L.LegPart.model g.L.LegPart.honest in
    let start : c.start_comparing.new.self ≡ comparing c.args.place c.args.legs.items c.args.master c.args.first c.args.policy =
    c.start_comparing.ensures ∙ ap (λ (s : StripeState _). let x : StripeState _ = record s { states = slice_set s.states c.args.master InSync; flags = (attached c.args.master (all_set_aside (table s))).legs; master = c.args.master } in x) c.in-Ok.ensures.opened
    ∙ comparing-is c.args.place c.args.legs.items c.args.master c.args.first c.args.policy c.requires.master in
    let went_well : ComparesAll type c.start_comparing.new.self c.compare_runs.new.self = search rules in
    subst (λ (s : StripeState _). OpensComparedRuns type s c.end_comparing.new.self) start
    (record { counts = went_well.counts; all = went_well.all; end = c.compare_runs.new.self; compares = went_well.compares; opens = c.end_comparing.ensures })
