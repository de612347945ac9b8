-- The run reaches the leg, and then takes effect if it is to; the region table counts it as its blocks.
use Rattle.std.proofs.Common.{rules, ◌≡◌, ℕ, ◌+◌, ◌<◌, ◌≤◌, ◌^◌, ◌==◌, ◌&&◌, true, false, List, None, Some, is_none, length, max, refl, sym, ap, ◌∙◌, subst, arith, slice_get}
use Rattle.std.proofs.lemmas.Option.{same_Some}
use Rattle.nm_fanout.specs.declared.write_record.Record.{Record}
use Rattle.nm_fanout.specs.Record.{without_leg}
use Rattle.nm_fanout.specs.RecordData.{blocks_in}
use Rattle.nm_fanout.specs.Records.{IsAt, landed, reached, unlanded}
use Rattle.nm_fanout.specs.Runs.{flat, laid_out}
use Rattle.nm_fanout.proofs.FlatSteps.{flat-unlanded}
use Rattle.nm_regions.specs.Table.{RegionTable}
use Rattle.nm_replay.specs.Kept.{kept_with}
use Rattle.nm_rules.specs.Lost.{settled}
use Rattle.nm_rules.specs.RunPush.{after_push_run, push_run_cause, run_entries}
use Rattle.nm_rules.specs.Runs.{of_run}
use Rattle.nm_rules.specs.State.{StripeState, next_number, table}
use Rattle.nm_rules.proofs.SettledLemmas.{both_hold}
use Rattle.nm_store.specs.Counting.{LieInRegions, counting}
use Rattle.nm_store.specs.Inside.{AllFit, state_of}
use Rattle.nm_store.specs.Landing.{MayLand}
use Rattle.nm_store.proofs.ReachLemmas.{lands-counts, reaches}
use Rattle.nm_store.proofs.RunFitLemmas.{fit-landed, fit-lie, fit-reached, fit-words}
use Rattle.nm_store.proofs.RunNameLemmas.{place-at, place-some, push-owes, push-some, run-owes, run-there}
use Rattle.nm_store.proofs.FailoverLemmas.{absent, may-land}
use Rattle.nm_store.proofs.RunPushedLemmas.{pushes-land, pushes-stay}
use Rattle.nm_store.proofs.TableLemmas.{table-of}
use Rattle.nm_store.proofs.store.Store.reach.Goals as goal
use Rattle.nm_store.proofs.store.Store.reach.Goals.{then-lands, else-lands}

pub unwrap-place-requires : goal.unwrap-place-requires
unwrap-place-requires g c =
    let none : push_run_cause (state_of c.self.inside) c.args.ticket c.args.leg ≡ None = subst (λ (s : StripeState _). push_run_cause s c.args.ticket c.args.leg ≡ None) (sym c.self.view_is) c.requires.no_cause in
    place-some c.args.ticket c.self.inside.records c.find_near.result c.find_near.ensures.absent c.find_near.ensures.in_order.runs (push-some (state_of c.self.inside) c.args.ticket c.args.leg none)

pub reach_run-requires-clause-owed : goal.reach_run-requires-clause-owed
reach_run-requires-clause-owed g c x there =
    let old = state_of c.self.inside in
    let none : push_run_cause old c.args.ticket c.args.leg ≡ None = subst (λ (s : StripeState _). push_run_cause s c.args.ticket c.args.leg ≡ None) (sym c.self.view_is) c.requires.no_cause in
    let at = place-at c.args.ticket c.self.inside.records c.find_near.result c.unwrap-place.result c.find_near.ensures.found c.unwrap-place.ensures in
    let run = run-there c.args.ticket c.unwrap-place.result c.self.inside.records x c.find_near.ensures.in_order at there in
    run-owes c.args.leg x run.block (push-owes old c.args.ticket c.args.leg run.block.first none run.first)

pub reach_run-requires-clause-inside : goal.reach_run-requires-clause-inside
reach_run-requires-clause-inside g c =
    subst (λ (t : RegionTable). LieInRegions t.blocks t.region c.self.inside.records) (sym c.self.invariant.regions) (fit-lie c.self.inside.place c.self.inside.records c.self.invariant.runs)

pub land_run-requires-clause-place : goal.land_run-requires-clause-place
land_run-requires-clause-place g c =
    let rs = c.self.inside.records in
    let p = reaches c.unwrap-place.result c.args.leg rs c.at.result.now c.find_near.ensures.in_order c.at.ensures.found in
    rw (c.reach_run.ensures.records c.at.result.now.ticket p.at) p.within

pub land_run-requires-clause-may : goal.land_run-requires-clause-may
land_run-requires-clause-may g c r here =
    let old = state_of c.self.inside in
    let rs = c.self.inside.records in
    let x = c.at.result.now in
    let place = c.unwrap-place.result in
    let p = reaches place c.args.leg rs x c.find_near.ensures.in_order c.at.ensures.found in
    let list : c.reach_run.new.records ≡ reached x.ticket c.args.leg rs = c.reach_run.ensures.records x.ticket p.at in
    let same : without_leg c.args.leg x ≡ r = same_Some (without_leg c.args.leg x) r (sym p.after ∙ ap (λ (l : List Record). slice_get l place) (sym list) ∙ here) in
    let lands : ((c.args.leg == old.master) && is_none x.entry) ≡ true = sym c.lands_at-lands.ensures ∙ c.if-lands.true in
    let waits = absent x.entry (both_hold (c.args.leg == old.master) (is_none x.entry) lands).1 in
    let few : c.self.inside.place.blocks < 2 ^ 64 = search rules in
    let numbers : next_number old + unlanded old.records ≤ max (2 ^ 63) old.first = subst (λ (s : StripeState _). next_number s + unlanded s.records ≤ max (2 ^ 63) s.first) (sym c.self.view_is) c.requires.numbers in
    let number : old.first + c.total.result ≡ old.first + old.total = ap (λ (n : ℕ). old.first + n) c.total.ensures.value in
    let may = may-land old.first (old.first + c.total.result) old.total place rs x c.find_near.ensures.in_order (fit-words old.place rs few c.self.invariant.runs) c.at.ensures.found waits number
    (omega (arith, numbers, flat-unlanded rs)) in
    subst (λ (q : Record). MayLand q (old.first + c.total.result) old.total) same
    (record { numbers = may.numbers; total = may.total; tickets = may.tickets; blocks = may.blocks })

pub invariant_of-self : goal.invariant_of-self
invariant_of-self g c =
    let old = state_of c.self.inside in
    let rs = c.self.inside.records in
    let x = c.at.result.now in
    let place = c.unwrap-place.result in
    let n = old.first + c.total.result in
    let p = reaches place c.args.leg rs x c.find_near.ensures.in_order c.at.ensures.found in
    let list : c.reach_run.new.records ≡ reached x.ticket c.args.leg rs = c.reach_run.ensures.records x.ticket p.at in
    let now : List Record = landed x.ticket n (reached x.ticket c.args.leg rs) in
    let landing : c.land_run.new.records ≡ now = c.land_run.ensures.records x.ticket (subst (λ (l : List Record). IsAt x.ticket place l) (sym list) p.at_after) ∙ ap (λ (l : List Record). landed x.ticket n l) list in
    let is : c.reach_run.new.regions ≡ counting (flat now) (table old) = c.reach_run.ensures.counts
    ∙ ap (λ (l : List Record). counting (flat l) c.self.inside.regions) list
    ∙ sym (lands-counts place c.args.leg n rs x c.self.inside.regions c.find_near.ensures.in_order c.at.ensures.found)
    ∙ ap (λ (t : RegionTable). counting (flat now) t) c.self.invariant.regions in
    record {
      regions = table-of c.reach_run.new.regions (record old { records = flat now }) (flat c.land_run.new.records) is (ap (λ (l : List Record). flat l) landing);
      states = c.self.invariant.states;
      flags = ap (λ (t : RegionTable). length t.legs) is ∙ c.self.invariant.flags;
      chunk = c.self.invariant.chunk;
      runs = subst (λ (l : List Record). AllFit old.place l) (sym landing) (fit-landed old.place x.ticket n (reached x.ticket c.args.leg rs) (fit-reached old.place x.ticket c.args.leg rs c.self.invariant.runs));
    }

pub invariant_of-self-else-lands : goal.invariant_of-self-else-lands
invariant_of-self-else-lands g c =
    let old = state_of c.self.inside in
    let rs = c.self.inside.records in
    let x = c.at.result.now in
    let p = reaches c.unwrap-place.result c.args.leg rs x c.find_near.ensures.in_order c.at.ensures.found in
    let now : List Record = reached x.ticket c.args.leg rs in
    let list : c.reach_run.new.records ≡ now = c.reach_run.ensures.records x.ticket p.at in
    let is : c.reach_run.new.regions ≡ counting (flat now) (table old) = c.reach_run.ensures.counts
    ∙ ap (λ (l : List Record). counting (flat l) c.self.inside.regions) list
    ∙ ap (λ (t : RegionTable). counting (flat now) t) c.self.invariant.regions in
    record {
      regions = table-of c.reach_run.new.regions (record old { records = flat now }) (flat c.reach_run.new.records) is (ap (λ (l : List Record). flat l) list);
      states = c.self.invariant.states;
      flags = ap (λ (t : RegionTable). length t.legs) is ∙ c.self.invariant.flags;
      chunk = c.self.invariant.chunk;
      runs = subst (λ (l : List Record). AllFit old.place l) (sym list) (fit-reached old.place x.ticket c.args.leg rs c.self.invariant.runs);
    }

pub returns : goal.returns
returns g c =
    let old = state_of c.self.inside in
    let rs = c.self.inside.records in
    let x = c.at.result.now in
    let place = c.unwrap-place.result in
    let leg = c.args.leg in
    let y = without_leg leg x in
    let p = reaches place leg rs x c.find_near.ensures.in_order c.at.ensures.found in
    let at = place-at c.args.ticket rs c.find_near.result place c.find_near.ensures.found c.unwrap-place.ensures in
    let run = run-there c.args.ticket place rs x c.find_near.ensures.in_order at c.at.ensures.found in
    let list : c.reach_run.new.records ≡ reached x.ticket leg rs = c.reach_run.ensures.records x.ticket p.at in
    let named : after_push_run old old.legs (of_run x.ticket old.records) leg ≡ after_push_run c.args.self.now c.args.self.now.legs (of_run c.args.ticket c.args.self.now.records) leg =
    ap (λ (t : ℕ). after_push_run old old.legs (of_run t old.records) leg) run.ticket
    ∙ ap (λ (s : StripeState _). after_push_run s s.legs (of_run c.args.ticket s.records) leg) c.self.view_is in
    elim c.if-lands.branch [
      | then-lands w ↦
          let n = next_number old in
          let lands : ((leg == old.master) && is_none x.entry) ≡ true = sym c.lands_at-lands.ensures ∙ w.if-lands.true in
          let number : old.first + w.total.result ≡ n = ap (λ (k : ℕ). old.first + k) w.total.ensures.value in
          let records : w.land_run.new.records ≡ landed x.ticket n (reached x.ticket leg rs) = w.land_run.ensures.records x.ticket (subst (λ (l : List Record). IsAt x.ticket place l) (sym list) p.at_after)
          ∙ ap (λ (l : List Record). landed x.ticket (old.first + w.total.result) l) list ∙ ap (λ (k : ℕ). landed x.ticket k (reached x.ticket leg rs)) number in
          let here : slice_get c.reach_run.new.records place ≡ Some y = ap (λ (l : List Record). slice_get l place) list ∙ p.after in
          let entries : w.land_run.new.kept.last ≡ kept_with (run_entries n (laid_out y)) old.kept = w.land_run.ensures.last y here ∙ ap (λ (k : ℕ). kept_with (run_entries k (laid_out y)) old.kept) number in
          let total : w.land_run.new.kept.total ≡ old.total + blocks_in x.data = w.land_run.ensures.total y here in
          let now : c.if-lands.self ≡ record old { records = flat (landed x.ticket n (reached x.ticket leg rs)); kept = kept_with (run_entries n (laid_out y)) old.kept; total = old.total + blocks_in x.data } = w.self-is ∙ rw (c.reach_run.ensures.counts, records, entries, total) refl in
          c.settle.ensures ∙ ap (λ (s : StripeState _). settled s) now ∙ pushes-land old rs refl x.ticket place leg x c.find_near.ensures.in_order p.at c.at.ensures.found lands ∙ named
      | else-lands w ↦
          let stays : ((leg == old.master) && is_none x.entry) ≡ false = sym c.lands_at-lands.ensures ∙ w.if-lands.false in
          let now : c.if-lands.self ≡ record old { records = flat (reached x.ticket leg rs) } = w.self-is ∙ rw (c.reach_run.ensures.counts, list) refl in
          c.settle.ensures ∙ ap (λ (s : StripeState _). settled s) now ∙ pushes-stay old rs refl x.ticket place leg x c.find_near.ensures.in_order p.at c.at.ensures.found stays ∙ named
    ]
