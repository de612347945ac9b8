-- The runs take effect as their blocks do, and the region table counts them as before.
use Rattle.std.proofs.Common.{rules, ◌≡◌, ℕ, ◌+◌, ◌<◌, ◌≤◌, ◌^◌, List, max, sym, ap, ◌∙◌, subst, arith}
use Rattle.nm_fanout.specs.declared.write_record.Record.{Record}
use Rattle.nm_fanout.specs.Records.{unlanded}
use Rattle.nm_fanout.specs.Runs.{flat}
use Rattle.nm_fanout.proofs.FlatSteps.{flat-landed_all, flat-unlanded}
use Rattle.nm_rules.specs.Lost.{landed_all}
use Rattle.nm_rules.specs.State.{StripeState, next_number, table}
use Rattle.nm_store.specs.Counting.{counting}
use Rattle.nm_store.specs.Inside.{AllFit, state_of}
use Rattle.nm_store.proofs.FailoverLemmas.{counting-landed}
use Rattle.nm_store.proofs.RunFitLemmas.{fit-landed_all, fit-words}
use Rattle.nm_store.proofs.store.Store.fail_over.Goals as goal

pub land_all-requires-clause-numbers : goal.land_all-requires-clause-numbers
land_all-requires-clause-numbers g c =
    let old = state_of c.self.inside in
    let numbers : next_number old + unlanded old.records ≤ max (2 ^ 63) old.first = subst (λ (s : StripeState _). next_number s + unlanded s.records ≤ max (2 ^ 63) s.first) (sym c.self.view_is) c.requires.numbers in
    omega (arith, numbers, flat-unlanded c.self.inside.records)

pub land_all-requires-clause-words : goal.land_all-requires-clause-words
land_all-requires-clause-words g c =
    let few : c.self.inside.place.blocks < 2 ^ 64 = search rules in
    fit-words c.self.inside.place c.self.inside.records few c.self.invariant.runs

pub invariant_of-self : goal.invariant_of-self
invariant_of-self g c =
    let old = state_of c.self.inside in
    let list : flat c.land_all.new.records ≡ landed_all (next_number old) old.records = ap (λ (l : List Record). flat l) c.land_all.ensures.records ∙ flat-landed_all (next_number old) c.self.inside.records in
    record {
      regions = c.self.invariant.regions ∙ sym (ap (λ (l : List Record). counting l (table old)) list ∙ counting-landed (next_number old) old.records (table old));
      states = c.self.invariant.states;
      flags = c.self.invariant.flags;
      chunk = c.self.invariant.chunk;
      runs = subst (λ (l : List Record). AllFit old.place l) (sym c.land_all.ensures.records) (fit-landed_all old.place (next_number old) c.self.inside.records c.self.invariant.runs);
    }

pub returns : goal.returns
returns g c =
    let old = state_of c.self.inside in
    let list : flat c.land_all.new.records ≡ landed_all (next_number old) old.records = ap (λ (l : List Record). flat l) c.land_all.ensures.records ∙ flat-landed_all (next_number old) c.self.inside.records in
    let total : c.land_all.new.kept.total ≡ old.total + unlanded old.records = c.land_all.ensures.total ∙ ap (λ (n : ℕ). old.total + n) (sym (flat-unlanded c.self.inside.records)) in
    rw (list, c.land_all.ensures.last, total, ← c.self.view_is) (search rules)
