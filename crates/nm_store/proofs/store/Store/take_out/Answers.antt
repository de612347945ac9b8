-- The leg leaves the runs as it leaves their blocks, and no run that owed only it is counted.
use Rattle.std.proofs.Common.{rules, ◌≡◌, List, sym, ap, ◌∙◌, subst}
use Rattle.nm_fanout.specs.declared.write_record.Record.{Record}
use Rattle.nm_fanout.specs.Records.{left_by}
use Rattle.nm_fanout.specs.Runs.{flat}
use Rattle.nm_fanout.proofs.FlatSteps.{flat-left_by}
use Rattle.nm_regions.specs.Changes.{gone_out}
use Rattle.nm_regions.specs.Table.{RegionTable}
use Rattle.nm_rules.specs.State.{StripeState, table}
use Rattle.nm_store.specs.Counting.{LieInRegions, counting}
use Rattle.nm_store.specs.Inside.{AllFit, state_of}
use Rattle.nm_store.proofs.RunFitLemmas.{fit-left, fit-lie}
use Rattle.nm_store.proofs.TableLemmas.{table-of}
use Rattle.nm_store.proofs.store.Store.take_out.Goals as goal

pub finish_without-requires-clause-inside : goal.finish_without-requires-clause-inside
finish_without-requires-clause-inside g c =
    let old = state_of c.self.inside in
    let gone : c.go_out.new.self ≡ gone_out c.args.leg (table old) = c.go_out.ensures ∙ ap (λ (t : RegionTable). gone_out c.args.leg t) c.self.invariant.regions in
    subst (λ (t : RegionTable). LieInRegions t.blocks t.region c.self.inside.records) (sym gone) (fit-lie old.place c.self.inside.records c.self.invariant.runs)

pub invariant_of-self : goal.invariant_of-self
invariant_of-self g c =
    let old = state_of c.self.inside in
    let rs = c.self.inside.records in
    let gone : c.go_out.new.self ≡ gone_out c.args.leg (table old) = c.go_out.ensures ∙ ap (λ (t : RegionTable). gone_out c.args.leg t) c.self.invariant.regions in
    let now : StripeState _ = record old { flags = (gone_out c.args.leg (table old)).legs; copy = (gone_out c.args.leg (table old)).copy; records = flat (left_by c.args.leg rs) } in
    let is : c.finish_without.new.regions ≡ table now = c.finish_without.ensures ∙ ap (λ (t : RegionTable). counting (flat (left_by c.args.leg rs)) t) gone in
    record {
      regions = table-of c.finish_without.new.regions now (flat c.leave.new.self) is (ap (λ (l : List Record). flat l) c.leave.ensures);
      states = search rules;
      flags = search rules;
      chunk = search rules;
      runs = subst (λ (l : List Record). AllFit old.place l) (sym c.leave.ensures) (fit-left old.place c.args.leg rs c.self.invariant.runs);
    }

pub returns : goal.returns
returns g c =
    let old = state_of c.self.inside in
    let rs = c.self.inside.records in
    let gone : c.go_out.new.self ≡ gone_out c.args.leg (table old) = c.go_out.ensures ∙ ap (λ (t : RegionTable). gone_out c.args.leg t) c.self.invariant.regions in
    let is : c.finish_without.new.regions ≡ counting (flat (left_by c.args.leg rs)) (gone_out c.args.leg (table old)) = c.finish_without.ensures ∙ ap (λ (t : RegionTable). counting (flat (left_by c.args.leg rs)) t) gone in
    let list : flat c.leave.new.self ≡ left_by c.args.leg old.records = ap (λ (l : List Record). flat l) c.leave.ensures ∙ flat-left_by c.args.leg rs in
    rw (is, list, ← c.self.view_is) (search rules)
