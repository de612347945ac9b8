-- The region table after a begin counts the blocks of the new run, and a block has 512 bytes.
use Rattle.std.proofs.Common.{◌≡◌, ℕ, ◌+◌, ◌*◌, ◌<◌, ◌≤◌, ◌^◌, Bool, List, length, map, refl, sym, ap, ◌∙◌, subst, arith}
use Rattle.std.proofs.lemmas.List.{length-map}
use Rattle.nm_fanout.specs.declared.record_data.RecordData.{RecordData}
use Rattle.nm_fanout.specs.declared.write_record.Record.{Record}
use Rattle.nm_fanout.specs.Data.{data_blocks}
use Rattle.nm_fanout.specs.Laying.{data_over}
use Rattle.nm_fanout.specs.Record.{begun as begun_record}
use Rattle.nm_fanout.specs.RecordData.{blocks_in}
use Rattle.nm_fanout.specs.Records.{AllBelow, runs_in, with_new}
use Rattle.nm_fanout.specs.Runs.{each_block, flat}
use Rattle.nm_fanout.proofs.DataLemmas.{blocks-data_over}
use Rattle.nm_fanout.proofs.Laying.{length-each}
use Rattle.nm_regions.specs.LegFlags.{marked_if_out}
use Rattle.nm_regions.specs.Table.{RegionTable, region_of, targets}
use Rattle.nm_regions.specs.Changes.{begun_run}
use Rattle.nm_rules.specs.Read.{current_legs}
use Rattle.nm_rules.specs.RunBegin.{after_begin_run}
use Rattle.nm_rules.specs.Runs.{FitsRun}
use Rattle.nm_rules.specs.State.{StripeState, table}
use Rattle.nm_rules.proofs.RunFlatLemmas.{flat-begun}
use Rattle.nm_store.specs.Inside.{AllFit, state_of}
use Rattle.nm_store.proofs.BeginningLemmas.{begun-counts, begun-few, flat-end, flat-few}
use Rattle.nm_store.proofs.RunFitLemmas.{fit-push}
use Rattle.nm_store.proofs.StoreLemmas.{runs-flat}
use Rattle.nm_store.proofs.TableLemmas.{table-of}
use Rattle.nm_store.proofs.store.Store.begin.Goals as goal

pub begin-requires-clause-few : goal.begin-requires-clause-few
begin-requires-clause-few g c =
    let old = state_of c.self.inside in
    let all = c.is_sound.ensures.in_order.runs in
    let bytes : RecordData = data_over c.args.data c.args.base.now in
    let ds : List RecordData = each_block bytes in
    let long : length ds ≡ data_blocks c.args.data = length-each bytes ∙ blocks-data_over c.args.data c.args.base.now in
    let run : FitsRun old.place c.args.block (data_blocks c.args.data) = subst (λ (s : StripeState _). FitsRun s.place c.args.block (data_blocks c.args.data)) (sym c.self.view_is) c.requires.run in
    let fits : FitsRun old.place c.args.block (length ds) = subst (λ (n : ℕ). FitsRun old.place c.args.block n) (sym long) run in
    let runs : runs_in old.records < 256 = subst (λ (s : StripeState _). runs_in s.records < 256) (sym c.self.view_is) c.requires.few in
    let few : length old.records ≤ 128 * 255 = omega (arith, runs, runs-flat c.self.inside.records all, flat-few c.self.inside.records all) in
    rw (c.self.invariant.regions, c.blocks-count.ensures.blocks, ← long) (begun-few old c.args.block ds fits few)

pub begin-requires-2-clause-few : goal.begin-requires-2-clause-few
begin-requires-2-clause-few g c =
    let old = state_of c.self.inside in
    let runs : runs_in old.records < 256 = subst (λ (s : StripeState _). runs_in s.records < 256) (sym c.self.view_is) c.requires.few in
    omega (arith, runs, runs-flat c.self.inside.records c.is_sound.ensures.in_order.runs)

pub begin-requires-2-clause-next : goal.begin-requires-2-clause-next
begin-requires-2-clause-next g c =
    let old = state_of c.self.inside in
    flat-end old.tickets c.self.inside.records c.is_sound.ensures.in_order.runs (subst (λ (s : StripeState _). AllBelow s.tickets s.records) (sym c.self.view_is) c.requires.next)

pub invariant_of-self : goal.invariant_of-self
invariant_of-self g c =
    let old = state_of c.self.inside in
    let bytes : RecordData = data_over c.args.data c.args.base.now in
    let ds : List RecordData = each_block bytes in
    let blocks : blocks_in bytes ≡ data_blocks c.args.data = blocks-data_over c.args.data c.args.base.now in
    let long : length ds ≡ data_blocks c.args.data = length-each bytes ∙ blocks in
    let run : FitsRun old.place c.args.block (data_blocks c.args.data) = subst (λ (s : StripeState _). FitsRun s.place c.args.block (data_blocks c.args.data)) (sym c.self.view_is) c.requires.run in
    let fits : FitsRun old.place c.args.block (length ds) = subst (λ (n : ℕ). FitsRun old.place c.args.block n) (sym long) run in
    let current : 0 < length (current_legs c.args.block old) = subst (λ (s : StripeState _). 0 < length (current_legs c.args.block s)) (sym c.self.view_is) c.requires.current in
    let words : old.tickets + data_blocks c.args.data < 2 ^ 64 = subst (λ (s : StripeState _). s.tickets + data_blocks c.args.data < 2 ^ 64) (sym c.self.view_is) c.requires.more in
    let owed : c.targets-owed.result ≡ targets c.args.block (table old) = c.targets-owed.ensures.targets ∙ ap (λ (t : RegionTable). targets c.args.block t) c.self.invariant.regions in
    let list : flat c.begin-2.new.self ≡ (after_begin_run old c.args.block ds).records = ap (λ (rs : List Record). flat rs) (c.begin-2.ensures ∙ ap (λ (os : List Bool). with_new (begun_record old.tickets old.tickets c.args.block bytes os) c.self.inside.records) owed) ∙ flat-begun c.self.inside.records old.tickets c.args.block bytes (targets c.args.block (table old)) in
    let counted : c.begin.new.self ≡ table (after_begin_run old c.args.block ds) = c.begin.ensures ∙ ap (λ (n : ℕ). begun_run c.args.block n c.self.inside.regions) (c.blocks-count.ensures.blocks ∙ sym long) ∙ ap (λ (t : RegionTable). begun_run c.args.block (length ds) t) c.self.invariant.regions ∙ begun-counts old c.args.block ds fits current in
    let legs : length c.begin.new.self.legs ≡ length old.legs = ap (λ (t : RegionTable). length t.legs) c.begin.ensures ∙ length-map c.self.inside.regions.legs _ ∙ c.self.invariant.flags in
    let r : Record = begun_record old.tickets old.tickets c.args.block bytes c.targets-owed.result in
    record {
      regions = table-of c.begin.new.self (after_begin_run old c.args.block ds) (flat c.begin-2.new.self) counted list;
      states = c.self.invariant.states;
      flags = legs;
      chunk = c.self.invariant.chunk;
      runs = subst (λ (rs : List Record). AllFit old.place rs) (sym c.begin-2.ensures) (fit-push old.place r c.self.inside.records c.self.invariant.runs (subst (λ (n : ℕ). FitsRun old.place c.args.block n) (sym blocks) run) (omega (arith, words, blocks)));
    }

pub returns-clause-filled : goal.returns-clause-filled
returns-clause-filled g c = sym c.block_len-whole.ensures.len ∙ c.block_len-whole.ensures.whole

pub returns-clause-begun : goal.returns-clause-begun
returns-clause-begun g c =
    let old = state_of c.self.inside in
    let bytes : RecordData = data_over c.args.data c.args.base.now in
    let ds : List RecordData = each_block bytes in
    let long : length ds ≡ data_blocks c.args.data = length-each bytes ∙ blocks-data_over c.args.data c.args.base.now in
    let owed : c.targets-owed.result ≡ targets c.args.block (table old) = c.targets-owed.ensures.targets ∙ ap (λ (t : RegionTable). targets c.args.block t) c.self.invariant.regions in
    let list : flat c.begin-2.new.self ≡ (after_begin_run old c.args.block ds).records = ap (λ (rs : List Record). flat rs) (c.begin-2.ensures ∙ ap (λ (os : List Bool). with_new (begun_record old.tickets old.tickets c.args.block bytes os) c.self.inside.records) owed) ∙ flat-begun c.self.inside.records old.tickets c.args.block bytes (targets c.args.block (table old)) in
    let table_is : c.begin.new.self ≡ begun_run c.args.block c.blocks-count.result (table old) = c.begin.ensures ∙ ap (λ (t : RegionTable). begun_run c.args.block c.blocks-count.result t) c.self.invariant.regions in
    let flags : c.begin.new.self.legs ≡ map (marked_if_out (region_of c.args.block (table old))) old.flags = ap (λ (t : RegionTable). t.legs) table_is in
    let copy : c.begin.new.self.copy ≡ old.copy = ap (λ (t : RegionTable). t.copy) c.begin.ensures in
    let tickets : c.self.inside.tickets + c.blocks-count.result ≡ old.tickets + length ds = ap (λ (n : ℕ). old.tickets + n) (c.blocks-count.ensures.blocks ∙ sym long) in
    rw (list, flags, copy, tickets, ← c.self.view_is) refl
