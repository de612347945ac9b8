-- One run takes effect, and the others do after it.
use Rattle.std.proofs.Common.{rules, ◌≡◌, ◌+◌, ◌≤◌, ◌^◌, ℕ, List, ◌++◌, length, sym, ap, ◌∙◌, subst, arith}
use Rattle.nm_replay.proofs.Dropping.{length-last_kept}
use Rattle.nm_fanout.specs.declared.write_record.Record.{Record}
use Rattle.nm_fanout.specs.RecordData.{blocks_in}
use Rattle.nm_fanout.specs.Records.{landed}
use Rattle.nm_fanout.specs.Runs.{flat, laid_out, runs_landed, unlanded_blocks}
use Rattle.nm_fanout.proofs.RunOrder.{run-at}
use Rattle.nm_replay.specs.Kept.{KeptEntries, kept_with}
use Rattle.nm_rules.specs.Lost.{landing}
use Rattle.nm_rules.specs.RunPush.{run_entries}
use Rattle.nm_store.specs.Landing.{AreWords}
use Rattle.nm_store.proofs.RunFitLemmas.{words-landed}
use Rattle.nm_store.proofs.FailoverLemmas.{all-runs-landed, may-land, run-lands-next}
use Rattle.nm_store.proofs.failing_over.land_all.Goals as goal

pub land_run-requires-clause-may : goal.land_run-requires-clause-may
land_run-requires-clause-may c r there =
    let rs = c.loop-place.records in
    let next = run-lands-next c.loop-place.number c.in-Some.place rs r c.loop-place.kept.last c.at.ensures.in_order (search rules) there in
    may-land c.args.first c.loop-place.number c.loop-place.kept.total c.in-Some.place rs r c.at.ensures.in_order c.loop-place.invariant.words there next.none c.loop-place.invariant.number
    (omega (arith, c.requires.numbers, c.loop-place.invariant.total))

pub overflow_add-number-in-Some : goal.overflow_add-number-in-Some
overflow_add-number-in-Some c =
    let rs = c.loop-place.records in
    let r = c.at.result.now in
    let next = run-lands-next c.loop-place.number c.in-Some.place rs r c.loop-place.kept.last c.at.ensures.in_order (search rules) c.at.ensures.found in
    let may = may-land c.args.first c.loop-place.number c.loop-place.kept.total c.in-Some.place rs r c.at.ensures.in_order c.loop-place.invariant.words c.at.ensures.found next.none c.loop-place.invariant.number
    (omega (arith, c.requires.numbers, c.loop-place.invariant.total)) in
    let numbers = may.numbers in
    let bound : c.loop-place.number + c.blocks-blocks.result ≤ 2 ^ 63 = omega (arith, c.blocks-blocks.ensures, numbers) in
    search (rules, bound)

pub loop-place-smaller : goal.loop-place-smaller
loop-place-smaller c =
    let rs = c.loop-place.records in
    let r = c.at.result.now in
    let next = run-lands-next c.loop-place.number c.in-Some.place rs r c.loop-place.kept.last c.at.ensures.in_order (search rules) c.at.ensures.found in
    let records : c.land_run.new.records ≡ landed r.ticket c.loop-place.number rs = c.land_run.ensures.records r.ticket next.at in
    let some = (run-at rs c.in-Some.place r c.at.ensures.in_order.runs c.at.ensures.found).filled.some in
    omega (arith, ap (λ (l : List Record). unlanded_blocks l) records, next.count, some)

pub loop-place-preserved : goal.loop-place-preserved
loop-place-preserved c =
    let rs = c.loop-place.records in
    let r = c.at.result.now in
    let n = c.loop-place.number in
    let old = c.loop-place.kept.last in
    let next = run-lands-next n c.in-Some.place rs r old c.at.ensures.in_order (search rules) c.at.ensures.found in
    let records : c.land_run.new.records ≡ landed r.ticket n rs = c.land_run.ensures.records r.ticket next.at in
    let entries : c.land_run.new.kept.last ≡ kept_with (run_entries n (laid_out r)) old = c.land_run.ensures.last r c.at.ensures.found in
    let total : c.land_run.new.kept.total ≡ c.loop-place.kept.total + blocks_in r.data = c.land_run.ensures.total r c.at.ensures.found in
    record {
      number = omega (arith, c.loop-place.invariant.number, total, c.blocks-blocks.ensures);
      few = omega (
        arith,
        ap (λ (k : KeptEntries). length k.entries) entries,
        ap (λ (k : KeptEntries). k.most) entries,
        length-last_kept old.most (old.entries ++ run_entries n (laid_out r)),
      );
      words = subst (λ (l : List Record). AreWords l) (sym records) (words-landed r.ticket n rs c.loop-place.invariant.words);
      records = ap (λ (k : ℕ). runs_landed (n + k) c.land_run.new.records) c.blocks-blocks.ensures
          ∙ ap (λ (l : List Record). runs_landed (n + blocks_in r.data) l) records ∙ next.records ∙ c.loop-place.invariant.records;
      last = ap (λ (k : ℕ). kept_with (landing (n + k) (flat c.land_run.new.records)) c.land_run.new.kept.last) c.blocks-blocks.ensures
          ∙ ap (λ (l : List Record). kept_with (landing (n + blocks_in r.data) (flat l)) c.land_run.new.kept.last) records
          ∙ ap (λ (k : KeptEntries). kept_with (landing (n + blocks_in r.data) (flat (landed r.ticket n rs))) k) entries
          ∙ next.entries ∙ c.loop-place.invariant.last;
      total = omega (arith, total, ap (λ (l : List Record). unlanded_blocks l) records, next.count, c.loop-place.invariant.total);
    }

pub returns-clause-records : goal.returns-clause-records
returns-clause-records c =
    let done = all-runs-landed c.loop-place.number c.loop-place.records c.loop-place.kept.last c.loop-place.invariant.few (search rules) in
    sym done.0 ∙ c.loop-place.invariant.records

pub returns-clause-last : goal.returns-clause-last
returns-clause-last c =
    let done = all-runs-landed c.loop-place.number c.loop-place.records c.loop-place.kept.last c.loop-place.invariant.few (search rules) in
    sym done.1 ∙ c.loop-place.invariant.last

pub returns-clause-total : goal.returns-clause-total
returns-clause-total c =
    let done = all-runs-landed c.loop-place.number c.loop-place.records c.loop-place.kept.last c.loop-place.invariant.few (search rules) in
    omega (arith, done.2, c.loop-place.invariant.total)
