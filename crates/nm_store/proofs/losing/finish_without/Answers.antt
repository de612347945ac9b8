-- One run more is without the leg.
use Rattle.std.proofs.Common.{rules, ℕ, ◌<◌, ◌≤◌, List, length, sym, ap, ◌∙◌, subst, arith}
use Rattle.nm_fanout.specs.declared.write_record.Record.{Record}
use Rattle.nm_fanout.specs.Record.{without_leg}
use Rattle.nm_fanout.specs.RecordData.{blocks_in}
use Rattle.nm_fanout.specs.Runs.{flat}
use Rattle.nm_fanout.proofs.Leaving.{mapped-all, mapped_to}
use Rattle.nm_fanout.proofs.RunOrder.{run-at}
use Rattle.nm_regions.specs.Changes.{finished_run}
use Rattle.nm_regions.specs.Table.{RegionTable, region_of, writes_in}
use Rattle.nm_store.specs.Counting.{counting}
use Rattle.nm_store.proofs.LosingLemmas.{goes-on-table, leaves-only, next-leaves}
use Rattle.nm_store.proofs.ReachLemmas.{counted-before, counts-finish}
use Rattle.nm_store.proofs.RunFitLemmas.{lie-at}
use Rattle.nm_store.proofs.losing.finish_without.Goals as goal
use Rattle.nm_store.proofs.losing.finish_without.Goals.{then-owes_only, else-owes_only}

pub overflow_cast-blocks : goal.overflow_cast-blocks
overflow_cast-blocks c =
    let most = (run-at c.args.records.now c.loop-place.place c.at-run.result.now c.at-run.ensures.in_order.runs c.at-run.ensures.found).filled.most in
    let few : c.blocks-then-owes_only.result ≤ 128 = omega (arith, c.blocks-then-owes_only.ensures, most) in
    search (rules, few)

pub finish-requires-clause-block : goal.finish-requires-clause-block
finish-requires-clause-block c =
    let x = c.at-run.result.now in
    let t = c.args.regions.now in
    let some = (run-at c.args.records.now c.loop-place.place x c.at-run.ensures.in_order.runs c.at-run.ensures.found).filled.some in
    let lies = lie-at t.blocks t.region c.loop-place.place c.args.records.now x c.requires.inside c.at-run.ensures.found in
    omega (arith, some, lies.0, ap (λ (u : RegionTable). u.blocks) c.loop-place.invariant)

pub finish-requires-clause-some : goal.finish-requires-clause-some
finish-requires-clause-some c =
    let x = c.at-run.result.now in
    let t = c.args.regions.now in
    let rs = c.args.records.now in
    let run = run-at rs c.loop-place.place x c.at-run.ensures.in_order.runs c.at-run.ensures.found in
    let f = leaves-only c.args.leg c.loop-place.place rs x t run c.at-run.ensures.found (lie-at t.blocks t.region c.loop-place.place rs x c.requires.inside c.at-run.ensures.found) (search rules) in
    let before = counted-before c.loop-place.place (mapped_to (without_leg c.args.leg) c.loop-place.place rs) x (without_leg c.args.leg x) t f in
    let all : blocks_in x.data ≤ writes_in (region_of x.block c.loop-place.regions) c.loop-place.regions =
    subst (λ (u : RegionTable). blocks_in x.data ≤ writes_in (region_of x.block u) u) (sym c.loop-place.invariant) before in
    omega (arith, c.blocks-then-owes_only.ensures, all)

pub loop-place-preserved : goal.loop-place-preserved
loop-place-preserved c =
    let x = c.at-run.result.now in
    let t = c.args.regions.now in
    let rs = c.args.records.now in
    let lt : c.loop-place.place < length rs = omega (arith, c.loop-place-test.true, c.len-place-end.ensures.len) in
    let run = run-at rs c.loop-place.place x c.at-run.ensures.in_order.runs c.at-run.ensures.found in
    let next = next-leaves c.args.leg c.loop-place.place rs x lt c.at-run.ensures.found in
    elim c.if-owes_only.branch [
      | then-owes_only w ↦
          let f = leaves-only c.args.leg c.loop-place.place rs x t run c.at-run.ensures.found (lie-at t.blocks t.region c.loop-place.place rs x c.requires.inside c.at-run.ensures.found) (search rules) in
          w.regions-is ∙ w.finish.ensures
          ∙ ap (λ (n : ℕ). finished_run x.block n c.loop-place.regions) w.blocks-then-owes_only.ensures
          ∙ ap (λ (u : RegionTable). finished_run x.block (blocks_in x.data) u) c.loop-place.invariant
          ∙ counts-finish c.loop-place.place (mapped_to (without_leg c.args.leg) c.loop-place.place rs) x (without_leg c.args.leg x) t f
          ∙ ap (λ (l : List Record). counting (flat l) t) next
      | else-owes_only w ↦ w.regions-is ∙ c.loop-place.invariant
          ∙ goes-on-table c.args.leg c.loop-place.place rs x t c.at-run.ensures.found (search rules)
          ∙ ap (λ (l : List Record). counting (flat l) t) next
    ]

pub returns : goal.returns
returns c =
    let t = c.args.regions.now in
    c.loop-place.invariant
    ∙ ap (λ (rs : List Record). counting (flat rs) t) (mapped-all (without_leg c.args.leg) c.loop-place.place c.args.records.now (omega (arith, c.loop-place-test.false, c.len-place-end.ensures.len)))
