-- The region table counts a run's blocks until the run owes no leg.
use Rattle.std.proofs.Common.{rules, ◌≡◌, ℕ, ◌≤◌, List, true, false, sym, ap, ◌∙◌, subst, arith}
use Rattle.std.proofs.lemmas.Option.{same_Some}
use Rattle.std.specs.List.{slice_get}
use Rattle.nm_fanout.specs.declared.write_record.Record.{Record}
use Rattle.nm_fanout.specs.Record.{is_under_way, without_leg}
use Rattle.nm_fanout.specs.RecordData.{blocks_in}
use Rattle.nm_fanout.specs.Records.{reached}
use Rattle.nm_fanout.specs.Runs.{flat}
use Rattle.nm_fanout.proofs.Owed.{owes-under_way}
use Rattle.nm_fanout.proofs.RunOrder.{run-at}
use Rattle.nm_regions.specs.Changes.{finished_run}
use Rattle.nm_regions.specs.Table.{RegionTable, region_of, writes_in}
use Rattle.nm_store.specs.Counting.{counting}
use Rattle.nm_store.proofs.ReachLemmas.{counted-before, counts-finish, counts-stay, reaches}
use Rattle.nm_store.proofs.RunFitLemmas.{lie-at}
use Rattle.nm_store.proofs.writing.reach_run.Goals as goal

pub overflow_cast-count : goal.overflow_cast-count
overflow_cast-count c =
    let most = (run-at c.args.records.now c.args.place c.at-run.result.now c.at-run.ensures.in_order.runs c.at-run.ensures.found).filled.most in
    let few : c.blocks-count.result ≤ 128 = omega (arith, c.blocks-count.ensures, most) in
    search (rules, few)

pub at-requires : goal.at-requires
at-requires c =
    let rs = c.args.records.now in
    let x = c.at-run.result.now in
    let p = reaches c.args.place c.args.leg rs x c.at-run.ensures.in_order c.at-run.ensures.found in
    record { within = rw (c.reach_at.ensures x.ticket p.at) p.within }

pub returns-then-is_under_way-clause-counts : goal.returns-then-is_under_way-clause-counts
returns-then-is_under_way-clause-counts c =
    let rs = c.args.records.now in
    let t = c.args.regions.now in
    let x = c.at-run.result.now in
    let y = without_leg c.args.leg x in
    let p = reaches c.args.place c.args.leg rs x c.at-run.ensures.in_order c.at-run.ensures.found in
    let list : c.reach_at.new.self ≡ reached x.ticket c.args.leg rs = c.reach_at.ensures x.ticket p.at in
    let now : y ≡ c.at.result.now = same_Some y c.at.result.now (sym p.after ∙ ap (λ (l : List Record). slice_get l c.args.place) (sym list) ∙ c.at.ensures.found) in
    let still : is_under_way y ≡ true = ap (λ (r : Record). is_under_way r) now ∙ sym c.is_under_way.ensures ∙ c.if-is_under_way.true in
    let going : is_under_way x ≡ true = owes-under_way c.args.leg x (c.requires.owed x c.at-run.ensures.found) in
    c.requires.counted ∙ sym (counts-stay c.args.place rs x y t p.changes (still ∙ sym going))
    ∙ ap (λ (l : List Record). counting (flat l) t) (p.set_is ∙ sym list)

pub finish-requires-clause-block : goal.finish-requires-clause-block
finish-requires-clause-block c =
    let x = c.at-run.result.now in
    let some = (run-at c.args.records.now c.args.place x c.at-run.ensures.in_order.runs c.at-run.ensures.found).filled.some in
    let lies = lie-at c.args.regions.now.blocks c.args.regions.now.region c.args.place c.args.records.now x c.requires.inside c.at-run.ensures.found in
    omega (arith, some, lies.0)

pub finish-requires-clause-some : goal.finish-requires-clause-some
finish-requires-clause-some c =
    let rs = c.args.records.now in
    let t = c.args.regions.now in
    let x = c.at-run.result.now in
    let y = without_leg c.args.leg x in
    let p = reaches c.args.place c.args.leg rs x c.at-run.ensures.in_order c.at-run.ensures.found in
    let list : c.reach_at.new.self ≡ reached x.ticket c.args.leg rs = c.reach_at.ensures x.ticket p.at in
    let now : y ≡ c.at.result.now = same_Some y c.at.result.now (sym p.after ∙ ap (λ (l : List Record). slice_get l c.args.place) (sym list) ∙ c.at.ensures.found) in
    let over : is_under_way y ≡ false = ap (λ (r : Record). is_under_way r) now ∙ sym c.is_under_way.ensures ∙ c.if-is_under_way.false in
    let lies = lie-at t.blocks t.region c.args.place rs x c.requires.inside c.at-run.ensures.found in
    let before = counted-before c.args.place rs x y t (record {
      changes = p.changes;
      going = owes-under_way c.args.leg x (c.requires.owed x c.at-run.ensures.found);
      over = over;
      some = (run-at rs c.args.place x c.at-run.ensures.in_order.runs c.at-run.ensures.found).filled.some;
      inside = lies.0;
      one_region = lies.1;
    }) in
    let all : blocks_in x.data ≤ writes_in (region_of x.block t) t = subst (λ (u : RegionTable). blocks_in x.data ≤ writes_in (region_of x.block t) u) (sym c.requires.counted) before in
    omega (arith, c.blocks-count.ensures, all)

pub returns-clause-counts : goal.returns-clause-counts
returns-clause-counts c =
    let rs = c.args.records.now in
    let t = c.args.regions.now in
    let x = c.at-run.result.now in
    let y = without_leg c.args.leg x in
    let p = reaches c.args.place c.args.leg rs x c.at-run.ensures.in_order c.at-run.ensures.found in
    let list : c.reach_at.new.self ≡ reached x.ticket c.args.leg rs = c.reach_at.ensures x.ticket p.at in
    let now : y ≡ c.at.result.now = same_Some y c.at.result.now (sym p.after ∙ ap (λ (l : List Record). slice_get l c.args.place) (sym list) ∙ c.at.ensures.found) in
    let over : is_under_way y ≡ false = ap (λ (r : Record). is_under_way r) now ∙ sym c.is_under_way.ensures ∙ c.if-is_under_way.false in
    let lies = lie-at t.blocks t.region c.args.place rs x c.requires.inside c.at-run.ensures.found in
    let fewer = counts-finish c.args.place rs x y t (record {
      changes = p.changes;
      going = owes-under_way c.args.leg x (c.requires.owed x c.at-run.ensures.found);
      over = over;
      some = (run-at rs c.args.place x c.at-run.ensures.in_order.runs c.at-run.ensures.found).filled.some;
      inside = lies.0;
      one_region = lies.1;
    }) in
    c.finish.ensures
    ∙ ap (λ (n : ℕ). finished_run x.block n t) c.blocks-count.ensures
    ∙ ap (λ (u : RegionTable). finished_run x.block (blocks_in x.data) u) c.requires.counted
    ∙ fewer
    ∙ ap (λ (l : List Record). counting (flat l) t) (p.set_is ∙ sym list)
