-- The run of the ticket has whole blocks inside the leg, and its one call is for all of them.
use Rattle.std.proofs.Common.{◌≡◌, ℕ, ◌*◌, List, None, Some, length, sym, ap, ◌∙◌, subst, arith, slice_get, is_ok}
use Rattle.std.specs.Vec.{with_items}
use Rattle.std.proofs.lemmas.List.{length-set, with_items_is}
use Rattle.nm_replay.specs.declared.block.Block.{Block}
use Rattle.nm_fanout.specs.declared.write_record.Record.{Record}
use Rattle.nm_fanout.specs.RecordData.{blocks_in}
use Rattle.nm_fanout.proofs.RunOrder.{run-at}
use Rattle.nm_leg.specs.Leg.{leg_type, blocks_of}
use Rattle.nm_rules.specs.RunCalls.{WritesRunAt}
use Rattle.nm_rules.specs.RunPush.{CallsToPushRun, push_run_cause, written_by}
use Rattle.nm_rules.specs.Runs.{AreOwed, of_run}
use Rattle.nm_rules.specs.State.{StripeState}
use Rattle.nm_rules.proofs.RunCallLemmas.{run-writes_at}
use Rattle.nm_rules.proofs.RunFlatLemmas.{are-owed}
use Rattle.nm_store.specs.Inside.{state_of}
use Rattle.nm_store.proofs.RunEntryLemmas.{written-run}
use Rattle.nm_store.proofs.RunFitLemmas.{fit-at}
use Rattle.nm_store.proofs.RunNameLemmas.{place-at, place-some, push-owes, push-some, run-owes, run-there}
use Rattle.nm_store.proofs.store.Store.write_leg.Goals as goal

pub unwrap-place-requires : goal.unwrap-place-requires
unwrap-place-requires g c =
    let none : push_run_cause (state_of c.self.inside) c.args.ticket c.args.leg ≡ None = subst (λ (s : StripeState _). push_run_cause s c.args.ticket c.args.leg ≡ None) (sym c.self.view_is) c.requires.no_cause in
    place-some c.args.ticket c.self.inside.records c.find_near.result c.find_near.ensures.absent c.find_near.ensures.in_order.runs (push-some (state_of c.self.inside) c.args.ticket c.args.leg none)

pub bytes-requires : goal.bytes-requires
bytes-requires g c = record {
  most = (run-at c.self.inside.records c.unwrap-place.result c.at-run.result.now c.at-run.ensures.in_order.runs c.at-run.ensures.found).filled.most;
}

pub write_leg_at-requires-clause-run : goal.write_leg_at-requires-clause-run
write_leg_at-requires-clause-run g c leg there =
    let x = c.at-run.result.now in
    let fills = (run-at c.self.inside.records c.unwrap-place.result x c.at-run.ensures.in_order.runs c.at-run.ensures.found).filled in
    let bytes : length c.bytes.result.now ≡ 512 * blocks_in x.data = ap (λ (bs : List ℕ). length bs) c.bytes.ensures.bytes ∙ fills.whole in
    let fits = fit-at c.self.inside.place c.unwrap-place.result c.self.inside.records x c.self.invariant.runs c.at-run.ensures.found in
    let here : slice_get c.args.self.now.legs c.args.leg ≡ Some leg = ap (λ (s : StripeState _). slice_get s.legs c.args.leg) (sym c.self.view_is) ∙ ap (λ (ls : List _). slice_get ls c.args.leg) (sym c.deref_mut.ensures.value) ∙ there in
    let long : length (g.L.LegPart.model leg).contents ≡ c.self.inside.place.blocks = c.requires.lengths c.args.leg leg here ∙ ap (λ (s : StripeState _). s.place.blocks) (sym c.self.view_is) in
    let some = fills.some in
    let inside = fits.inside in
    record {
      some = omega (arith, bytes, some);
      whole = omega (arith, bytes);
      inside = omega (arith, bytes, inside, long);
    }

pub returns-clause-called : goal.returns-clause-called
returns-clause-called g c =
    let old = state_of c.self.inside in
    let rs = c.self.inside.records in
    let x = c.at-run.result.now in
    let type = leg_type g.L.LegPart.model g.L.LegPart.honest in
    let none : push_run_cause old c.args.ticket c.args.leg ≡ None = subst (λ (s : StripeState _). push_run_cause s c.args.ticket c.args.leg ≡ None) (sym c.self.view_is) c.requires.no_cause in
    let at = place-at c.args.ticket rs c.find_near.result c.unwrap-place.result c.find_near.ensures.found c.unwrap-place.ensures in
    let run = run-there c.args.ticket c.unwrap-place.result rs x c.find_near.ensures.in_order at c.at-run.ensures.found in
    let owes = run-owes c.args.leg x run.block (push-owes old c.args.ticket c.args.leg run.block.first none run.first) in
    let are : AreOwed c.args.ticket x.block c.args.leg (of_run c.args.ticket old.records) old.records =
    subst (λ (t : ℕ). AreOwed t x.block c.args.leg (of_run c.args.ticket old.records) old.records) run.ticket
    (subst (λ (os : List Record). AreOwed x.ticket x.block c.args.leg os old.records) (sym run.members) (are-owed c.args.leg x old.records owes run.found)) in
    let blocks : blocks_of c.bytes.result.now ≡ written_by (of_run c.args.ticket old.records) = ap (λ (bs : List ℕ). blocks_of bs) c.bytes.ensures.bytes ∙ sym (written-run x run.is_run.filled) ∙ ap (λ (os : List Record). written_by os) (sym run.members) in
    let ok = is_ok c.write_leg_at.result in
    let new = c.write_leg_at.new.legs in
    let writes : WritesRunAt type ok c.args.leg x.block (blocks_of c.bytes.result.now) c.deref_mut.result.now new =
    run-writes_at type ok c.args.leg x.block c.bytes.result.now c.deref_mut.result.now new c.write_leg_at.ensures in
    let all : WritesRunAt type ok c.args.leg x.block (written_by (of_run c.args.ticket old.records)) c.deref_mut.result.now new =
    subst (λ (bs : List Block). WritesRunAt type ok c.args.leg x.block bs c.deref_mut.result.now new) blocks writes in
    let called : CallsToPushRun type ok old new c.args.ticket c.args.leg =
    record { no_cause = none; block = x.block; are = are; writes = subst (λ (ls : List _). WritesRunAt type ok c.args.leg x.block (written_by (of_run c.args.ticket old.records)) ls new) c.deref_mut.ensures.value all } in
    let same : length new ≡ length c.self.inside.legs.items = ap (λ (ls : List _). length ls) c.write_leg_at.ensures.change.others ∙ length-set c.deref_mut.result.now c.args.leg c.write_leg_at.ensures.after ∙ ap (λ (ls : List _). length ls) c.deref_mut.ensures.value in
    let stored : new ≡ (with_items c.self.inside.legs new).items = sym (with_items_is c.self.inside.legs new (same ∙ sym c.self.inside.legs.ok.0)) in
    subst (λ (s : StripeState _). CallsToPushRun type ok s (with_items c.self.inside.legs new).items c.args.ticket c.args.leg) c.self.view_is
    (subst (λ (ls : List _). CallsToPushRun type ok old ls c.args.ticket c.args.leg) stored called)
