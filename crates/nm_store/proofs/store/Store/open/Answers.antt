-- As a store opens, no write is under way in any region.
use Rattle.std.proofs.Common.{rules, ◌≡◌, ℕ, List, length, sym, ap, ◌∙◌, subst}
use Rattle.std.proofs.lemmas.List.{length-map}
use Rattle.nm_choice.specs.declared.leg_state.LegState.{LegState}
use Rattle.nm_fanout.specs.declared.write_record.Record.{Record}
use Rattle.nm_fanout.specs.Runs.{flat}
use Rattle.nm_regions.specs.LegFlags.{opened_leg}
use Rattle.nm_regions.specs.Table.{RegionTable, regions_of}
use Rattle.nm_regions.specs.Changes.{opened}
use Rattle.nm_resync.specs.Chunk.{CopyBuffer}
use Rattle.nm_rules.specs.Opening.{bits_from, opened_state}
use Rattle.nm_rules.specs.State.{writes_from}
use Rattle.nm_store.specs.Inside.{AllFit}
use Rattle.nm_store.proofs.CountLemmas.{writes-none}
use Rattle.nm_store.proofs.OpeningLemmas.{bits-length}
use Rattle.nm_store.proofs.store.Store.open.Goals as goal

pub invariant_of-result : goal.invariant_of-result
invariant_of-result g c =
    let room = c.in-Ok.room in
    let r = c.in-Ok.ensures in
    let place = c.args.place in
    let bits : List _ = bits_from c.args.in_sync c.len.result 0 in
    let regions : ℕ = regions_of place.blocks place.region in
    let start : RegionTable = opened place.blocks place.region bits in
    let legs : c.len.result ≡ length c.args.legs.items = search rules in
    let table_is : room.regions ≡ record { blocks = place.blocks; region = place.region; legs = room.regions.legs; writes = writes_from place.region regions 0 (flat room.records); copy = room.regions.copy } =
    r.regions ∙ sym (
    ap (λ (t : RegionTable). let u : RegionTable = record { blocks = place.blocks; region = place.region; legs = t.legs; writes = writes_from place.region regions 0 (flat room.records); copy = t.copy } in u) r.regions
    ∙ ap (λ (rs : List Record). let u : RegionTable = record { blocks = place.blocks; region = place.region; legs = start.legs; writes = writes_from place.region regions 0 (flat rs); copy = start.copy } in u) r.records
    ∙ ap (λ (ws : List ℕ). let u : RegionTable = record { blocks = place.blocks; region = place.region; legs = start.legs; writes = ws; copy = start.copy } in u) (writes-none place.region regions 0)) in
    record {
      regions = table_is;
      states = ap (λ (xs : List LegState). length xs) r.states ∙ length-map bits opened_state ∙ bits-length c.args.in_sync c.len.result 0 ∙ legs;
      flags = ap (λ (t : RegionTable). length t.legs) r.regions ∙ length-map bits (opened_leg regions) ∙ bits-length c.args.in_sync c.len.result 0 ∙ legs;
      chunk = ap (λ (b : CopyBuffer). b.most) r.buffer;
      runs = subst (λ (rs : List Record). AllFit place rs) (sym r.records) tt;
    }
