-- The region table of the store is that of the stripe, with as many regions.
use Rattle.std.proofs.Common.{rules, ◌≡◌, ◌<◌, ℕ, Some, List, Bool, length, slice_get, sym, ap, subst, ◌∙◌}
use Rattle.std.proofs.lemmas.Option.{slice_get-get_or}
use Rattle.nm_regions.specs.Changes.{with_leg}
use Rattle.nm_regions.specs.LegFlags.{attached}
use Rattle.nm_regions.specs.Table.{RegionTable, regions_of}
use Rattle.nm_rules.specs.Attach.{fallen, lacking_from, may_lack_each}
use Rattle.nm_rules.specs.Reopening.{Marks}
use Rattle.nm_rules.specs.State.{table}
use Rattle.nm_rules.specs.Unsynced.{unsynced_at}
use Rattle.nm_store.specs.Inside.{state_of}
use Rattle.nm_store.proofs.ReopeningLemmas.{writes-length}
use Rattle.nm_store.proofs.store.Store.return_leg.Goals as goal

pub returns : goal.returns
returns g c =
    let old = state_of c.self.inside in
    let model = g.L.LegPart.model in
    let n : ℕ = regions_of old.place.blocks old.place.region in
    let marks : Marks = record { marked = c.args.marked.now; span = c.args.span } in
    let inside : c.args.leg < length c.self.inside.legs.items = subst (λ s. c.args.leg < length s.legs) (sym c.self.view_is) c.requires.leg in
    let at : slice_get c.self.inside.legs.items c.args.leg ≡ Some c.index.result.now =
    slice_get-get_or c.self.inside.legs.items c.args.leg c.index.result.now inside ∙ ap (λ l. Some l) (sym c.index.ensures) in
    let unsynced : (model c.index.result.now).unsynced ≡ unsynced_at model (slice_get old.legs c.args.leg) = ap (λ o. unsynced_at model o) (sym at) in
    let regions : c.return_regions.new.regions ≡ with_leg (λ r. attached (fallen (may_lack_each model marks old c.args.leg) r)) c.args.leg (table old) =
    c.return_regions.ensures
    ∙ ap (λ (us : List Bool). with_leg (λ r. attached (fallen (lacking_from marks us c.self.inside.regions (length c.self.inside.regions.writes) 0) r)) c.args.leg c.self.inside.regions) unsynced
    ∙ ap (λ (t : RegionTable). with_leg (λ r. attached (fallen (lacking_from marks (unsynced_at model (slice_get old.legs c.args.leg)) t (length t.writes) 0) r)) c.args.leg t) c.self.invariant.regions
    ∙ ap (λ (k : ℕ). with_leg (λ r. attached (fallen (lacking_from marks (unsynced_at model (slice_get old.legs c.args.leg)) (table old) k 0) r)) c.args.leg (table old)) (writes-length old.place.region n 0 old.records) in
    rw (regions, ← c.self.view_is) (search rules)
