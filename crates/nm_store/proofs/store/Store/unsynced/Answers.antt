-- The region table of the store is that of the stripe, with as many regions.
use Rattle.std.proofs.Common.{◌≡◌, ◌<◌, ℕ, Some, List, Bool, length, slice_get, sym, ap, subst, ◌∙◌}
use Rattle.std.proofs.lemmas.Option.{slice_get-get_or}
use Rattle.nm_regions.specs.Table.{RegionTable, regions_of}
use Rattle.nm_rules.specs.State.{table}
use Rattle.nm_rules.specs.Unsynced.{unsynced, unsynced_at, unsynced_below}
use Rattle.nm_store.specs.Inside.{state_of}
use Rattle.nm_store.proofs.ReopeningLemmas.{writes-length}
use Rattle.nm_store.proofs.store.Store.unsynced.Goals as goal

pub returns : goal.returns
returns g c =
    let old = state_of c.self.inside in
    let model = g.L.LegPart.model in
    let n : ℕ = regions_of old.place.blocks old.place.region in
    let inside : c.args.leg < length c.self.inside.legs.items = subst (λ s. c.args.leg < length s.legs) (sym c.self.view_is) c.requires.leg in
    let at : slice_get c.self.inside.legs.items c.args.leg ≡ Some c.index.result.now =
    slice_get-get_or c.self.inside.legs.items c.args.leg c.index.result.now inside ∙ ap (λ l. Some l) (sym c.index.ensures) in
    let marks : (model c.index.result.now).unsynced ≡ unsynced_at model (slice_get old.legs c.args.leg) = ap (λ o. unsynced_at model o) (sym at) in
    let counted : c.count_unsynced.result ≡ unsynced model c.args.leg old =
    c.count_unsynced.ensures
    ∙ ap (λ (us : List Bool). unsynced_below us c.self.inside.regions (length c.self.inside.regions.writes)) marks
    ∙ ap (λ (t : RegionTable). unsynced_below (unsynced_at model (slice_get old.legs c.args.leg)) t (length t.writes)) c.self.invariant.regions
    ∙ ap (λ (k : ℕ). unsynced_below (unsynced_at model (slice_get old.legs c.args.leg)) (table old) k) (writes-length old.place.region n 0 old.records) in
    subst (λ s. c.count_unsynced.result ≡ unsynced model c.args.leg s) c.self.view_is counted
