-- The region table of the store is that of the stripe, with as many regions.
use Rattle.std.proofs.Common.{rules, ◌≡◌, ℕ, length, ap, sym, ◌∙◌, subst}
use Rattle.nm_regions.specs.Changes.{with_leg}
use Rattle.nm_regions.specs.Table.{RegionTable, leg_at, regions_of}
use Rattle.nm_rules.specs.Comparing.{waiting}
use Rattle.nm_rules.specs.Reopening.{Marks, reopened_leg}
use Rattle.nm_rules.specs.State.{table}
use Rattle.nm_store.specs.Inside.{state_of}
use Rattle.nm_store.proofs.ReopeningLemmas.{writes-length}
use Rattle.nm_store.proofs.store.Store.open_other.Goals as goal

pub open_regions-requires-clause-aside : goal.open_regions-requires-clause-aside
open_regions-requires-clause-aside g c =
    let old = state_of c.self.inside in
    let n : ℕ = regions_of old.place.blocks old.place.region in
    let aside : leg_at c.args.leg (table old) ≡ waiting n = search rules in
    subst (λ (t : RegionTable). leg_at c.args.leg t ≡ waiting (length t.writes)) (sym c.self.invariant.regions)
    (aside ∙ ap (λ (k : ℕ). waiting k) (sym (writes-length old.place.region n 0 old.records)))

pub returns : goal.returns
returns g c =
    let old = state_of c.self.inside in
    let n : ℕ = regions_of old.place.blocks old.place.region in
    let marks : Marks = record { marked = c.args.marked.now; span = c.args.span } in
    let regions : c.open_regions.new.regions ≡ with_leg (λ l. reopened_leg marks n c.args.opening) c.args.leg (table old) =
    c.open_regions.ensures
    ∙ ap (λ (t : RegionTable). with_leg (λ l. reopened_leg marks (length t.writes) c.args.opening) c.args.leg t) c.self.invariant.regions
    ∙ ap (λ (k : ℕ). with_leg (λ l. reopened_leg marks k c.args.opening) c.args.leg (table old)) (writes-length old.place.region n 0 old.records) in
    rw (regions, c.reopened_state.ensures, ← c.self.view_is) (search rules)
