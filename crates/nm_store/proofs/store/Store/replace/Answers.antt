-- A leg that is marked and attached is changed once.
use Rattle.std.proofs.Common.{rules, ◌≡◌, ◌<◌, length, ap, ◌∙◌}
use Rattle.nm_regions.specs.LegFlags.{attached, all_marked}
use Rattle.nm_regions.specs.Table.{RegionTable}
use Rattle.nm_regions.specs.Changes.{with_leg, replaced}
use Rattle.nm_rules.specs.State.{table}
use Rattle.nm_store.specs.Inside.{state_of}
use Rattle.nm_store.proofs.TableLemmas.{with-twice}
use Rattle.nm_store.proofs.store.Store.replace.Goals as goal

pub returns : goal.returns
returns g c =
    let old = state_of c.self.inside in
    let inside : c.args.leg < length old.flags = search rules in
    let regions : c.replace.new.self ≡ with_leg (λ l. attached (all_marked l)) c.args.leg (table old) = c.replace.ensures ∙ ap (λ (t : RegionTable). replaced c.args.leg t) c.self.invariant.regions ∙ with-twice attached all_marked c.args.leg (table old) inside in
    rw (regions, ← c.self.view_is) (search rules)
