use Rattle.std.proofs.Common.{◌≡◌, ap, ◌∙◌, length, map, rules, None}
use Rattle.std.specs.Vec.{with_items}
use Rattle.std.proofs.lemmas.List.{with_items_is}
use Rattle.nm_regions.specs.LegFlags.{set_aside}
use Rattle.nm_regions.specs.Table.{RegionTable}
use Rattle.nm_regions.specs.Inside.{table_of}
use Rattle.nm_regions.proofs.Aside.{sound-aside}
use Rattle.nm_regions.proofs.regions.Regions.set_all_aside.Goals as goal

pub invariant_of-self : goal.invariant_of-self
invariant_of-self c =
    let same : length c.set_aside_all.new.legs ≡ c.self.inside.legs.len = search rules in
    let legs : (with_items c.self.inside.legs c.set_aside_all.new.legs).items
    ≡ map set_aside c.self.inside.legs.items =
    with_items_is c.self.inside.legs c.set_aside_all.new.legs same
    ∙ c.set_aside_all.ensures
    ∙ ap (map set_aside) c.deref_mut.ensures.value in
    let none : c.self.inside.copy ≡ None = rw
    (ap (λ (t : RegionTable). t.copy) c.self.view_is) c.requires in
    sound-aside _ (table_of c.self.inside) c.self.invariant none legs
