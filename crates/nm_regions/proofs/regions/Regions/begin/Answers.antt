use Rattle.std.proofs.Common.{◌≡◌, ap, ◌∙◌, length, map, rules}
use Rattle.std.specs.Vec.{with_items}
use Rattle.std.proofs.lemmas.List.{with_items_is}
use Rattle.nm_regions.specs.LegFlags.{marked_if_out}
use Rattle.nm_regions.specs.Inside.{table_of}
use Rattle.nm_regions.proofs.Begun.{sound-begun}
use Rattle.nm_regions.proofs.regions.Regions.begin.Goals as goal

pub invariant_of-self : goal.invariant_of-self
invariant_of-self c =
    let same : length c.mark_where_out.new.legs ≡ c.self.inside.legs.len = search rules in
    let legs : (with_items c.self.inside.legs c.mark_where_out.new.legs).items
    ≡ map (marked_if_out c.region_of-region.result) c.self.inside.legs.items =
    with_items_is c.self.inside.legs c.mark_where_out.new.legs same
    ∙ c.mark_where_out.ensures
    ∙ ap (map (marked_if_out c.region_of-region.result)) c.deref_mut.ensures.value in
    sound-begun c.region_of-region.result _ _ (table_of c.self.inside) c.self.invariant legs
    (search rules)
