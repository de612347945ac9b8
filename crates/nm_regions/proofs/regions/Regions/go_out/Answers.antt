use Rattle.std.proofs.Common.{◌≡◌, ◌<◌, length, ap, ◌∙◌}
use Rattle.std.proofs.lemmas.List.{get_or_default}
use Rattle.nm_regions.specs.LegFlags.{no_leg, gone_out}
use Rattle.nm_regions.specs.Table.{RegionTable, leg_at}
use Rattle.nm_regions.specs.Inside.{table_of}
use Rattle.nm_regions.proofs.GoneOut.{sound-gone}
use Rattle.nm_regions.proofs.regions.Regions.go_out.Goals as goal

pub invariant_of-self : goal.invariant_of-self
invariant_of-self c =
    let within : c.args.leg < length c.self.inside.legs.items = rw
    (ap (λ (t : RegionTable). t.legs) c.self.view_is) c.requires.leg in
    let changed : c.go_out.new.self
    ≡ gone_out c.self.inside.writes.items (leg_at c.args.leg (table_of c.self.inside)) =
    c.go_out.ensures
    ∙ ap (λ writes. gone_out writes c.index_mut.result.now) c.deref.ensures.value
    ∙ ap (gone_out c.self.inside.writes.items) (c.index_mut.ensures.value
    ∙ get_or_default c.self.inside.legs.items c.args.leg c.index_mut.result.now no_leg within) in
    rw (c.copy_but_of-self-inside.ensures, changed)
    (sound-gone c.args.leg (table_of c.self.inside) c.self.invariant within)
