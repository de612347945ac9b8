-- The copy is in one of the regions.
use Rattle.std.proofs.Common.{◌<◌, subst, sym}
use Rattle.nm_regions.specs.Table.{RegionTable, length_of}
use Rattle.nm_rules.specs.State.{StripeState, table}
use Rattle.nm_store.proofs.CopyLemmas.{region-inside}
use Rattle.nm_store.proofs.store.Store.new_length.Goals as goal

pub length_of-region-requires : goal.length_of-region-requires
length_of-region-requires g c =
    let copy = c.args.copy in
    let here : copy.cursor < length_of copy.region c.self.inside.regions = subst (λ (t : RegionTable). copy.cursor < length_of copy.region t) (sym c.self.invariant.regions)
    (subst (λ (s : StripeState _). copy.cursor < length_of copy.region (table s)) (sym c.self.view_is) c.requires.within) in
    record { region = region-inside c.self.inside.regions copy.region copy.cursor c.is_sound.ensures.table here }
