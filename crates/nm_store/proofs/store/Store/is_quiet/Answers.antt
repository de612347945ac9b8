-- The regions count the writes under way in each region of the stripe.
use Rattle.std.proofs.Common.{◌≡◌, ap, ◌∙◌}
use Rattle.nm_regions.specs.Table.{RegionTable, is_quiet, region_of}
use Rattle.nm_rules.specs.State.{table}
use Rattle.nm_store.specs.Inside.{state_of}
use Rattle.nm_store.proofs.store.Store.is_quiet.Goals as goal

pub returns : goal.returns
returns g c =
    let old = state_of c.self.inside in
    let region : c.region_of.result ≡ region_of c.args.block (table old) = c.region_of.ensures.region ∙ ap (λ (t : RegionTable). region_of c.args.block t) c.self.invariant.regions in
    let quiet : c.is_quiet.result ≡ is_quiet c.region_of.result (table old) = c.is_quiet.ensures ∙ ap (λ (t : RegionTable). is_quiet c.region_of.result t) c.self.invariant.regions in
    rw (← c.self.view_is) (quiet ∙ ap (λ (r : _). is_quiet r (table old)) region)
