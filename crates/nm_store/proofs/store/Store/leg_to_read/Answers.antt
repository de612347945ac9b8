-- The legs that are lent are those that are current at the block.
use Rattle.std.proofs.Common.{◌≡◌, ◌<◌, Bool, List, length, sym, ap, ◌∙◌, subst}
use Rattle.nm_regions.specs.Table.{RegionTable, targets, region_of, is_quiet}
use Rattle.nm_rules.specs.Read.{current_legs, true_from}
use Rattle.nm_rules.specs.State.{StripeState, table}
use Rattle.nm_store.specs.Inside.{state_of}
use Rattle.nm_store.proofs.store.Store.leg_to_read.Goals as goal

pub pick-leg-requires : goal.pick-leg-requires
pick-leg-requires g c =
    let old = state_of c.self.inside in
    let places : c.targets.result ≡ targets c.args.block (table old) = c.targets.ensures.targets ∙ ap (λ (t : RegionTable). targets c.args.block t) c.self.invariant.regions in
    let list : c.deref.result.now ≡ current_legs c.args.block old = c.deref.ensures.0 ∙ c.add_true_places.ensures ∙ ap (λ (bs : List Bool). true_from 0 bs) places in
    let some : 0 < length (current_legs c.args.block old) = subst (λ (s : StripeState _). 0 < length (current_legs c.args.block s)) (sym c.self.view_is) c.requires.current in
    rw list some

pub returns-clause-leg : goal.returns-clause-leg
returns-clause-leg g c =
    let old = state_of c.self.inside in
    let places : c.targets.result ≡ targets c.args.block (table old) = c.targets.ensures.targets ∙ ap (λ (t : RegionTable). targets c.args.block t) c.self.invariant.regions in
    let list : c.deref.result.now ≡ current_legs c.args.block old = c.deref.ensures.0 ∙ c.add_true_places.ensures ∙ ap (λ (bs : List Bool). true_from 0 bs) places in
    let region : c.region_of-region.result ≡ region_of c.args.block (table old) = c.region_of-region.ensures.region ∙ ap (λ (t : RegionTable). region_of c.args.block t) c.self.invariant.regions in
    let quiet : c.is_quiet-quiet.result ≡ is_quiet c.region_of-region.result (table old) = c.is_quiet-quiet.ensures ∙ ap (λ (t : RegionTable). is_quiet c.region_of-region.result t) c.self.invariant.regions in
    rw (← c.self.view_is, ← list, ← region, ← quiet) c.pick-leg.ensures

pub returns-clause-quiet : goal.returns-clause-quiet
returns-clause-quiet g c =
    let old = state_of c.self.inside in
    let region : c.region_of-region.result ≡ region_of c.args.block (table old) = c.region_of-region.ensures.region ∙ ap (λ (t : RegionTable). region_of c.args.block t) c.self.invariant.regions in
    let quiet : c.is_quiet-quiet.result ≡ is_quiet c.region_of-region.result (table old) = c.is_quiet-quiet.ensures ∙ ap (λ (t : RegionTable). is_quiet c.region_of-region.result t) c.self.invariant.regions in
    rw (← c.self.view_is) (quiet ∙ ap (λ (r : _). is_quiet r (table old)) region)
