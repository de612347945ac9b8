-- The two legs hold the same, and are all that the stripe has.
use Rattle.std.proofs.Common.{List, ap, ◌∙◌}
use Rattle.nm_choice.specs.declared.policy.Policy.TheVariants.{RoundRobin}
use Rattle.nm_rules.specs.Array.{stripe_array}
use Rattle.nm_rules.specs.Opening.{opened}
use Rattle.nm_rules.specs.State.{StripeState}
use Rattle.nm_shares.proofs.TwoLegs.{have-all, hold-equal, names-first, opened-array}
use Rattle.nm_shares.proofs.file_stripes.open_on.Goals as goal

pub open-requires-clause-sizes : goal.open-requires-clause-sizes
open-requires-clause-sizes g c = rw c.in_ok-legs.ensures c.requires.sizes

pub open-requires-clause-lengths : goal.open-requires-clause-lengths
open-requires-clause-lengths g c =
    rw c.in_ok-legs.ensures
    (have-all g.L.LegPart.model c.args.first c.args.second c.requires.alike c.args.place.blocks c.requires.blocks)

pub open-requires-clause-some_in_sync : goal.open-requires-clause-some_in_sync
open-requires-clause-some_in_sync g c = rw c.in_ok-legs.ensures names-first

pub open-requires-clause-equal : goal.open-requires-clause-equal
open-requires-clause-equal g c = λ _.
    rw c.in_ok-legs.ensures
    (hold-equal g.L.LegPart.model c.args.first c.args.second c.requires.alike)

pub returns-in-Ok : goal.returns-in-Ok
returns-in-Ok g c =
    ap (λ (stripe : StripeState _). stripe_array g.L.LegPart.model stripe) c.in-Ok.ensures.opened
    ∙ (ap (λ (legs : List _). stripe_array g.L.LegPart.model (opened c.args.place legs 3 0 RoundRobin)) c.in_ok-legs.ensures
    ∙ opened-array g.L.LegPart.model c.args.first c.args.second c.requires.alike c.args.place 0 RoundRobin)
