-- The lowest block under way is the first of the lowest run under way.
use Rattle.std.proofs.Common.{ap, ◌∙◌}
use Rattle.nm_fanout.specs.Records.{first_owed}
use Rattle.nm_rules.specs.State.{StripeState}
use Rattle.nm_store.proofs.StoreLemmas.{flat-first_owed}
use Rattle.nm_store.proofs.store.Store.first_owed.Goals as goal

pub returns : goal.returns
returns g c =
    c.first_owed.ensures
    ∙ flat-first_owed c.self.inside.records c.is_sound.ensures.in_order.runs
    ∙ ap (λ (s : StripeState _). first_owed s.records) c.self.view_is
