-- The run of a ticket owes what its first block owes.
use Rattle.std.proofs.Common.{ap, ◌∙◌}
use Rattle.nm_rules.specs.State.{StripeState}
use Rattle.nm_store.specs.Owing.{run_owed}
use Rattle.nm_store.proofs.StoreLemmas.{flat-next_owed}
use Rattle.nm_store.proofs.store.Store.next_owed.Goals as goal

pub returns : goal.returns
returns g c =
    c.next_owed.ensures
    ∙ flat-next_owed c.args.ticket c.self.inside.records c.is_sound.ensures.in_order
    ∙ ap (λ (s : StripeState _). run_owed c.args.ticket s.records) c.self.view_is
