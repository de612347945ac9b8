-- As many blocks have no entry as the runs have without one.
use Rattle.std.proofs.Common.{ℕ, ◌-◌, ap, sym, ◌∙◌, length}
use Rattle.nm_fanout.specs.Records.{unlanded}
use Rattle.nm_fanout.proofs.FlatSteps.{flat-unlanded}
use Rattle.nm_rules.specs.State.{StripeState}
use Rattle.nm_store.proofs.store.Store.records_landed.Goals as goal

pub returns : goal.returns
returns g c =
    c.saturating_sub.ensures
    ∙ ap (λ (n : ℕ). n - c.unlanded_count.result) c.records_left.ensures
    ∙ ap (λ (n : ℕ). length c.args.self.now.records - n) (c.unlanded_count.ensures.count ∙ sym (flat-unlanded c.self.inside.records) ∙ ap (λ (s : StripeState _). unlanded s.records) c.self.view_is)
