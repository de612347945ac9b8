-- Some block is under way where some run is.
use Rattle.std.proofs.Common.{◌≡◌, ◌&&◌, Bool, refl, sym, ap, ◌∙◌}
use Rattle.std.specs.List.{list_any}
use Rattle.nm_fanout.specs.Record.{is_under_way}
use Rattle.nm_fanout.specs.Runs.{flat}
use Rattle.nm_rules.specs.State.{is_writing}
use Rattle.nm_store.specs.Inside.{state_of}
use Rattle.nm_store.proofs.RunAnyLemmas.{flat-any}
use Rattle.nm_store.proofs.store.Store.settle.Goals as goal
use Rattle.nm_store.proofs.store.Store.settle.Goals.{then-self, else-self}

pub returns : goal.returns
returns g c =
    let old = state_of c.self.inside in
    let any : list_any is_under_way (flat c.self.inside.records) ≡ list_any is_under_way c.self.inside.records = flat-any c.self.inside.records c.is_sound.ensures.in_order.runs in
    let settling : c.if-self.self ≡ (old.settling && is_writing old) = elim c.if-self.branch [
      | then-self w ↦ w.self-is ∙ w.is_any_under_way-self-inside.ensures ∙ sym any ∙ sym (ap (λ (b : Bool). b && is_writing old) w.if-self.true)
      | else-self w ↦ w.self-is ∙ w.if-self.false ∙ sym (ap (λ (b : Bool). b && is_writing old) w.if-self.false)
    ] in
    rw (settling, ← c.self.view_is) refl
