-- No leg past the eighth may be called in sync.
use Rattle.std.proofs.Common.{◌≡◌, ⊎_elim, true, false, arith, refl, sym, ◌∙◌}
use Rattle.std.proofs.lemmas.Bool.{cases_lt}
use Rattle.std.proofs.lemmas.List.{get_or_past}
use Rattle.nm_gate.specs.Durable.{is_named}
use Rattle.nm_gate.proofs.durable_state.DurableState.is_saved.Goals as goal

pub returns : goal.returns
returns g c = (
  λ holds leg named. ⊎_elim
      (λ low. c.legs.invariant leg (omega (arith, low, c.legs-test.false)) named)
      (λ past.
      let none : is_named leg c.args.self.now ≡ false = get_or_past c.args.self.now.named leg false (omega (arith, past, c.eight_legs.ensures.named)) in
      absurd (let clash : true ≡ false = sym named ∙ none in cc))
      (cases_lt leg 8),
  λ saved. refl,
)
