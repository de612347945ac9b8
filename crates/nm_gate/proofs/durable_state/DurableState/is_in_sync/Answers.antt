-- No leg past the eighth is covered.
use Rattle.std.proofs.Common.{◌≡◌, ⊎_elim, true, false, arith, refl, sym, ◌∙◌}
use Rattle.std.proofs.lemmas.Bool.{cases_lt}
use Rattle.std.proofs.lemmas.List.{get_or_past}
use Rattle.nm_gate.specs.Durable.{is_lacking, is_named}
use Rattle.nm_gate.proofs.Saved.{or-off}
use Rattle.nm_gate.proofs.durable_state.DurableState.is_in_sync.Goals as goal

pub returns : goal.returns
returns g c = (
  λ holds leg covered. ⊎_elim
      (λ low. c.legs.invariant leg (omega (arith, low, c.legs-test.false)) covered)
      (λ past.
      let named : is_named leg c.args.self.now ≡ false = get_or_past c.args.self.now.named leg false (omega (arith, past, c.eight_legs.ensures.named)) in
      let lacking : is_lacking leg c.args.self.now ≡ false = get_or_past c.args.self.now.lacking leg false (omega (arith, past, c.eight_legs.ensures.lacking)) in
      absurd (let clash : true ≡ false = sym covered ∙ or-off (is_named leg c.args.self.now) (is_lacking leg c.args.self.now) named lacking in cc))
      (cases_lt leg 8),
  λ saved. refl,
)
