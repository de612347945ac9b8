-- It may be said of this leg, too.
use Rattle.std.proofs.Common.{◌≡◌, ⊎_elim, ℕ, arith, true, sym, ◌∙◌, subst}
use Rattle.std.proofs.lemmas.Bool.{cases_lt}
use Rattle.nm_gate.specs.Changes.{may_say}
use Rattle.nm_gate.proofs.durable_state.DurableState.may_say.Goals as goal

pub legs-preserved : goal.legs-preserved
legs-preserved g c k below =
    ⊎_elim
    (λ earlier. c.legs.invariant k earlier)
    (λ late.
    let same : c.legs.leg ≡ k = omega (arith, below, late) in
    subst (λ (n : ℕ). may_say c.args.stripe.now c.args.self.now c.args.claims.now n ≡ true) same (sym c.may_say_of.ensures ∙ c.if-not-may_say_of.false))
    (cases_lt k c.legs.leg)
