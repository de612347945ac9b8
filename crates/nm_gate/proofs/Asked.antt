-- Why the gate refuses a claim, a sync and a flush.
use Rattle.std.proofs.Common.{◌≡◌, ℕ, Bool, true, false, Option, None, Some, IfSome, cond, refl, sym, ap, ◌∙◌, subst}
use Rattle.nm_rules.specs.State.{StripeState}
use Rattle.nm_stripe.specs.declared.step.Step.TheVariants.{Claim, Flush, Sync}
use Rattle.nm_gate.specs.declared.gate_refusal.GateRefusal.{GateRefusal}
use Rattle.nm_gate.specs.declared.gate_refusal.GateRefusal.TheVariants.{SaveFailed, Unsaved}
use Rattle.nm_gate.specs.Durable.{Durable}
use Rattle.nm_gate.specs.Gate.{IsForbidden, IsSaved}

-- all are refused so
abbrev pub AreRefused : {L : Type 0} → Option Durable → StripeState L → GateRefusal → Type 0
AreRefused durable stripe refusal =
    (ticket leg : ℕ) → IsForbidden durable stripe (Claim ticket) refusal × IsForbidden durable stripe (Sync leg) refusal × IsForbidden durable stripe (Flush leg) refusal

module _ {L : Type 0} (d : Durable) (stripe : StripeState L) where
  broken-refused : d.broken ≡ true → AreRefused (Some d) stripe SaveFailed
  broken-refused on ticket leg =
      let off : d.broken ≡ false → ⊥ = λ off. let clash : true ≡ false = sym on ∙ off in cc in
      let why : SaveFailed ≡ cond d.broken SaveFailed Unsaved = sym (ap (λ (b : Bool). cond b SaveFailed Unsaved) on) in (
        record { not_allowed = λ a. off a.0; refused = why },
        record { not_allowed = λ a. off a.0; refused = why },
        record { not_allowed = λ a. off a.0; refused = why },
      )

  unsaved-refused : d.broken ≡ false → (IsSaved d stripe → ⊥) → AreRefused (Some d) stripe Unsaved
  unsaved-refused off not_saved ticket leg =
      let why : Unsaved ≡ cond d.broken SaveFailed Unsaved = sym (ap (λ (b : Bool). cond b SaveFailed Unsaved) off) in (
        record { not_allowed = λ a. not_saved a.1; refused = why },
        record { not_allowed = λ a. not_saved a.1; refused = why },
        record { not_allowed = λ a. not_saved a.1; refused = why },
      )

  refused-by : (broken saved : Bool) → d.broken ≡ broken → (IsSaved d stripe → saved ≡ true)
      → IfSome (cond broken (Some SaveFailed) (cond saved None (Some Unsaved))) (AreRefused (Some d) stripe)
  refused-by true saved is leads = broken-refused is
  refused-by false true is leads = tt
  refused-by false false is leads = unsaved-refused is (λ saved. let clash : false ≡ true = leads saved in cc)

  pub saved-refused : (durable : Option Durable) (saved : Bool) (answer : Option GateRefusal) → durable ≡ Some d → (IsSaved d stripe → saved ≡ true)
      → answer ≡ cond d.broken (Some SaveFailed) (cond saved None (Some Unsaved)) → IfSome answer (AreRefused durable stripe)
  saved-refused durable saved answer was leads is =
      subst (λ (o : Option Durable). IfSome answer (AreRefused o stripe)) (sym was)
      (subst (λ (a : Option GateRefusal). IfSome a (AreRefused (Some d) stripe)) (sym is) (refused-by d.broken saved refl leads))
