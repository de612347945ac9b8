-- What the taking out of a leg answers.
use Rattle.std.specs.Prelude.{◌≡◌, ℕ, ◌==◌, true, false}
use Rattle.nm_rules.specs.Failing.{GoesOut}
use Rattle.nm_rules.specs.State.{StripeState}
use Rattle.nm_stripe.specs.declared.fail.Failing.{Failing}
use Rattle.nm_stripe.specs.declared.fail.Failing.TheVariants.{Failed, MasterChanged}

-- the leg has gone out; the answer says whether it was the master, and which leg is it now
abbrev pub Fails : {L : Type 0} → StripeState L → StripeState L → ℕ → Failing → Type 0
Fails old new leg Failed = GoesOut old new leg × ((leg == old.master) ≡ false)
Fails old new leg (MasterChanged master) =
    GoesOut old new leg × ((leg == old.master) ≡ true) × (master ≡ new.master)
