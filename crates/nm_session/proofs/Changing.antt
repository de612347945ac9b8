-- A change that is to be durable is followed by a sync.
use Rattle.std.proofs.Common.{◌≡◌, Bool, true, false, [], ◌∷◌, Ok, refl, inr}
use Rattle.nm_session.specs.Target.{Answer, TargetCall}
use Rattle.nm_session.specs.Calling.{TaskResult, Changes, outcome_of}

-- a change and its sync are what a durable change asks for
pub changes_and_syncs : (fua : Bool) (change sync : Answer → TargetCall) (answer : Answer) (outcome : TaskResult)
    → fua ≡ true → outcome ≡ outcome_of answer
    → Changes fua change sync (change (Ok tt) ∷ sync answer ∷ []) outcome
changes_and_syncs true change sync answer outcome durable is =
    inr (record { answer = answer; calls_are = refl; outcome_is = is })
changes_and_syncs false change sync answer outcome durable is = absurd (cc)
