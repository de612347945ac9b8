-- What a part takes from each answer, and which steps it refuses.
use Rattle.std.specs.Prelude.{ℕ, ◌+◌, ◌-◌, ◌^◌, ◌≤◌, ◌==◌, ◌||◌, Bool, not, nat_lt, max}
use Rattle.nm_rules.specs.declared.refusal.Refusal.TheVariants.{Astray}
use Rattle.nm_rules.specs.State.{StripeState, next_number}
use Rattle.nm_stripe.specs.declared.answer.Answer.{Answer}
use Rattle.nm_stripe.specs.declared.answer.Answer.TheVariants.{Value, Written, Refused}
use Rattle.nm_stripe.specs.declared.answer.Handed.{Handed}
use Rattle.nm_stripe.specs.declared.answer.Handed.TheVariants.{Nothing, Data, Replacement, Room}
use Rattle.nm_stripe.specs.declared.step.Step.{Step}
use Rattle.nm_stripe.specs.declared.step.Step.TheVariants.{Begin, Read, Replace}
use Rattle.nm_part.specs.PartState.{PartState}

-- the part of a pass that is made of the stripe
abbrev pub part_of : {L : Type 0} → StripeState L → PartState
part_of stripe =
    record { stripe = stripe.place.stripe; front = next_number stripe; count = 0 }

-- whether the stripe is not the part's: it has another number, or its next number is below the
-- part's front; or the part can count fewer than the 128 entries that a run has at most
abbrev pub is_astray : {L : Type 0} → PartState → StripeState L → Bool
is_astray part stripe =
    not (stripe.place.stripe == part.stripe) || nat_lt (next_number stripe) part.front
    || nat_lt (2 ^ 64 - 1) (part.count + 128)

-- what is handed in with a step
abbrev pub handed_in : {L : Type 0} → Step L → Handed L
handed_in (Begin block bytes) = Data bytes
handed_in (Read block room) = Room room
handed_in (Replace leg part) = Replacement part
handed_in step = Nothing

-- the answer to a step of a stripe that is not the part's
abbrev pub astray : {L : Type 0} → Step L → Answer L
astray step = Refused Astray (handed_in step)

-- the part after it was given so many entries, from this number on
abbrev pub given : ℕ → ℕ → PartState → PartState
given number count part =
    record part { front = max part.front (number + count); count = part.count + count }

-- the part after an answer: a value and a finished write give it their entries
abbrev pub part_after : {L : Type 0} → Answer L → PartState → PartState
part_after (Value value) part = given value.names.number value.names.count part
part_after (Written written) part = given written.number written.count part
part_after answer part = part

-- the entries of a value have numbers from the part's front on
abbrev pub ValueAbove : {L : Type 0} → ℕ → Answer L → Type 0
ValueAbove front (Value value) = front ≤ value.names.number
ValueAbove front answer = Unit {0}
