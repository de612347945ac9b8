-- Which steps of a call are its own, which only help it on, and which answers end it.
use Rattle.std.specs.Prelude.{◌≡◌, ℕ, Option, Some, None, Bool, true, false, is_none, not, ◌&&◌}
use Rattle.std.specs.Prelude.{List, [], ◌∷◌, if◌then◌else◌}
use Rattle.nm_rules.specs.declared.refusal.Refusal.{Refusal}
use Rattle.nm_rules.specs.declared.refusal.Refusal.TheVariants as refusal
use Rattle.nm_stripe.specs.declared.answer.Answer.{Answer}
use Rattle.nm_stripe.specs.declared.answer.Answer.TheVariants.{Pushed, Complete, Halted, Copied}
use Rattle.nm_stripe.specs.declared.answer.Answer.TheVariants.{Nothing, LegLost, Refused}
use Rattle.nm_stripe.specs.declared.step.Step.{Step}
use Rattle.nm_stripe.specs.declared.step.Step.TheVariants.{Claim, Flush}
use Rattle.nm_lanes.specs.declared.call_error_kind.CallErrorKind.{CallErrorKind}
use Rattle.nm_lanes.specs.declared.call_error_kind.CallErrorKind.TheVariants as cause
use Rattle.nm_lanes.specs.Done.{Done}

-- the refusals that end a call, whatever step met them
abbrev pub end_of : Refusal → Option CallErrorKind
end_of refusal.Fault = Some cause.Fault
end_of refusal.Stopped = Some cause.Stopped
end_of refusal.Exhausted = Some cause.Exhausted
end_of refusal.Astray = Some cause.Astray
end_of refusal.SaveFailed = Some cause.SaveFailed
end_of other = None

-- the refusals that end a call where a claim met them: these, and that the record is gone
abbrev pub claim_end_of : Refusal → Option CallErrorKind
claim_end_of refusal.NoTicket = Some cause.NoTicket
claim_end_of other = end_of other

-- the answers that end a call: a halt, and such refusals
abbrev pub ends_with : {L : Type 0} → Step L → Answer L → Option CallErrorKind
ends_with step Halted = Some cause.Halted
ends_with (Claim ticket) (Refused refused handed) = claim_end_of refused
ends_with step (Refused refused handed) = end_of refused
ends_with step answer = None

-- whether the refusal found the leg out
abbrev pub finds_out : Refusal → Bool
finds_out refusal.AlreadyOut = true
finds_out other = false

-- the step only helps: it was refused by no end of the call, lost a leg, or pushed or copied. A
-- flush that found its leg out is no help but done; one that lost its leg is tried again.
abbrev pub helps : {L : Type 0} → Step L → Answer L → Bool
helps (Claim ticket) (Refused refused handed) = is_none (claim_end_of refused)
helps (Flush leg) (Refused refused handed) = is_none (end_of refused) && not (finds_out refused)
helps step (Refused refused handed) = is_none (end_of refused)
helps step (LegLost gone handed) = true
helps step (Pushed count) = true
helps step (Complete number) = true
helps step (Copied moved blocks) = true
helps step Nothing = true
helps step answer = false

-- the call's own steps: those that do not only help
abbrev pub own_done : {L : Type 0} → List (Done L) → List (Done L)
own_done [] = []
own_done (d ∷ list) = if helps d.step d.answer then own_done list else d ∷ own_done list

-- the step claims one of our tickets
abbrev pub ClaimsOurs : {L : Type 0} → (ℕ → Type 0) → Step L → Type 0
ClaimsOurs ours (Claim ticket) = ours ticket
ClaimsOurs ours step = ⊥

-- the step's answer is this end of a call; a record that is gone was one of ours
pub record EndsSo {L : Type 0} (ours : ℕ → Type 0) (kind : CallErrorKind) (d : Done L)
    : Type 0 where
  pub answer : ends_with d.step d.answer ≡ Some kind
  pub ticket : kind ≡ cause.NoTicket → ClaimsOurs ours d.step
