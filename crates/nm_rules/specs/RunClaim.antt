-- A claim of a finished run: why it is refused, and what it does.
use Rattle.std.specs.Prelude.{◌≡◌, ℕ, zero, suc, ◌+◌, List, [], ◌∷◌, length, Option, None, is_none}
use Rattle.std.specs.Option.{option_and_then}
use Rattle.nm_replay.specs.Events.{Event, RepliesWrite}
use Rattle.nm_fanout.specs.declared.write_record.Record.{Record}
use Rattle.nm_fanout.specs.Record.{is_under_way}
use Rattle.nm_fanout.specs.Records.{without_each}
use Rattle.nm_rules.specs.declared.refusal.Refusal.{Refusal}
use Rattle.nm_rules.specs.declared.refusal.Refusal.TheVariants.{Stopped, NoTicket, NotYet}
use Rattle.nm_rules.specs.Cause.{when, first_cause}
use Rattle.nm_rules.specs.Runs.{AreFinished, EntryNames, find_run, of_run}
use Rattle.nm_rules.specs.State.{StripeState}

-- the conditions for a refusal of a claim, in the order in which they are tested
abbrev pub claim_run_rows : {L : Type 0} → StripeState L → ℕ
    → List (Option Refusal)
claim_run_rows stripe ticket =
    when stripe.stopped Stopped
    ∷ when (is_none (find_run ticket stripe.records)) NoTicket
    ∷ option_and_then (λ r. when (is_under_way r) NotYet) (find_run ticket stripe.records)
    ∷ []

-- why the run of this ticket may not be claimed
abbrev pub claim_run_cause : {L : Type 0} → StripeState L → ℕ → Option Refusal
claim_run_cause stripe ticket = first_cause (claim_run_rows stripe ticket)

-- the stripe without these records
abbrev pub after_claim_run : {L : Type 0} → StripeState L → List Record → StripeState L
after_claim_run old rs = record old { records = without_each rs old.records }

-- the replies to so many writes, from this ticket and this number on
abbrev pub replies_of : ℕ → ℕ → ℕ → List Event
replies_of ticket number zero = []
replies_of ticket number (suc count) =
    RepliesWrite ticket number ∷ replies_of (ticket + 1) (number + 1) count

-- a claim: all records that name the ticket as their run go, and the answer names their entries
pub record ClaimsRun {L : Type 0} (old new : StripeState L) (ticket : ℕ)
    (answer : EntryNames) : Type 0 where
  pub no_cause : claim_run_cause old ticket ≡ None
  pub are : AreFinished ticket answer.block answer.number
      (of_run ticket old.records) old.records
  pub stripe : answer.stripe ≡ old.place.stripe
  pub count : answer.count ≡ length (of_run ticket old.records)
  pub after : new ≡ after_claim_run old (of_run ticket old.records)
