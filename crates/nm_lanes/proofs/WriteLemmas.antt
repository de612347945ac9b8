-- The write of one block: a begin, pushes and a claim.
use Rattle.std.proofs.Common.{◌≡◌, inr, ℕ, is_none, Some, None, List, [], ◌∷◌, ◌++◌, refl, ap}
use Rattle.nm_fanout.specs.declared.block_data.Data.{Data}
use Rattle.nm_rules.specs.declared.refusal.Refusal.{Refusal}
use Rattle.nm_rules.specs.Runs.{EntryNames}
use Rattle.nm_stripe.specs.declared.answer.Answer.TheVariants.{Begun, Written}
use Rattle.nm_stripe.specs.declared.step.Step.TheVariants.{Begin, Claim}
use Rattle.nm_lanes.specs.declared.call_error_kind.CallErrorKind.{CallErrorKind}
use Rattle.nm_lanes.specs.Answers.{refused_with_nothing}
use Rattle.nm_lanes.specs.Done.{Done, done_as}
use Rattle.nm_lanes.specs.Own.{claim_end_of, EndsSo}
use Rattle.nm_lanes.specs.Lane.{LaneDoes, LaneStops}
use Rattle.nm_lanes.specs.Steps.{Nobodys, Only, Completes, IsWritten, LaneWrites, LaneWriteStops}
use Rattle.nm_lanes.proofs.LaneLemmas.{does-own, does-does, does-stops, does-help, refused-goes, stops-one, stops-more}

module _ {L D : Type 0} (follows : D → List (Done L) → D → Type 0) where
  -- a claim that was answered
  pub claim-done : (old new : D) (ticket : ℕ) (written : EntryNames) → follows old (done_as (Claim ticket) (Written written) ∷ []) new → Completes follows old new (Claim ticket) IsWritten
  claim-done old new ticket written leads = record { answer = Written written; does = does-own follows old new (Claim ticket) (Written written) leads refl; is_answer = tt }

  -- a claim that was refused by an end of the call
  pub claim-ends : (old new : D) (ticket : ℕ) (r : Refusal) (kind : CallErrorKind) → follows old (done_as (Claim ticket) (refused_with_nothing r) ∷ []) new → claim_end_of r ≡ Some kind → LaneStops follows old new [] (EndsSo (Only ticket) kind)
  claim-ends old new ticket r kind leads is =
      stops-one follows old new (Claim ticket) (refused_with_nothing r) (EndsSo (Only ticket) kind) leads (record { answer = is; ticket = λ e. refl })

module _ {L D : Type 0} (follows : D → List (Done L) → D → Type 0)
    (joins : (first mid last : D) (before after : List (Done L)) → follows first before mid → follows mid after last → follows first (before ++ after) last) where
  -- a claim that was refused, and the pushes after it
  pub claim-goes : (old mid new : D) (ticket : ℕ) (r : Refusal) → follows old (done_as (Claim ticket) (refused_with_nothing r) ∷ []) mid → claim_end_of r ≡ None → LaneDoes follows mid new [] → LaneDoes follows old new []
  claim-goes old mid new ticket r leads none after =
      refused-goes follows joins old mid new (Claim ticket) (refused_with_nothing r) leads (ap (λ x. is_none x) none) after

  pub claim-stops : (old mid new : D) (ticket : ℕ) (r : Refusal) (kind : CallErrorKind) → follows old (done_as (Claim ticket) (refused_with_nothing r) ∷ []) mid → claim_end_of r ≡ None → LaneStops follows mid new [] (EndsSo Nobodys kind) → LaneStops follows old new [] (EndsSo (Only ticket) kind)
  claim-stops old mid new ticket r kind leads none after =
      does-stops follows joins old mid new [] [] (EndsSo (Only ticket) kind)
      (does-help follows old mid (Claim ticket) (refused_with_nothing r) leads (ap (λ x. is_none x) none))
      (stops-more follows mid new [] Nobodys (Only ticket) kind (λ t h. absurd h) after)

  -- begun, pushed and claimed
  pub write-done : (old begun pushed new : D) (block : ℕ) (bytes : Data) (ticket : ℕ) → LaneDoes follows old begun (done_as (Begin block bytes) (Begun ticket) ∷ []) → LaneDoes follows begun pushed []
      → Completes follows pushed new (Claim ticket) IsWritten → LaneWrites follows old new block bytes
  write-done old begun pushed new block bytes ticket a b e = record {
    ticket = ticket;
    answer = e.answer;
    does = does-does follows joins old begun new (done_as (Begin block bytes) (Begun ticket) ∷ []) (done_as (Claim ticket) e.answer ∷ []) a
        (does-does follows joins begun pushed new [] (done_as (Claim ticket) e.answer ∷ []) b e.does);
    written = e.is_answer;
  }

  -- begun, and the end of the call
  pub pushes-stop : (old begun new : D) (block : ℕ) (bytes : Data) (ticket : ℕ) (kind : CallErrorKind) → LaneDoes follows old begun (done_as (Begin block bytes) (Begun ticket) ∷ [])
      → LaneStops follows begun new [] (EndsSo Nobodys kind) → LaneWriteStops follows (old, new) block bytes kind
  pushes-stop old begun new block bytes ticket kind a b =
      inr (ticket, does-stops follows joins old begun new (done_as (Begin block bytes) (Begun ticket) ∷ []) [] (EndsSo (Only ticket) kind) a (stops-more follows begun new [] Nobodys (Only ticket) kind (λ t h. absurd h) b))

  pub claims-stop : (old begun pushed new : D) (block : ℕ) (bytes : Data) (ticket : ℕ) (kind : CallErrorKind) → LaneDoes follows old begun (done_as (Begin block bytes) (Begun ticket) ∷ []) → LaneDoes follows begun pushed []
      → LaneStops follows pushed new [] (EndsSo (Only ticket) kind) → LaneWriteStops follows (old, new) block bytes kind
  claims-stop old begun pushed new block bytes ticket kind a b e =
      inr (ticket, does-stops follows joins old begun new (done_as (Begin block bytes) (Begun ticket) ∷ []) [] (EndsSo (Only ticket) kind) a (does-stops follows joins begun pushed new [] [] (EndsSo (Only ticket) kind) b e))
