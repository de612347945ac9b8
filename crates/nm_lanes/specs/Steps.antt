-- What a call does on a lane for one step of its own, however often it is tried.
use Rattle.std.specs.Prelude.{Result, Ok, Err, ◌≡◌, ◌⊎◌, ℕ, ◌*◌, Bool, true, false, List, [], ◌∷◌}
use Rattle.std.specs.Prelude.{Some, None, length}
use Rattle.nm_rules.specs.declared.refusal.Refusal.{Refusal}
use Rattle.nm_stripe.specs.declared.answer.Answer.{Answer}
use Rattle.nm_stripe.specs.declared.answer.Answer.TheVariants.{Begun, Written}
use Rattle.nm_stripe.specs.declared.step.Step.{Step}
use Rattle.nm_stripe.specs.declared.step.Step.TheVariants.{Begin, Claim, Read}
use Rattle.nm_fanout.specs.declared.block_data.Data.{Data}
use Rattle.nm_lanes.specs.declared.call_error_kind.CallErrorKind.{CallErrorKind}
use Rattle.nm_lanes.specs.Done.{Done, done_as}
use Rattle.nm_lanes.specs.Own.{end_of, EndsSo}
use Rattle.nm_lanes.specs.Lane.{LaneDoes, LaneStops}

-- a write is done
abbrev pub IsWritten : {L : Type 0} → Answer L → Type 0
IsWritten (Written written) = Unit {0}
IsWritten answer = ⊥

-- no ticket is ours
abbrev pub Nobodys : ℕ → Type 0
Nobodys ticket = ⊥

-- a refusal that ends the call, before anything else was done; or it does not, and a step that
-- should help on ended the call
abbrev pub EndsHere : {L D : Type 0} → (D → List (Done L) → D → Type 0) → D × D
    → Refusal → CallErrorKind → Type 0
EndsHere {L} follows lanes refusal kind =
    ((end_of refusal ≡ Some kind) × (lanes.1 ≡ lanes.0))
    ⊎ ((end_of refusal ≡ None)
    × LaneStops {L = L} follows lanes.0 lanes.1 [] (EndsSo Nobodys kind))

-- the step was done once, with an answer of this kind; beside it others only helped
pub record Completes {L D : Type 0} (follows : D → List (Done L) → D → Type 0) (old new : D)
    (step : Step L) (IsAnswer : Answer L → Type 0) : Type 0 where
  pub answer : Answer L
  pub does : LaneDoes follows old new (done_as step answer ∷ [])
  pub is_answer : IsAnswer answer

-- the step was done once, or nothing was done but such as helps
abbrev pub Turns : {L D : Type 0} → (D → List (Done L) → D → Type 0) → D × D
    → Step L → (Answer L → Type 0) → Bool → Type 0
Turns follows lanes step IsAnswer true = Completes follows lanes.0 lanes.1 step IsAnswer
Turns follows lanes step IsAnswer false = LaneDoes follows lanes.0 lanes.1 []

-- a read of so many blocks from this one on was done once, with an answer of this kind
pub record CompletesRead {L D : Type 0} (follows : D → List (Done L) → D → Type 0) (old new : D)
    (block count : ℕ) (IsAnswer : Answer L → Type 0) : Type 0 where
  pub room : List ℕ
  pub long : length room ≡ 512 * count
  pub completes : Completes follows old new (Read block room) IsAnswer

-- such a read was done once, or nothing was done but such as helps
abbrev pub ReadTurns : {L D : Type 0} → (D → List (Done L) → D → Type 0) → D × D
    → ℕ → ℕ → (Answer L → Type 0) → Bool → Type 0
ReadTurns follows lanes block count IsAnswer true =
    CompletesRead follows lanes.0 lanes.1 block count IsAnswer
ReadTurns follows lanes block count IsAnswer false = LaneDoes follows lanes.0 lanes.1 []

-- a write began, and nothing else was done but such as helps
abbrev pub LaneBegins : {L D : Type 0} → (D → List (Done L) → D → Type 0) → D × D
    → ℕ → Data → ℕ → Type 0
LaneBegins follows lanes block bytes ticket =
    LaneDoes follows lanes.0 lanes.1 (done_as (Begin block bytes) (Begun ticket) ∷ [])

-- a write began under this ticket, or nothing was done but such as helps and its data have come
-- back
abbrev pub BeginTurns : {L D : Type 0} → (D → List (Done L) → D → Type 0) → D × D
    → ℕ → Data → Result ℕ Data → Type 0
BeginTurns follows lanes block bytes (Ok ticket) = LaneBegins follows lanes block bytes ticket
BeginTurns follows lanes block bytes (Err handed) =
    (handed ≡ bytes) × LaneDoes follows lanes.0 lanes.1 []

-- this ticket alone is ours
abbrev pub Only : ℕ → ℕ → Type 0
Only ticket other = other ≡ ticket

-- a write began and was claimed under its ticket
pub record LaneWrites {L D : Type 0} (follows : D → List (Done L) → D → Type 0) (old new : D)
    (block : ℕ) (bytes : Data) : Type 0 where
  pub ticket : ℕ
  pub answer : Answer L
  pub does : LaneDoes follows old new
      (done_as (Begin block bytes) (Begun ticket) ∷ done_as (Claim ticket) answer ∷ [])
  pub written : IsWritten answer

-- the call ended in a write: before it began, or after its begin
abbrev pub LaneWriteStops : {L D : Type 0} → (D → List (Done L) → D → Type 0) → D × D
    → ℕ → Data → CallErrorKind → Type 0
LaneWriteStops {L} follows lanes block bytes kind =
    LaneStops {L = L} follows lanes.0 lanes.1 [] (EndsSo Nobodys kind)
    ⊎ ((ticket : ℕ)
    × LaneStops follows lanes.0 lanes.1 (done_as (Begin block bytes) (Begun ticket) ∷ [])
    (EndsSo (Only ticket) kind))
