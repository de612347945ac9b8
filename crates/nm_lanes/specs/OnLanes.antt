-- What a call did on the lanes of some stripes that follow one another.
use Rattle.std.specs.Prelude.{Result, Ok, Err, ℕ, ◌+◌, ◌<◌, ◌≤◌, List, length}
use Rattle.nm_lanes.specs.declared.call_error.CallError.{CallError}
use Rattle.nm_lanes.specs.Done.{Done}
use Rattle.nm_lanes.specs.Ends.{EachLane, LaneDid, LaneTries}

-- on each of these lanes the call's own steps were all of the stripe's share
abbrev pub DidLanes : {L D : Type 0} → (D → List (Done L) → D → Type 0)
    → (ℕ → List (Done L) → Type 0) → ℕ → List D × List D → Type 0
DidLanes follows All first lanes =
    EachLane (λ stripe old new. LaneDid follows (All stripe) old new) first lanes.0 lanes.1

-- on each of these lanes they were some of it, and steps ended the call in some of the stripes
pub record EndedLanes {L D : Type 0} (follows : D → List (Done L) → D → Type 0)
    (Share : ℕ → List (Done L) → Type 0) (first : ℕ) (lanes : List D × List D) (cause : CallError)
    : Type 0 where
  pub from : first ≤ cause.stripe
  pub upto : cause.stripe < first + length lanes.0
  pub each :
      EachLane (λ stripe old new. LaneTries follows (Share stripe) cause stripe old new) first
      lanes.0 lanes.1

-- what came of a call on these lanes
abbrev pub RunsLanes : {L D A : Type 0} → (D → List (Done L) → D → Type 0)
    → (ℕ → List (Done L) → Type 0) → (ℕ → List (Done L) → Type 0) → ℕ → List D × List D
    → Result A CallError → Type 0
RunsLanes follows All Share first lanes (Ok done) = DidLanes follows All first lanes
RunsLanes follows All Share first lanes (Err cause) = EndedLanes follows Share first lanes cause
