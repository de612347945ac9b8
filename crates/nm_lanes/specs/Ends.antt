-- What a call did on each lane, where steps ended it in some stripes.
use Rattle.std.specs.Prelude.{◌≡◌, ◌⊎◌, ℕ, ◌+◌, ◌<◌, ◌≤◌, List, [], ◌∷◌, ◌++◌, length}
use Rattle.nm_fanout.specs.declared.block_data.Data.{Data}
use Rattle.nm_stripe.specs.declared.answer.Answer.TheVariants.{Begun}
use Rattle.nm_stripe.specs.declared.step.Step.TheVariants.{Begin}
use Rattle.nm_lanes.specs.declared.call_error.CallError.{CallError}
use Rattle.nm_lanes.specs.declared.call_error_kind.CallErrorKind.{CallErrorKind}
use Rattle.nm_lanes.specs.declared.call_error_kind.CallErrorKind.TheVariants.{Gone}
use Rattle.nm_lanes.specs.Cuts.{AreZeroes}
use Rattle.nm_lanes.specs.Done.{Done, done_as}
use Rattle.nm_lanes.specs.Lane.{LaneDoes, LaneStops}
use Rattle.nm_lanes.specs.Own.{EndsSo}

-- each lane went so from its state before to its state after; the first is this stripe's, and the
-- others follow
abbrev pub EachLane : {D : Type 0} → (ℕ → D → D → Type 0) → ℕ → List D → List D → Type 0
EachLane Goes stripe [] [] = Unit {0}
EachLane Goes stripe (old ∷ olds) (new ∷ news) =
    Goes stripe old new × EachLane Goes (stripe + 1) olds news
EachLane Goes stripe olds news = ⊥

-- the last of these steps began no write, so that each write that they began is claimed
abbrev pub EndsClaimed : {L : Type 0} → List (Done L) → Type 0
EndsClaimed [] = Unit {0}
EndsClaimed (d ∷ []) = (ticket : ℕ) → d.answer ≡ Begun ticket → ⊥
EndsClaimed (d ∷ (e ∷ own)) = EndsClaimed (e ∷ own)

-- the last of these steps began the write of this ticket
pub record BeganOwn {L : Type 0} (own : List (Done L)) (ticket : ℕ) : Type 0 where
  pub before : List (Done L)
  pub last : Done L
  pub own_is : own ≡ before ++ last ∷ []
  pub begun : last.answer ≡ Begun ticket

-- after these own steps a write of zeroes is left of the share
pub record LeavesZeroes {L : Type 0} (Share : List (Done L) → Type 0) (own : List (Done L))
    : Type 0 where
  pub block : ℕ
  pub bytes : Data
  pub ticket : ℕ
  pub zeroes : AreZeroes bytes
  pub next : Share (own ++ done_as (Begin block bytes) (Begun ticket) ∷ [])

-- the call ended on the lane after these own steps: one step more was answered so; or its caller
-- was gone, and it did no more: zeroes are left to be written, and no write of theirs unclaimed
pub data LaneEnds {L D : Type 0} (follows : D → List (Done L) → D → Type 0)
    (Share : List (Done L) → Type 0) (lane : D × D) (own : List (Done L)) (kind : CallErrorKind)
    : Type 0 where
  ByStep : LaneStops follows lane.0 lane.1 own (EndsSo (BeganOwn own) kind)
      → LaneEnds follows Share lane own kind
  ByLeaving : kind ≡ Gone → LeavesZeroes Share own → EndsClaimed own
      → LaneDoes follows lane.0 lane.1 own → LaneEnds follows Share lane own kind

-- on a lane the call's own steps were all of its share, no write of theirs is left unclaimed, and
-- nothing ended the call
pub record LaneDid {L D : Type 0} (follows : D → List (Done L) → D → Type 0)
    (All : List (Done L) → Type 0) (old new : D) : Type 0 where
  pub own : List (Done L)
  pub all : All own
  pub claimed : EndsClaimed own
  pub does : LaneDoes follows old new own

-- a call that was ended: on the lane of this stripe its own steps were some of its share, in order.
-- It did not end there, and no write of theirs is left unclaimed; or it ended there, which happens
-- in no stripe below the cause's. In the cause's stripe it did, for the cause.
pub record LaneTries {L D : Type 0} (follows : D → List (Done L) → D → Type 0)
    (Share : List (Done L) → Type 0) (cause : CallError) (stripe : ℕ) (old new : D) : Type 0 where
  pub own : List (Done L)
  pub share : Share own
  pub did : (EndsClaimed own × LaneDoes follows old new own)
      ⊎ ((cause.stripe ≤ stripe)
      × (kind : CallErrorKind) × LaneEnds follows Share (old, new) own kind)
  pub ends : stripe ≡ cause.stripe → LaneEnds follows Share (old, new) own cause.kind

-- a call that was ended, on all lanes
pub record HasTried {L D : Type 0} (follows : D → List (Done L) → D → Type 0)
    (Share : ℕ → List (Done L) → Type 0) (lanes : List D × List D) (cause : CallError)
    : Type 0 where
  pub inside : cause.stripe < length lanes.0
  pub each :
      EachLane (λ stripe old new. LaneTries follows (Share stripe) cause stripe old new) 0
      lanes.0 lanes.1
