-- What a sync of every leg does on one lane, and on those of stripes that follow one another.
use Rattle.std.specs.Prelude.{Result, ◌≡◌, ◌⊎◌, ℕ, ◌+◌, ◌<◌, ◌≤◌, ◌%◌, List, [], ◌∷◌}
use Rattle.nm_geometry.specs.Geometry.{Geometry}
use Rattle.nm_lanes.specs.declared.call_error.CallError.{CallError}
use Rattle.nm_lanes.specs.declared.call_error_kind.CallErrorKind.{CallErrorKind}
use Rattle.nm_lanes.specs.Done.{Done}
use Rattle.nm_lanes.specs.Flushes.{SyncsOne, IsStripeFlush}
use Rattle.nm_lanes.specs.Lane.{LaneDoes, LaneStops}
use Rattle.nm_lanes.specs.Own.{EndsSo}
use Rattle.nm_lanes.specs.OnLanes.{RunsLanes}
use Rattle.nm_lanes.specs.Steps.{Nobodys}

-- all steps are syncs of so many legs
abbrev pub AllSync : {L : Type 0} → ℕ → List (Done L) → Type 0
AllSync legs [] = Unit {0}
AllSync legs (d ∷ own) = SyncsOne legs d × AllSync legs own

-- the steps are syncs of so many legs, and each of these was synced
pub record IsLegSyncs {L : Type 0} (legs : ℕ) (own : List (Done L)) : Type 0 where
  pub only : AllSync legs own
  pub each : IsStripeFlush legs own

-- what came of syncs of every leg on these lanes, of which the first is this stripe's
abbrev pub SyncsLanes : {L D A : Type 0} → (D → List (Done L) → D → Type 0) → ℕ → ℕ
    → List D × List D → Result A CallError → Type 0
SyncsLanes follows legs first lanes result =
    RunsLanes follows (λ stripe own. IsLegSyncs legs own) (λ stripe own. AllSync legs own) first
    lanes result

-- the first legs were synced, of so many, and nothing else was done
pub record LaneSyncs {L D : Type 0} (follows : D → List (Done L) → D → Type 0) (lanes : D × D)
    (legs first : ℕ) : Type 0 where
  pub own : List (Done L)
  pub does : LaneDoes follows lanes.0 lanes.1 own
  pub only : AllSync legs own
  pub each : IsStripeFlush first own

-- legs were synced, and nothing else was done; then a sync ended the call
pub record LaneSyncStops {L D : Type 0} (follows : D → List (Done L) → D → Type 0)
    (lanes : D × D) (legs : ℕ) (kind : CallErrorKind) : Type 0 where
  pub own : List (Done L)
  pub only : AllSync legs own
  pub stops : LaneStops follows lanes.0 lanes.1 own (EndsSo Nobodys kind)

-- the stripe is one of so many that follow one another in turn, from this number on
pub record IsAround (shape : Geometry) (first count stripe : ℕ) : Type 0 where
  pub number : ℕ
  pub inside : number < count
  pub stripe_is : (first + number) % shape.stripes ≡ stripe

-- the stripe is below the first number, or from the second on below the third
abbrev pub InSpans : ℕ → ℕ → ℕ → ℕ → Type 0
InSpans low first end stripe = (stripe < low) ⊎ ((first ≤ stripe) × (stripe < end))
