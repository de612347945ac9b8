-- Which leg a read takes, and which leg becomes master.
use Rattle.std.specs.Prelude.{ℕ, ◌+◌, ◌%◌, Bool, true, false, if◌then◌else◌, List, length}
use Rattle.std.specs.Prelude.{Option, Some, position, slice_get}
use Rattle.nm_choice.specs.declared.leg_state.LegState.{LegState}
use Rattle.nm_choice.specs.declared.leg_state.LegState.TheVariants.{InSync, Joining, Out}
use Rattle.nm_choice.specs.declared.policy.Policy.{Policy}
use Rattle.nm_choice.specs.declared.policy.Policy.TheVariants.{RoundRobin, Striped}

-- the place that a policy picks among so many candidates: by the reads so far, or by the region
abbrev pub place_of : Policy → ℕ → ℕ → ℕ → ℕ
place_of RoundRobin turn region candidates = turn % candidates
place_of Striped turn region candidates = region % candidates

-- the leg that a read takes: a current leg where the region is quiet, and else the master alone
abbrev pub picked : Policy → ℕ → ℕ → List ℕ → ℕ → Bool → Option ℕ
picked policy turn region current master quiet =
    if quiet then slice_get current (place_of policy turn region (length current)) else Some master

-- the turn after a read of a quiet region: 840 is a multiple of each number of legs up to eight
abbrev pub next_turn : ℕ → ℕ
next_turn turn = (turn + 1) % 840

-- whether a leg is in sync
abbrev pub is_in_sync : LegState → Bool
is_in_sync InSync = true
is_in_sync Joining = false
is_in_sync Out = false

-- the leg that becomes master: the lowest in sync
abbrev pub elected : List LegState → Option ℕ
elected states = position is_in_sync states
