-- What a call does on one lane.
use Rattle.std.specs.Prelude.{◌≡◌, List, [], ◌∷◌, ◌++◌}
use Rattle.nm_lanes.specs.Done.{Done}
use Rattle.nm_lanes.specs.Own.{own_done}

-- steps whose own ones are these lead from one state of the lane to another
pub record LaneDoes {L D : Type 0} (follows : D → List (Done L) → D → Type 0) (old new : D)
    (own : List (Done L)) : Type 0 where
  pub list : List (Done L)
  pub leads : follows old list new
  pub own_is : own_done list ≡ own

-- the same with one step more at the end, which ends the call
pub record LaneStops {L D : Type 0} (follows : D → List (Done L) → D → Type 0) (old new : D)
    (own : List (Done L)) (Ends : Done L → Type 0) : Type 0 where
  pub list : List (Done L)
  pub last : Done L
  pub leads : follows old (list ++ last ∷ []) new
  pub own_is : own_done list ≡ own
  pub ends : Ends last
