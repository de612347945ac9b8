-- Worked rows: what a leg remembers of two regions of two blocks, as writes and syncs come.
use Rattle.std.proofs.Common.{◌≡◌, ℕ, true, false, [], ◌∷◌, refl}
use Rattle.nm_file_leg.specs.Remembered.{Remembered, remembered, cursors_lost}

-- the last writes of the regions are of these periods, and nothing was lost
abbrev two : (running covered first second : ℕ) → Remembered
two running covered first second =
    remembered 2 4 (record { running = running; covered = covered }) (first ∷ second ∷ []) (4 ∷ 4 ∷ [])

-- a leg as it is made: both may have been written
made : (two 1 0 1 1).written ≡ true ∷ true ∷ []
made = refl

-- a sync has begun: both are written still
begun : (two 2 0 1 1).written ≡ true ∷ true ∷ []
begun = refl

-- the second region was written while it ran: the sync, which has succeeded, covers the first alone
ended : (two 2 1 1 2).written ≡ false ∷ true ∷ []
ended = refl

-- where the next one fails, the second is lost from its first block on
failed : cursors_lost (two 3 1 1 2) 2 0 ≡ 4 ∷ 2 ∷ []
failed = refl

-- where it had failed, both were
both-failed : cursors_lost (two 2 0 1 2) 2 0 ≡ 0 ∷ 2 ∷ []
both-failed = refl
