-- What is noted in the log of a mirror: the transitions of its stripes, the arrivals of the
-- requests of its sessions, and what passes hear of it.
use Rattle.std.specs.Prelude.{ℕ, List, [], ◌∷◌}
use Rattle.nm_book.specs.declared.rule.Entry.{Entry}
use Rattle.nm_book.specs.Log.{whats}
use Rattle.nm_leg.specs.Leg.{LegType}
use Rattle.nm_history.specs.declared.transition.Noted.{Noted}
use Rattle.nm_history.specs.declared.transition.Noted.TheVariants.{Asked, Heard, Moved}
use Rattle.nm_history.specs.declared.transition.Transition.{Transition}
use Rattle.nm_history.specs.History.{LegalMoves}

-- the transitions among what is noted
abbrev pub moves_of : {L : Type 0} → List (Noted L) → List (Transition L)
moves_of [] = []
moves_of (Moved t ∷ list) = t ∷ moves_of list
moves_of (Asked index payload ∷ list) = moves_of list
moves_of (Heard place ∷ list) = moves_of list

-- the transitions among these entries of a log
abbrev pub transitions : {L : Type 0} → List (Entry (Noted L)) → List (Transition L)
transitions log = moves_of (whats log)

-- Of what is noted in the shard of this number the transitions are the history of the stripe of
-- that number. Requests may come, and passes hear, whenever they do.
abbrev pub LegalNotes : {L : Type 0} → LegType L → ℕ → List (Noted L) → Type 0
LegalNotes type number list = LegalMoves type number (moves_of list)
