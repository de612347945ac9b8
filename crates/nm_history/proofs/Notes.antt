-- One more in what is noted.
use Rattle.std.proofs.Common.{◌≡◌, ℕ, List, [], ◌∷◌, ◌++◌, refl, sym, ap, subst, ◌∙◌}
use Rattle.std.proofs.lemmas.List.{append-nil}
use Rattle.nm_leg.specs.Leg.{LegType}
use Rattle.nm_history.specs.declared.transition.Noted.{Noted}
use Rattle.nm_history.specs.declared.transition.Noted.TheVariants.{Asked, Heard, Moved}
use Rattle.nm_history.specs.declared.transition.Transition.{Transition}
use Rattle.nm_history.specs.History.{LegalMoves}
use Rattle.nm_history.specs.Notes.{LegalNotes, moves_of}

pub moves-append : {L : Type 0} (xs ys : List (Noted L)) → moves_of (xs ++ ys) ≡ moves_of xs ++ moves_of ys
moves-append [] ys = refl
moves-append {L} (Moved t ∷ xs) ys = ap (λ (l : List (Transition L)). t ∷ l) (moves-append xs ys)
moves-append (Asked index payload ∷ xs) ys = moves-append xs ys
moves-append (Heard place ∷ xs) ys = moves-append xs ys

module _ {L : Type 0} (type : LegType L) (number : ℕ) (list : List (Noted L)) where
  -- a transition more
  pub moved-legal : (t : Transition L) → LegalMoves type number (moves_of list ++ t ∷ []) → LegalNotes type number (list ++ Moved t ∷ [])
  moved-legal t moves = subst (λ (l : List (Transition L)). LegalMoves type number l) (sym (moves-append list (Moved t ∷ []))) moves

  -- a request more
  pub asked-legal : (index : ℕ) (payload : List ℕ) → LegalNotes type number list → LegalNotes type number (list ++ Asked index payload ∷ [])
  asked-legal index payload legal = subst (λ (l : List (Transition L)). LegalMoves type number l) (sym (moves-append list (Asked index payload ∷ []) ∙ append-nil (moves_of list))) legal

  -- a note more of what was heard
  pub heard-legal : (place : ℕ) → LegalNotes type number list → LegalNotes type number (list ++ Heard place ∷ [])
  heard-legal place legal = subst (λ (l : List (Transition L)). LegalMoves type number l) (sym (moves-append list (Heard place ∷ []) ∙ append-nil (moves_of list))) legal
