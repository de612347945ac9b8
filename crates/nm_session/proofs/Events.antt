-- Events that follow one another are one list.
use Rattle.std.proofs.Common.{◌≡◌, ℕ, List, [], ◌∷◌, ◌++◌, refl, sym, ap, ◌∙◌, subst, append_assoc}
use Rattle.nm_session.specs.Session.{Session}
use Rattle.nm_session.specs.Event.{Event, Fed, Asked, Stopped, Answered, Took, Runs, fed_bytes, taken_bytes}

pub runs-append : (a b c : Session) (xs ys : List Event) → Runs a xs b → Runs b ys c → Runs a (xs ++ ys) c
runs-append a b c [] ys first second = subst (λ (start : Session). Runs start ys c) first second
runs-append a b c (x ∷ xs) ys first second =
    (first.0, first.1, runs-append first.0 b c xs ys first.2 second)

pub fed-append : (xs ys : List Event) → fed_bytes (xs ++ ys) ≡ fed_bytes xs ++ fed_bytes ys
fed-append [] ys = refl
fed-append (Fed piece ∷ xs) ys =
    ap (λ (rest : List ℕ). piece ++ rest) (fed-append xs ys) ∙ sym (append_assoc piece (fed_bytes xs) (fed_bytes ys))
fed-append (Asked request judged ∷ xs) ys = fed-append xs ys
fed-append (Stopped found ∷ xs) ys = fed-append xs ys
fed-append (Answered index outcome ∷ xs) ys = fed-append xs ys
fed-append (Took bytes ∷ xs) ys = fed-append xs ys

pub taken-append : (xs ys : List Event) → taken_bytes (xs ++ ys) ≡ taken_bytes xs ++ taken_bytes ys
taken-append [] ys = refl
taken-append (Fed piece ∷ xs) ys = taken-append xs ys
taken-append (Asked request judged ∷ xs) ys = taken-append xs ys
taken-append (Stopped found ∷ xs) ys = taken-append xs ys
taken-append (Answered index outcome ∷ xs) ys = taken-append xs ys
taken-append (Took bytes ∷ xs) ys =
    ap (λ (rest : List ℕ). bytes ++ rest) (taken-append xs ys)
    ∙ sym (append_assoc bytes (taken_bytes xs) (taken_bytes ys))
