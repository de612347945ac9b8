-- Pieces of a text that are written one after the other make a longer prefix.
use Rattle.std.proofs.Common.{◌≡◌, ℕ, ◌-◌, List, ◌++◌, length, take, drop, Option, sym, ap, ◌∙◌, append_assoc, take-append-drop}
use Rattle.std.proofs.lemmas.List.{take_rest}
use Rattle.std.specs.Io.KnownBytes.{Appends}
use Rattle.std.proofs.KnownBytes.{Appends-trans}

-- a prefix, and then a piece of the rest
pub sent_more : (old mid new : Option (List ℕ)) (bytes prefix rest : List ℕ) (n : ℕ) →
    bytes ≡ prefix ++ rest →
    Appends old mid prefix → Appends mid new (take n rest) →
    (x : List ℕ) × (bytes ≡ x ++ take (length rest - n) (drop n rest)) × Appends old new x
sent_more old mid new bytes prefix rest n e first then = (
  prefix ++ take n rest,
  rw (take_rest rest n) (e ∙ ap (λ r. prefix ++ r) (sym (take-append-drop n rest)) ∙
      sym (append_assoc prefix (take n rest) (drop n rest))),
  Appends-trans old mid new prefix (take n rest) first then,
)
