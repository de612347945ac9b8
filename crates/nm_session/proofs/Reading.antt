-- What a read of a piece gives is the front of the bytes that are left.
use Rattle.std.proofs.Common.{◌≡◌, ℕ, ◌<◌, ◌≤◌, List, [], ◌++◌, length, take, drop, min, sym, ap, ◌∙◌, arith, take-append-drop, length-drop}
use Rattle.std.proofs.lemmas.List.{take-take, nil_from_length}

-- as many bytes as were copied are read, and none only where none was left
pub reading : (rest piece filled : List ℕ) (count room : ℕ) → piece ≡ take (length piece) rest
    → (length piece ≡ 0 → rest ≡ []) → count ≡ min (length piece) room
    → take count filled ≡ take count piece
    → (rest ≡ take count filled ++ drop count rest)
    × (count ≡ 0 → 0 < room → drop count rest ≡ [])
reading rest piece filled count room front some is copied =
    let within : count ≤ length piece = omega arith in
    let same : take count filled ≡ take count rest =
    copied ∙ ap (take count) front ∙ take-take count (length piece) rest within in (
      sym (ap (λ (read : List ℕ). read ++ drop count rest) same ∙ take-append-drop count rest),
      λ none space.
          let gone : rest ≡ [] = some (omega arith) in
          nil_from_length (drop count rest) (omega (arith, length-drop count rest, ap length gone)),
    )
