-- What waits to go out lies in two chunks.
use Rattle.std.proofs.Common.{◌≡◌, ◌<◌, ℕ, ◌+◌, List, [], ◌++◌, length, take, Option, sym, ap, ◌∙◌, subst, arith}
use Rattle.std.proofs.KnownBytes.{Appends-trans}
use Rattle.std.proofs.Math.Seq.{take-append-add}
use Rattle.std.proofs.lemmas.List.{append-nil, length-append, take-append-le}
use Rattle.std.specs.Io.KnownBytes.{Appends}

-- what is appended to the first chunk follows all that waited, where the second one is empty
pub follows_both : (first more : List ℕ) {old second now : List ℕ} → first ++ second ≡ old → second ≡ []
    → now ≡ first ++ more → now ++ second ≡ old ++ more
follows_both first more {old} {second} {now} is none appended =
    ap (λ (xs : List ℕ). now ++ xs) none
    ∙ append-nil now
    ∙ appended
    ∙ ap (λ (xs : List ℕ). xs ++ more) (sym (append-nil first) ∙ ap (λ (xs : List ℕ). first ++ xs) (sym none) ∙ is)

-- a beginning of the first chunk is one of both
pub sends_of_first : (old new : Option (List ℕ)) (first second : List ℕ) (n : ℕ) → n < length first
    → Appends old new (take n first) → (n < length (first ++ second)) × Appends old new (take n (first ++ second))
sends_of_first old new first second n short went = (
  omega (arith, length-append first second, short),
  subst (Appends old new) (sym (take-append-le n first second (omega (arith, short)))) went,
)

-- the first chunk, and a beginning of the second behind it, is one of both
pub sends_behind : (old mid new : Option (List ℕ)) (first second : List ℕ) (n sent : ℕ) → length first + n ≡ sent
    → Appends old mid first → n < length second → Appends mid new (take n second)
    → (sent < length (first ++ second)) × Appends old new (take sent (first ++ second))
sends_behind old mid new first second n sent is before short now = (
  omega (arith, length-append first second, is, short),
  subst (λ (k : ℕ). Appends old new (take k (first ++ second))) is
      (subst (Appends old new) (sym (take-append-add first second n))
      (Appends-trans old mid new first (take n second) before now)),
)
