-- Sets of legs that are compared bit by bit.
use Rattle.std.proofs.Common.{◌≡◌, ◌↔◌, Bool, true, false, IsTrue, List, [], ◌∷◌, refl, sym, ap, ◌∙◌, subst}
use Rattle.std.proofs.Math.Bool.{beq}
use Rattle.std.specs.Cmp.Lexicographic.{pointwise}

bits-same : (xs ys : List Bool) → pointwise beq xs ys ≡ true → xs ≡ ys
bits-same [] [] is = refl
bits-same [] (y ∷ ys) is = cc
bits-same (x ∷ xs) [] is = cc
bits-same (true ∷ xs) (true ∷ ys) is = ap (λ (t : List Bool). true ∷ t) (bits-same xs ys is)
bits-same (true ∷ xs) (false ∷ ys) is = cc
bits-same (false ∷ xs) (true ∷ ys) is = cc
bits-same (false ∷ xs) (false ∷ ys) is = ap (λ (t : List Bool). false ∷ t) (bits-same xs ys is)

bits-self : (xs : List Bool) → pointwise beq xs xs ≡ true
bits-self [] = refl
bits-self (true ∷ xs) = bits-self xs
bits-self (false ∷ xs) = bits-self xs

pub same-bits : (xs ys : List Bool) (test : Bool) → test ≡ pointwise beq xs ys → IsTrue test ↔ (xs ≡ ys)
same-bits xs ys test is = (
  λ on. bits-same xs ys (sym is ∙ on),
  λ same. is ∙ subst (λ (zs : List Bool). pointwise beq xs zs ≡ true) same (bits-self xs),
)
