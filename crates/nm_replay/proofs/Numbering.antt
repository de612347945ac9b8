-- Numbers that rise by one, in lists that are joined.
use Rattle.std.proofs.Common.{◌≡◌, ℕ, zero, suc, ◌+◌, List, [], ◌∷◌, ◌++◌, length, arith, subst, ap, sym, slice_get}
use Rattle.std.specs.Prelude.{Some}
use Rattle.std.proofs.lemmas.Option.{same_Some}
use Rattle.nm_replay.specs.declared.entry.Entry.{Entry}
use Rattle.nm_replay.specs.History.{NumberedFrom, IsNumbered}

pub numbered-append : (next : ℕ) (xs ys : List Entry) → NumberedFrom next xs → NumberedFrom (next + length xs) ys → NumberedFrom next (xs ++ ys)
numbered-append next [] ys earlier rest = let same : next + 0 ≡ next = omega arith in subst (λ n. NumberedFrom n ys) same rest
numbered-append next (x ∷ xs) ys earlier rest =
    let same : next + suc (length xs) ≡ next + 1 + length xs = omega arith in
    (earlier.0, numbered-append (next + 1) xs ys earlier.1 (subst (λ n. NumberedFrom n ys) same rest))

pub numbered-front : (next : ℕ) (xs ys : List Entry) → NumberedFrom next (xs ++ ys) → NumberedFrom next xs
numbered-front next [] ys all = tt
numbered-front next (x ∷ xs) ys all = (all.0, numbered-front (next + 1) xs ys all.1)

pub numbered-rest : (next : ℕ) (xs ys : List Entry) → NumberedFrom next (xs ++ ys) → NumberedFrom (next + length xs) ys
numbered-rest next [] ys all = let same : next ≡ next + 0 = omega arith in subst (λ n. NumberedFrom n ys) same all
numbered-rest next (x ∷ xs) ys all =
    let same : next + 1 + length xs ≡ next + suc (length xs) = omega arith in
    subst (λ n. NumberedFrom n ys) same (numbered-rest (next + 1) xs ys all.1)

-- numbered from anywhere is numbered
pub numbered-somewhere : (next : ℕ) (xs : List Entry) → NumberedFrom next xs → IsNumbered xs
numbered-somewhere next [] from = tt
numbered-somewhere next (x ∷ xs) from =
    let same : next + 1 ≡ x.seq + 1 = omega (arith, from.0) in subst (λ n. NumberedFrom n xs) same from.1

-- an entry's number follows from its place
pub numbered-at : (next : ℕ) (xs : List Entry) (i : ℕ) (e : Entry) → NumberedFrom next xs → slice_get xs i ≡ Some e → e.seq ≡ next + i
numbered-at next [] i e numbers found = absurd (cc)
numbered-at next (x ∷ xs) zero e numbers found =
    let same : e.seq ≡ x.seq = ap (λ (y : Entry). y.seq) (sym (same_Some x e found)) in omega (arith, same, numbers.0)
numbered-at next (x ∷ xs) (suc i) e numbers found =
    let later : e.seq ≡ next + 1 + i = numbered-at (next + 1) xs i e numbers.1 found in omega (arith, later)
