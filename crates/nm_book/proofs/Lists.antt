-- Lists read at a place, beginnings of a list, and the entries of a shard or a pass.
use Rattle.std.proofs.Common.{◌≡◌, ◌≢◌, ℕ, zero, suc, ◌+◌, ◌<◌, ◌⊎◌, inl, inr, List, [], ◌∷◌, ◌++◌, length, set, Bool, true, false, refl, ap, sym, ◌∙◌, arith, append_assoc, length-append, eqb, eq-eqb, ne_eqb}
use mathlib.Core.Option.{some, some-injective, some-ne-none}
use mathlib.Core.List.{IsPrefix}
use lib.ListN.{get_elem?}
use Rattle.std.proofs.lemmas.List.{append-nil}
use Rattle.nm_book.specs.declared.rule.Entry.{Entry}
use Rattle.nm_book.specs.Log.{of_shard, calls_by, whats}

module _ {A : Type 0} where
  pub prefix_self : (xs : List A) → IsPrefix xs xs
  prefix_self xs = ([], append-nil xs)

  pub prefix_trans : (xs ys zs : List A) → IsPrefix xs ys → IsPrefix ys zs → IsPrefix xs zs
  prefix_trans xs ys zs p q = (p.0 ++ q.0, sym (append_assoc xs p.0 q.0) ∙ (ap (λ w. w ++ q.0) p.1 ∙ q.1))

  pub prefix_longer : (xs ys : List A) (e : A) → IsPrefix xs ys → IsPrefix xs (ys ++ e ∷ [])
  prefix_longer xs ys e p = prefix_trans xs ys (ys ++ e ∷ []) p (e ∷ [], refl)

  -- an element of a list with one more at the end
  pub at_end : (l : List A) (a b : A) (j : ℕ) → get_elem? (l ++ a ∷ []) j ≡ some b
      → ((j < length l) × (get_elem? l j ≡ some b)) ⊎ ((j ≡ length l) × (a ≡ b))
  at_end [] a b zero e = inr (refl, some-injective a b e)
  at_end [] a b (suc j) e = absurd (some-ne-none b (sym e))
  at_end (x ∷ xs) a b zero e = inl (omega arith, e)
  at_end (x ∷ xs) a b (suc j) e = longer (at_end xs a b j e)
    where
      longer : ((j < length xs) × (get_elem? xs j ≡ some b)) ⊎ ((j ≡ length xs) × (a ≡ b))
          → ((suc j < length (x ∷ xs)) × (get_elem? xs j ≡ some b)) ⊎ ((suc j ≡ length (x ∷ xs)) × (a ≡ b))
      longer (inl t) = let l = t.0 in inl (omega arith, t.1)
      longer (inr t) = inr (ap suc t.0, t.1)

  pub is_there : (l : List A) (j : ℕ) (b : A) → get_elem? l j ≡ some b → j < length l
  is_there [] j b e = absurd (some-ne-none b (sym e))
  is_there (x ∷ xs) zero b e = omega arith
  is_there (x ∷ xs) (suc j) b e = let l = is_there xs j b e in omega arith

  pub set_length : (l : List A) (i : ℕ) (a : A) → length (set l i a) ≡ length l
  set_length [] i a = refl
  set_length (x ∷ xs) zero a = refl
  set_length (x ∷ xs) (suc i) a = ap suc (set_length xs i a)

  pub length_end : (l : List A) (a : A) → length (l ++ a ∷ []) ≡ length l + 1
  length_end l a = length-append l (a ∷ [])

module _ {E : Type 0} where
  pub calls_own : (log : List (Entry E)) (e : Entry E) (by : ℕ) → e.by ≡ by → calls_by by (log ++ e ∷ []) ≡ calls_by by log ++ e ∷ []
  calls_own [] e by is = rw (eq-eqb e.by by is) refl
  calls_own (x ∷ log) e by is = step (eqb x.by by) refl (calls_own log e by is)
    where
      step : (b : Bool) → eqb x.by by ≡ b → calls_by by (log ++ e ∷ []) ≡ calls_by by log ++ e ∷ [] → calls_by by ((x ∷ log) ++ e ∷ []) ≡ calls_by by (x ∷ log) ++ e ∷ []
      step true t ih = rw t (ap (λ l. x ∷ l) ih)
      step false t ih = rw t ih

  pub calls_other : (log : List (Entry E)) (e : Entry E) (by : ℕ) → e.by ≢ by → calls_by by (log ++ e ∷ []) ≡ calls_by by log
  calls_other [] e by not = rw (ne_eqb e.by by not) refl
  calls_other (x ∷ log) e by not = step (eqb x.by by) refl (calls_other log e by not)
    where
      step : (b : Bool) → eqb x.by by ≡ b → calls_by by (log ++ e ∷ []) ≡ calls_by by log → calls_by by ((x ∷ log) ++ e ∷ []) ≡ calls_by by (x ∷ log)
      step true t ih = rw t (ap (λ l. x ∷ l) ih)
      step false t ih = rw t ih

  pub shard_own : (log : List (Entry E)) (e : Entry E) (s : ℕ) → e.shard ≡ s → of_shard s (log ++ e ∷ []) ≡ of_shard s log ++ e ∷ []
  shard_own [] e s is = rw (eq-eqb e.shard s is) refl
  shard_own (x ∷ log) e s is = step (eqb x.shard s) refl (shard_own log e s is)
    where
      step : (b : Bool) → eqb x.shard s ≡ b → of_shard s (log ++ e ∷ []) ≡ of_shard s log ++ e ∷ [] → of_shard s ((x ∷ log) ++ e ∷ []) ≡ of_shard s (x ∷ log) ++ e ∷ []
      step true t ih = rw t (ap (λ l. x ∷ l) ih)
      step false t ih = rw t ih

  pub shard_other : (log : List (Entry E)) (e : Entry E) (s : ℕ) → e.shard ≢ s → of_shard s (log ++ e ∷ []) ≡ of_shard s log
  shard_other [] e s not = rw (ne_eqb e.shard s not) refl
  shard_other (x ∷ log) e s not = step (eqb x.shard s) refl (shard_other log e s not)
    where
      step : (b : Bool) → eqb x.shard s ≡ b → of_shard s (log ++ e ∷ []) ≡ of_shard s log → of_shard s ((x ∷ log) ++ e ∷ []) ≡ of_shard s (x ∷ log)
      step true t ih = rw t (ap (λ l. x ∷ l) ih)
      step false t ih = rw t ih

  pub whats_longer : (log : List (Entry E)) (e : Entry E) → whats (log ++ e ∷ []) ≡ whats log ++ e.what ∷ []
  whats_longer [] e = refl
  whats_longer (x ∷ log) e = ap (λ l. x.what ∷ l) (whats_longer log e)

  pub calls_append : (by : ℕ) (log more : List (Entry E)) → calls_by by (log ++ more) ≡ calls_by by log ++ calls_by by more
  calls_append by [] more = refl
  calls_append by (x ∷ log) more = step (eqb x.by by) refl (calls_append by log more)
    where
      step : (b : Bool) → eqb x.by by ≡ b → calls_by by (log ++ more) ≡ calls_by by log ++ calls_by by more → calls_by by ((x ∷ log) ++ more) ≡ calls_by by (x ∷ log) ++ calls_by by more
      step true t ih = rw t (ap (λ l. x ∷ l) ih)
      step false t ih = rw t ih

  nothing_more : (xs ys : List (Entry E)) → xs ++ ys ≡ xs → ys ≡ []
  nothing_more [] ys e = e
  nothing_more (x ∷ xs) ys e = nothing_more xs ys (cc e)

  -- where all of a pass's entries were in the log before, what came since has none
  pub none_since : (by : ℕ) (log more mine : List (Entry E)) → calls_by by log ≡ mine → calls_by by (log ++ more) ≡ mine → calls_by by more ≡ []
  none_since by log more mine before now = nothing_more (calls_by by log) (calls_by by more) (sym (calls_append by log more) ∙ (now ∙ sym before))
