-- What holds of each lane, one list of lanes after the other.
use Rattle.std.proofs.Common.{◌≡◌, ℕ, suc, ◌+◌, ◌<◌, ◌≤◌, List, [], ◌∷◌, ◌++◌, length, get_or, slice_set, refl, ap, subst, arith}
use Rattle.nm_lanes.specs.Ends.{EachLane}

module _ {D : Type 0} where
  pub each-append : (Goes : ℕ → D → D → Type 0) (first : ℕ) (xs us ys vs : List D) → EachLane Goes first xs us → EachLane Goes (first + length xs) ys vs → EachLane Goes first (xs ++ ys) (us ++ vs)
  each-append Goes first [] [] ys vs a b = let e : first + 0 ≡ first = omega arith in subst (λ (n : ℕ). EachLane Goes n ys vs) e b
  each-append Goes first (x ∷ xs) (u ∷ us) ys vs a b =
      let e : first + length (x ∷ xs) ≡ first + 1 + length xs = omega arith in
      (a.0, each-append Goes (first + 1) xs us ys vs a.1 (subst (λ (n : ℕ). EachLane Goes n ys vs) e b))
  each-append Goes first [] (u ∷ us) ys vs a b = absurd a
  each-append Goes first (x ∷ xs) [] ys vs a b = absurd a

  pub each-map : (Goes Other : ℕ → D → D → Type 0) (first : ℕ) (xs us : List D) → ((stripe : ℕ) (old new : D) → first ≤ stripe → stripe < first + length xs → Goes stripe old new → Other stripe old new) → EachLane Goes first xs us → EachLane Other first xs us
  each-map Goes Other first [] [] more a = tt
  each-map Goes Other first (x ∷ xs) (u ∷ us) more a = (
    more first x u (omega arith) (omega arith) a.0,
    each-map Goes Other (first + 1) xs us (λ stripe old new from upto goes. more stripe old new (omega (arith, from)) (omega (arith, upto)) goes) a.1,
  )
  each-map Goes Other first [] (u ∷ us) more a = absurd a
  each-map Goes Other first (x ∷ xs) [] more a = absurd a

  pub each-same : (Goes : ℕ → D → D → Type 0) (first : ℕ) (xs : List D) → ((stripe : ℕ) (lane : D) → first ≤ stripe → stripe < first + length xs → Goes stripe lane lane) → EachLane Goes first xs xs
  each-same Goes first [] rests = tt
  each-same Goes first (x ∷ xs) rests = (
    rests first x (omega arith) (omega arith),
    each-same Goes (first + 1) xs (λ stripe lane from upto. rests stripe lane (omega (arith, from)) (omega (arith, upto))),
  )

  pub each-one : (Goes : ℕ → D → D → Type 0) (first : ℕ) (xs : List D) (d new : D) → length xs ≡ 1 → Goes first (get_or xs 0 d) new → EachLane Goes first xs (slice_set xs 0 new)
  each-one Goes first [] d new one a = absurd (omega (arith, one))
  each-one Goes first (x ∷ []) d new one a = (a, tt)
  each-one Goes first (x ∷ (y ∷ xs)) d new one a = absurd (omega (arith, one))

  pub each-long : (Goes : ℕ → D → D → Type 0) (first : ℕ) (xs us : List D) → EachLane Goes first xs us → length us ≡ length xs
  each-long Goes first [] [] a = refl
  each-long Goes first (x ∷ xs) (u ∷ us) a = ap (λ n. suc n) (each-long Goes (first + 1) xs us a.1)
  each-long Goes first [] (u ∷ us) a = absurd a
  each-long Goes first (x ∷ xs) [] a = absurd a
