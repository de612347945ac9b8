-- The highest stamp of the sectors so far.
use Rattle.std.proofs.Common.{◌≡◌, ◌⊎◌, ⊎_elim, inl, inr, ℕ, ◌+◌, ◌<◌, ◌≤◌, List, refl, sym, ◌∙◌, subst, arith}
use Rattle.nm_superblock.specs.Sectors.{HasMagic, stamp_of}
use Rattle.nm_superblock.specs.Slots.{IsHighestStamp}

-- of no sector it is 0
pub first-highest : (slot : List ℕ) → IsHighestStamp 0 slot 0
first-highest slot = record {
  bound = λ number below magic. absurd (omega (arith, below));
  stands = inl refl;
}

-- of one sector more it is that one's, or the one before
pub higher-highest : (slot : List ℕ) (n stamp next : ℕ) → IsHighestStamp n slot stamp → stamp ≤ next → (one : ℕ)
    → (HasMagic n slot → one ≡ stamp_of n slot) → (one ≡ 0) ⊎ (HasMagic n slot × (stamp_of n slot ≡ one))
    → one ≤ next → (next ≡ stamp) ⊎ (next ≡ one) → IsHighestStamp (n + 1) slot next
higher-highest slot n stamp next highest above one is tried reaches either = record {
  bound = λ number below magic. case-of number magic (split number n (omega (arith, below)));
  stands = ⊎_elim
      (λ same. ⊎_elim
      (λ none. inl (same ∙ none))
      (λ some. inr (some.0, omega (arith, some.1), some.2, some.3 ∙ sym same))
      highest.stands)
      (λ new. ⊎_elim
      (λ none. inl (new ∙ none))
      (λ some. inr (n, omega arith, some.0, some.1 ∙ sym new))
      tried)
      either;
}
  where
    split : (a b : ℕ) → a ≤ b → (a ≡ b) ⊎ (a < b)
    split a b most = grind arith

    chain : (a b c : ℕ) → a ≤ b → b ≤ c → a ≤ c
    chain a b c first second = omega (arith, first, second)

    case-of : (number : ℕ) → HasMagic number slot → (number ≡ n) ⊎ (number < n) → stamp_of number slot ≤ next
    case-of number magic which = ⊎_elim
        (λ same.
        let here = is (subst (λ (k : ℕ). HasMagic k slot) same magic) in
        subst (λ (k : ℕ). stamp_of k slot ≤ next) (sym same) (subst (λ (s : ℕ). s ≤ next) here reaches))
        (λ less. chain (stamp_of number slot) stamp next (highest.bound number less magic) above)
        which
