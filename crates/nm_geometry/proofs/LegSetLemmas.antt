-- Which legs are in a set, and the bits of a set, set one after the other.
use Rattle.std.proofs.Common.{◌≡◌, ◌≢◌, ◌⊎◌, ◌↔◌, ⊎_elim, inl, inr, ℕ, zero, suc, refl, ◌+◌, ◌*◌, ◌%◌, ◌^◌, ◌<◌, ◌≤◌, bit_or, Bool, true, false, List, IsTrue, true≢false, sym, ◌∙◌, subst, arith}
use Rattle.std.specs.Int.{bit_at, w8}
use Rattle.std.proofs.lemmas.Bool.{cases_lt}
use Rattle.std.proofs.lemmas.Nat.Bits.{bit_at-zero, bit_at_set_other, bit_at_set_same}
use Rattle.nm_geometry.specs.LegSets.{has, legs_where}

-- a leg is in a set of legs of which something is true where it is true of this leg
pub has-where : (is : ℕ → Bool) (leg : ℕ) → leg < 8 → has leg (legs_where is) ≡ is leg
has-where is zero below = refl
has-where is (suc zero) below = refl
has-where is (suc (suc zero)) below = refl
has-where is (suc (suc (suc zero))) below = refl
has-where is (suc (suc (suc (suc zero)))) below = refl
has-where is (suc (suc (suc (suc (suc zero))))) below = refl
has-where is (suc (suc (suc (suc (suc (suc zero)))))) below = refl
has-where is (suc (suc (suc (suc (suc (suc (suc zero))))))) below = refl
has-where is (suc (suc (suc (suc (suc (suc (suc (suc leg)))))))) below = absurd (omega (arith, below))

-- the first bits are those of the set, and the others are 0
abbrev pub AreBits : ℕ → List Bool → ℕ → Type 0
AreBits byte legs done =
    ((leg : ℕ) → leg < done → IsTrue (has leg legs) ↔ (bit_at byte leg ≡ 1))
    × ((leg : ℕ) → leg < 8 → done ≤ leg → bit_at byte leg ≡ 0)

last-or-before : (i done : ℕ) → i < done + 1 → (i ≡ done) ⊎ (i < done)
last-or-before i done below = ⊎_elim
    (λ before. inr before)
    (λ after. inl (omega (arith, after, below)))
    (cases_lt i done)

-- no bit is set at first
pub none-set : (legs : List Bool) → AreBits 0 legs 0
none-set legs = (
  (λ leg below. absurd (omega (arith, below))),
  (λ leg within after. bit_at-zero leg),
)

-- one bit more is set
pub bit-set : (byte : ℕ) (legs : List Bool) (done : ℕ) → AreBits byte legs done → done < 8
    → has done legs ≡ true → AreBits (bit_or byte (1 * 2 ^ done % 256)) legs (done + 1)
bit-set byte legs done are inside is_in =
    let new : ℕ = bit_or byte (1 * 2 ^ done % 256) in (
      (λ leg below. ⊎_elim
          (λ same. subst (λ (k : ℕ). IsTrue (has k legs) ↔ (bit_at new k ≡ 1)) (sym same)
          ((λ _. bit_at_set_same w8 byte done inside), (λ _. is_in)))
          (λ before. subst (λ (b : ℕ). IsTrue (has leg legs) ↔ (b ≡ 1))
          (sym (bit_at_set_other w8 byte done inside leg (λ same. absurd (omega (arith, same, before)))))
          (are.0 leg before))
          (last-or-before leg done below)),
      (λ leg within after. bit_at_set_other w8 byte done inside leg (λ same. absurd (omega (arith, same, after)))
          ∙ are.1 leg within (omega (arith, after))),
    )

-- one bit more stays 0
pub bit-kept : (byte : ℕ) (legs : List Bool) (done : ℕ) → AreBits byte legs done → done < 8
    → has done legs ≡ false → AreBits byte legs (done + 1)
bit-kept byte legs done are inside is_out = (
  (λ leg below. ⊎_elim
      (λ same. subst (λ (k : ℕ). IsTrue (has k legs) ↔ (bit_at byte k ≡ 1)) (sym same) (
        (λ is. absurd (true≢false (sym is ∙ is_out))),
        (λ one. absurd (omega (arith, one, are.1 done inside (omega arith)))),
      ))
      (λ before. are.0 leg before)
      (last-or-before leg done below)),
  (λ leg within after. are.1 leg within (omega (arith, after))),
)
