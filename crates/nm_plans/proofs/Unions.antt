-- The bits of a union.
use Rattle.std.proofs.Common.{◌≡◌, ◌⊎◌, ⊎_elim, inl, inr, ℕ, zero, suc, ◌<◌, ◌%◌, ◌/◌, ◌^◌, ◌↔◌, bit_or, refl, sym, ap, ◌∙◌, arith}
use Rattle.std.proofs.lemmas.Nat.{or_shr, or_mod}
use Rattle.std.specs.Int.{bit_at}

or-bit : (a b i : ℕ) → bit_at (bit_or a b) i ≡ bit_or (bit_at a i) (bit_at b i)
or-bit a b i = ap (λ x. x % 2) (or_shr a b i) ∙ or_mod (a / 2 ^ i) (b / 2 ^ i) 1

none : {A : Type 0} → zero ≡ suc zero → A
none e = absurd (omega (arith, e))

either : (x y : ℕ) → x < 2 → y < 2 → (bit_or x y ≡ 1) ↔ ((x ≡ 1) ⊎ (y ≡ 1))
either zero zero p q = (λ e. none e, λ o. ⊎_elim (λ e. none e) (λ e. none e) o)
either zero (suc zero) p q = (λ e. inr refl, λ o. refl)
either (suc zero) zero p q = (λ e. inl refl, λ o. refl)
either (suc zero) (suc zero) p q = (λ e. inl refl, λ o. refl)
either (suc (suc x)) y p q = absurd (omega (arith, p))
either zero (suc (suc y)) p q = absurd (omega (arith, q))
either (suc zero) (suc (suc y)) p q = absurd (omega (arith, q))

pub in-either : (a b i : ℕ) → (bit_at (bit_or a b) i ≡ 1) ↔ ((bit_at a i ≡ 1) ⊎ (bit_at b i ≡ 1))
in-either a b i = let by = either (bit_at a i) (bit_at b i) (omega arith) (omega arith) in
    (λ e. by.0 (sym (or-bit a b i) ∙ e), λ o. or-bit a b i ∙ by.1 o)
