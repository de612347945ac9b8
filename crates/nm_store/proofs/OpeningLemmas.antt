-- The flags of legs, leg by leg.
use Rattle.std.proofs.Common.{◌≡◌, ℕ, zero, suc, ◌+◌, [], ◌∷◌, ◌++◌, length, refl, ap, ◌∙◌, arith}
use Rattle.nm_rules.specs.Opening.{bits_from, has_bit}

-- the flag of one more leg stands after those of the legs before it
pub bits-next : (bits legs leg : ℕ) → bits_from bits (suc legs) leg ≡ bits_from bits legs leg ++ has_bit bits (legs + leg) ∷ []
bits-next bits zero leg = ap (λ (k : ℕ). has_bit bits k ∷ []) (omega arith)
bits-next bits (suc legs) leg =
    let rest : bits_from bits (suc legs) (leg + 1) ≡ bits_from bits legs (leg + 1) ++ has_bit bits (legs + (leg + 1)) ∷ [] = bits-next bits legs (leg + 1) in
    let number : legs + (leg + 1) ≡ suc legs + leg = omega arith in
    ap (λ more. has_bit bits leg ∷ more) rest
    ∙ ap (λ k. has_bit bits leg ∷ (bits_from bits legs (leg + 1) ++ has_bit bits k ∷ [])) number

pub bits-length : (bits legs leg : ℕ) → length (bits_from bits legs leg) ≡ legs
bits-length bits zero leg = refl
bits-length bits (suc legs) leg = ap (λ (n : ℕ). suc n) (bits-length bits legs (leg + 1))
