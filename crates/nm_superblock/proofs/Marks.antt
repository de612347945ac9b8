-- One bit of one byte changes, so one mark.
use Rattle.std.proofs.Common.{◌≡◌, ◌≢◌, ◌⊎◌, ⊎_elim, inl, inr, ℕ, ◌<◌, ◌/◌, ◌%◌, ◌==◌, false, List, length, get_or, set, sym, ap, ◌∙◌, subst, arith}
use Rattle.std.proofs.lemmas.Bool.Decides.{eqb_tells, nat_tests}
use Rattle.std.proofs.lemmas.List.{get_or-set_other, get_or-set_same}
use Rattle.std.proofs.lemmas.Nat.{div-add-mod'}
use Rattle.std.proofs.Math.Nat.{mod-lt}
use Rattle.std.specs.Int.{bit_at}
use Rattle.nm_superblock.specs.Spans.{SetsMark}
use Rattle.nm_superblock.specs.declared.span_map.SpanMap.{SpanMap}

same-or-not : (a b : ℕ) → (a ≡ b) ⊎ (a ≢ b)
same-or-not a b = ⊎_elim (λ yes. inl yes.1) (λ no. inr (λ e. differ a b no.0 e)) (eqb_tells a b)
  where
    differ : (x y : ℕ) → (x == y) ≡ false → x ≡ y → ⊥
    differ x y unequal e = grind (arith, nat_tests)

-- a span is told by its byte and its bit
same-span : (a b : ℕ) → a / 8 ≡ b / 8 → a % 8 ≡ b % 8 → a ≡ b
same-span a b byte bit =
    let whole_a = div-add-mod' a 8 in
    let whole_b = div-add-mod' b 8 in
    omega (arith, byte, bit, whole_a, whole_b)

-- a byte in which one bit changes
pub sets-mark : (span mark value : ℕ) (old new : SpanMap) → span / 8 < length old.bytes → new.bytes ≡ set old.bytes (span / 8) value
    → bit_at value (span % 8) ≡ mark
    → ((i : ℕ) → i < 8 → i ≢ span % 8 → bit_at value i ≡ bit_at (get_or old.bytes (span / 8) 0) i)
    → SetsMark span mark old new
sets-mark span mark value old new inside is here others = record {
  here = ap (λ (byte : ℕ). bit_at byte (span % 8)) at ∙ here;
  others = λ other differs. other-mark other differs (same-or-not (other / 8) (span / 8));
}
  where
    at : get_or new.bytes (span / 8) 0 ≡ value
    at = ap (λ (bytes : List ℕ). get_or bytes (span / 8) 0) is ∙ get_or-set_same old.bytes (span / 8) value 0 inside

    other-mark : (other : ℕ) → other ≢ span → (other / 8 ≡ span / 8) ⊎ (other / 8 ≢ span / 8)
        → bit_at (get_or new.bytes (other / 8) 0) (other % 8) ≡ bit_at (get_or old.bytes (other / 8) 0) (other % 8)
    other-mark other differs which = ⊎_elim
        (λ same.
        subst (λ (byte : ℕ). bit_at (get_or new.bytes byte 0) (other % 8) ≡ bit_at (get_or old.bytes byte 0) (other % 8)) (sym same)
        (ap (λ (byte : ℕ). bit_at byte (other % 8)) at ∙ others (other % 8) (mod-lt other (omega arith)) (λ bit. differs (same-span other span same bit))))
        (λ apart.
        ap (λ (bytes : List ℕ). bit_at (get_or bytes (other / 8) 0) (other % 8)) is
        ∙ ap (λ (byte : ℕ). bit_at byte (other % 8)) (get_or-set_other old.bytes (span / 8) (other / 8) value 0 apart))
        which
