-- What a sync that begins or ends, and a write that may be lost, make of what a leg remembers.
use Rattle.std.proofs.Common.{◌≡◌, ⊎_elim, ℕ, ◌+◌, ◌-◌, ◌*◌, ◌/◌, ◌^◌, ◌<◌, ◌≤◌, ◌&&◌, max, Bool, IsTrue, List, length, get_or, replicate, refl, ap, sym, ◌∙◌, subst, arith, nat_lt}
use Rattle.std.proofs.lemmas.Bool.{cases_lt, lt-ltb, le-ltb}
use Rattle.std.proofs.lemmas.List.{get_or-replicate, length-replicate}
use Rattle.nm_geometry.specs.Geometry.{regions_for}
use Rattle.nm_file_leg.specs.Remembered.{Periods, remembered, is_written, Changes, BeginsSync, EndsSync, LosesWrite}
use Rattle.nm_file_leg.proofs.RememberedLemmas.{between, noted, written-in}

-- what is above the greater of two numbers is above both
above-max : (c a x : ℕ) → nat_lt (max c a) x ≡ (nat_lt c x && nat_lt a x)
above-max c a x =
    ⊎_elim
    (λ (low : c < x).
    ⊎_elim
    (λ (under : a < x). lt-ltb (max c a) x (omega (arith, low, under)) ∙ rw (lt-ltb c x low, lt-ltb a x under) refl)
    (λ (over : x ≤ a). le-ltb (max c a) x (omega (arith, over)) ∙ rw (lt-ltb c x low, le-ltb a x over) refl)
    (cases_lt a x))
    (λ (high : x ≤ c). le-ltb (max c a) x (omega (arith, high)) ∙ rw (le-ltb c x high) refl)
    (cases_lt c x)

-- a sync that began in a period has succeeded
pub ends-sync : (region blocks : ℕ) (periods : Periods) (asked : ℕ) (xs cursors : List ℕ) → length xs ≡ regions_for region blocks
    → EndsSync asked (remembered region blocks periods xs cursors) (remembered region blocks (record periods { covered = max periods.covered asked }) xs cursors)
ends-sync region blocks periods asked xs cursors long = record {
  sizes = record { region = refl; blocks = refl };
  written = λ r low.
      let inside : r < length xs = omega (arith, long, low) in
      written-in (max periods.covered asked) r xs inside ∙ above-max periods.covered asked (get_or xs r 0)
      ∙ ap (λ (b : Bool). b && nat_lt asked (get_or xs r 0)) (sym (written-in periods.covered r xs inside));
  again = λ r _. refl;
}

-- a sync begins, and with it the next period
pub begins-next : (region blocks : ℕ) (periods : Periods) (next : ℕ) (xs cursors : List ℕ) → next ≡ periods.running + 1
    → BeginsSync (next - 1) (remembered region blocks periods xs cursors) (remembered region blocks (record periods { running = next }) xs cursors)
begins-next region blocks periods next xs cursors is = record {
  sizes = record { region = refl; blocks = refl };
  later = omega (arith, is);
  written = λ r low was. was;
  again = λ r _. refl;
  next = λ _. (omega (arith, is), ap (λ (n : ℕ). record (remembered region blocks periods xs cursors) { running = n }) is);
}

-- a sync begins behind the last period: all counts as written in the first one
pub begins-anew : (region blocks : ℕ) (periods : Periods) (xs ys cursors : List ℕ) → 2 ^ 32 - 1 ≤ periods.running → length xs ≡ regions_for region blocks → ys ≡ replicate (length xs) 1
    → BeginsSync 1 (remembered region blocks periods xs cursors) (remembered region blocks (record { running = 2; covered = 0 }) ys cursors)
begins-anew region blocks periods xs ys cursors last long is = record {
  sizes = record { region = refl; blocks = refl };
  later = omega arith;
  written = λ r low was.
      let inside : r < length xs = omega (arith, long, low) in
      let ones : List ℕ = replicate (length xs) 1 in
      let size : length ones ≡ length xs = length-replicate (length xs) 1 in
      subst (λ (zs : List ℕ). IsTrue (is_written r (remembered region blocks (record { running = 2; covered = 0 }) zs cursors))) (sym is)
      (written-in 0 r ones (omega (arith, size, inside)) ∙ ap (λ (n : ℕ). nat_lt 0 n) (get_or-replicate (length xs) r 1 0 inside));
  again = λ r _. refl;
  next = λ low. absurd (let e : ⊥ = omega (arith, last, low) in e);
}

-- a write of a run that may be lost
pub loses-write : (region blocks : ℕ) (periods : Periods) (at count : ℕ) (xs ys cursors put : List ℕ)
    → periods.covered < periods.running → length xs ≡ regions_for region blocks
    → Changes (λ _. periods.running) (at / region) ((at + count - 1) / region + 1) xs ys
    → ((r : ℕ) → at / region ≤ r → r < (at + count - 1) / region + 1 → get_or put r 0 ≡ r * region)
    → ((r : ℕ) → r < at / region → get_or put r 0 ≡ get_or cursors r 0)
    → ((r : ℕ) → (at + count - 1) / region + 1 ≤ r → get_or put r 0 ≡ get_or cursors r 0)
    → LosesWrite at count (remembered region blocks periods xs cursors) (remembered region blocks periods ys put)
loses-write region blocks periods at count xs ys cursors put uncovered long puts firsts before behind = record {
  sizes = record { region = refl; blocks = refl };
  written = λ r low. noted region blocks periods at count xs ys cursors put uncovered long puts r low;
  again = λ r low.
      ⊎_elim
      (λ w. rw w.0 (firsts r w.1.0 w.1.1))
      (λ w. rw w.0 (⊎_elim (λ low. before r low) (λ high. behind r high) w.1))
      (between (at / region) ((at + count - 1) / region) r);
}
