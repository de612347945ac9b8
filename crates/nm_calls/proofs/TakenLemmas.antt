-- The calls without a read that is answered.
use Rattle.std.proofs.Common.{◌≡◌, ◌≢◌, ℕ, zero, suc, ◌+◌, ◌-◌, ◌≤◌, ◌==◌, Bool, true, false, not, List, [], ◌∷◌, None, Option, Some, cond, sum_by, refl, sym, ap, ◌∙◌, subst, arith, slice_get, eq-eqb}
use Rattle.std.proofs.lemmas.Bool.{eqb-true}
use Rattle.std.proofs.lemmas.List.Sums.{sum_by-cons}
use Rattle.std.proofs.lemmas.Option.{same_Some}
use Rattle.nm_calls.specs.Answers.{read_answered, returned_on}
use Rattle.nm_calls.specs.CallsOut.{CallsOut, LegCalls, ReadOut, count_out, find_read, without_read}
use Rattle.nm_calls.specs.HasCalls.{IsStanding}

-- none of its ticket is left
none-left : (u : ℕ) (xs : List ReadOut) → find_read u (without_read u xs) ≡ None
none-left u [] = refl
none-left u (z ∷ zs) =
    (elim (z.ticket == u) as (λ b. (z.ticket == u) ≡ b → find_read u (cond (not b) (z ∷ without_read u zs) (without_read u zs)) ≡ None) [
      | true ↦ λ is. none-left u zs
      | false ↦ λ is. ap (λ (b : Bool). cond b (Some z) (find_read u (without_read u zs))) is ∙ none-left u zs
    ]) refl

some-is : (y : ReadOut) (o : Option ReadOut) → o ≡ None → o ≢ Some y
some-is y None is some = cc
some-is y (Some z) is some = cc

-- what is found was there before
pub find-taken : (u t : ℕ) (y : ReadOut) (xs : List ReadOut) → find_read t (without_read u xs) ≡ Some y → find_read t xs ≡ Some y
find-taken u t y [] is = is
find-taken u t y (z ∷ zs) is =
    (elim (z.ticket == u) as (λ b. (z.ticket == u) ≡ b → find_read t (cond (not b) (z ∷ without_read u zs) (without_read u zs)) ≡ Some y → cond (z.ticket == t) (Some z) (find_read t zs) ≡ Some y) [
      | true ↦ λ dropped found.
          (elim (z.ticket == t) as (λ c. (z.ticket == t) ≡ c → cond c (Some z) (find_read t zs) ≡ Some y) [
            | true ↦ λ own.
                let same : u ≡ t = sym (eqb-true z.ticket u dropped) ∙ eqb-true z.ticket t own in
                absurd (some-is y (find_read t (without_read u zs)) (subst (λ (v : ℕ). find_read v (without_read u zs) ≡ None) same (none-left u zs)) found)
            | false ↦ λ other. find-taken u t y zs found
          ]) refl
      | false ↦ λ stays found.
          (elim (z.ticket == t) as (λ c. cond c (Some z) (find_read t (without_read u zs)) ≡ Some y → cond c (Some z) (find_read t zs) ≡ Some y) [
            | true ↦ λ at. at
            | false ↦ λ at. find-taken u t y zs at
          ]) found
    ]) refl is

-- a read that counts counted before
pub taken-stands : (x : ReadOut) (calls : CallsOut) (t k : ℕ) (y : ReadOut) → IsStanding t y k (read_answered x calls) → IsStanding t y k calls
taken-stands x calls t k y s = record { out = find-taken x.ticket t y calls.reads s.out; counts = s.counts; inside = s.inside }

module _ (of : ReadOut → ℕ) where
  fewer : (u : ℕ) (xs : List ReadOut) → sum_by of (without_read u xs) ≤ sum_by of xs
  fewer u [] = omega arith
  fewer u (z ∷ zs) =
      let all = sum_by-cons of z zs in
      elim (z.ticket == u) as (λ b. sum_by of (cond (not b) (z ∷ without_read u zs) (without_read u zs)) ≤ sum_by of (z ∷ zs)) [
        | true ↦ omega (arith, all, fewer u zs)
        | false ↦ omega (arith, all, sum_by-cons of z (without_read u zs), fewer u zs)
      ]

  -- it is less by what the read has
  pub taken-sums : (x : ReadOut) (u : ℕ) (xs : List ReadOut) → find_read u xs ≡ Some x → sum_by of (without_read u xs) + of x ≤ sum_by of xs
  taken-sums x u [] is = absurd (let e : ⊥ = cc in e)
  taken-sums x u (z ∷ zs) is =
      let all = sum_by-cons of z zs in
      (elim (z.ticket == u) as (λ b. cond b (Some z) (find_read u zs) ≡ Some x → sum_by of (cond (not b) (z ∷ without_read u zs) (without_read u zs)) + of x ≤ sum_by of (z ∷ zs)) [
        | true ↦ λ at.
            let own : of z ≡ of x = ap of (same_Some _ _ at) in
            omega (arith, all, own, fewer u zs)
        | false ↦ λ at. omega (arith, all, sum_by-cons of z (without_read u zs), taken-sums x u zs at)
      ]) is

-- what a leg counts, and what it counted before the leg at this place had one call less
pub record ReturnedFrom (j i : ℕ) (ls : List LegCalls) (l : LegCalls) : Type 0 where
  pub was : LegCalls
  pub place : slice_get ls i ≡ Some was
  pub most : was.out ≤ l.out + 1
  pub other : j ≢ i → l.out ≡ was.out

pub returned-at : (j i : ℕ) (ls : List LegCalls) (l : LegCalls) → slice_get (returned_on j ls) i ≡ Some l → ReturnedFrom j i ls l
returned-at j i [] l at = absurd (let e : ⊥ = cc in e)
returned-at zero zero (k ∷ ks) l at =
    let less : l.out ≡ k.out - 1 = ap (λ (m : LegCalls). m.out) (sym (same_Some _ _ at)) in
    record { was = k; place = refl; most = omega (arith, less); other = λ ne. absurd (ne refl) }
returned-at zero (suc i) (k ∷ ks) l at = record { was = l; place = at; most = omega arith; other = λ ne. refl }
returned-at (suc j) zero (k ∷ ks) l at =
    let same : l.out ≡ k.out = ap (λ (m : LegCalls). m.out) (sym (same_Some _ _ at)) in
    record { was = k; place = refl; most = omega (arith, same); other = λ ne. same }
returned-at (suc j) (suc i) (k ∷ ks) l at =
    let behind = returned-at j i ks l at in
    record { was = behind.was; place = behind.place; most = behind.most; other = λ ne. behind.other (λ e. ne (ap (λ (n : ℕ). suc n) e)) }

-- each leg still counts at least its calls that are known
pub taken-counted : (x : ReadOut) (calls : CallsOut) (leg : ℕ) (l : LegCalls) → find_read x.ticket calls.reads ≡ Some x
    → ((i : ℕ) (was : LegCalls) → slice_get calls.legs i ≡ Some was → count_out i calls ≤ was.out)
    → slice_get (read_answered x calls).legs leg ≡ Some l → count_out leg (read_answered x calls) ≤ l.out
taken-counted x calls leg l found counted at =
    let from = returned-at x.leg leg calls.legs l at in
    let before : count_out leg calls ≤ from.was.out = counted leg from.was from.place in
    let own : ReadOut → ℕ = λ z. cond (z.leg == leg) 1 0 in
    let less = taken-sums own x x.ticket calls.reads found in
    (elim (x.leg == leg) as (λ b. (x.leg == leg) ≡ b → count_out leg (read_answered x calls) ≤ l.out) [
      | true ↦ λ is.
          let one : own x ≡ 1 = ap (λ (b : Bool). cond {A = ℕ} b 1 0) is in
          omega (arith, before, less, one, from.most)
      | false ↦ λ is.
          let none : own x ≡ 0 = ap (λ (b : Bool). cond {A = ℕ} b 1 0) is in
          let other : l.out ≡ from.was.out = from.other (λ e. let clash : ⊥ = not-same x.leg leg e is in clash) in
          omega (arith, before, less, none, other)
    ]) refl
  where
    not-same : (m n : ℕ) → m ≡ n → (m == n) ≡ false → ⊥
    not-same m n e ne = let yes : (m == n) ≡ true = eq-eqb m n e in let clash : true ≡ false = sym yes ∙ ne in cc
