-- A leg leaves the runs one after the other: those that owe only it are finished, and their regions
-- count their blocks no more.
use Rattle.std.proofs.Common.{◌≡◌, ℕ, zero, suc, ◌+◌, ◌<◌, ◌≤◌, ◌%◌, ◌==◌, ◌&&◌, not, Bool, true, false, cond, List, [], ◌∷◌, Some, length, refl, sym, ap, ◌∙◌, arith, get_or, set, slice_get, count_by, inl, inr}
use Rattle.std.specs.List.{list_any}
use Rattle.std.proofs.lemmas.Bool.Decides.{nat_tests}
use Rattle.std.proofs.lemmas.List.Sums.{sum_by-cons}
use Rattle.nm_fanout.specs.declared.write_record.Record.{Record}
use Rattle.nm_fanout.specs.Record.{IsRun, is_under_way, owed_count, owes, without_leg}
use Rattle.nm_fanout.specs.RecordData.{blocks_in}
use Rattle.nm_fanout.specs.Runs.{flat}
use Rattle.nm_fanout.proofs.Indexed.{read-there}
use Rattle.nm_fanout.proofs.Leaving.{mapped_to, mapped-step}
use Rattle.nm_fanout.proofs.Owed.{tells, is_under_way-without_leg}
use Rattle.nm_regions.specs.Table.{RegionTable}
use Rattle.nm_store.specs.Counting.{counting}
use Rattle.nm_store.proofs.ReachLemmas.{Changes, Finishes, counts-stay}

-- how many legs are owed
abbrev owed_in : List Bool → ℕ
owed_in owed = count_by (λ b. b) owed

abbrev bit : Bool → ℕ
bit b = cond b 1 0

none-owed : (owed : List Bool) → list_any (λ b. b) owed ≡ false → owed_in owed ≡ 0
none-owed [] none = refl
none-owed (true ∷ owed) none = absurd cc
none-owed (false ∷ owed) none = omega (arith, sum_by-cons bit false owed, none-owed owed none)

some-owed : (owed : List Bool) → list_any (λ b. b) owed ≡ true → 0 < owed_in owed
some-owed [] some = absurd cc
some-owed (true ∷ owed) some = omega (arith, sum_by-cons bit true owed)
some-owed (false ∷ owed) some = omega (arith, sum_by-cons bit false owed, some-owed owed some)

one-fewer : (owed : List Bool) (leg : ℕ) → get_or owed leg false ≡ true → owed_in (set owed leg false) + 1 ≡ owed_in owed
one-fewer [] leg is = absurd cc
one-fewer (true ∷ owed) zero is = omega (arith, sum_by-cons bit true owed, sum_by-cons bit false owed)
one-fewer (false ∷ owed) zero is = absurd cc
one-fewer (b ∷ owed) (suc leg) is = omega (arith, sum_by-cons bit b owed, sum_by-cons bit b (set owed leg false), one-fewer owed leg is)

any-owed : (owed : List Bool) (leg : ℕ) → get_or owed leg false ≡ true → list_any (λ b. b) owed ≡ true
any-owed [] leg is = absurd cc
any-owed (true ∷ owed) leg is = refl
any-owed (false ∷ owed) zero is = absurd cc
any-owed (false ∷ owed) (suc leg) is = any-owed owed leg is

-- a write that owes this leg owes no other exactly if it owes one
pub owes-only : (leg : ℕ) (r : Record) → owes leg r ≡ true → (owed_count r == 1) ≡ (is_under_way r && not (is_under_way (without_leg leg r)))
owes-only leg r is =
    let fewer : owed_in (set r.owed leg false) + 1 ≡ owed_in r.owed = one-fewer r.owed leg is in
    let busy : is_under_way r ≡ true = any-owed r.owed leg is in
    elim (tells (is_under_way (without_leg leg r))) [
      | inl w ↦
          let more : 0 < owed_in (set r.owed leg false) = some-owed (set r.owed leg false) w in
          let other : (owed_count r == 1) ≡ false = grind (arith, nat_tests, fewer, more) in
          rw (busy, w) other
      | inr w ↦
          let none : owed_in (set r.owed leg false) ≡ 0 = none-owed (set r.owed leg false) w in
          let alone : (owed_count r == 1) ≡ true = grind (arith, nat_tests, fewer, none) in
          rw (busy, w) alone
    ]

both : (a b : Bool) → (a && not b) ≡ true → (a ≡ true) × (b ≡ false)
both true false is = (refl, refl)
both true true is = absurd cc
both false b is = absurd cc

-- a write that owes another leg, or none, goes on as it was
goes-on : (leg : ℕ) (r : Record) → (is_under_way r && not (is_under_way (without_leg leg r))) ≡ false → is_under_way (without_leg leg r) ≡ is_under_way r
goes-on leg r other =
    elim (tells (is_under_way r)) [
      | inl w ↦ elim (tells (is_under_way (without_leg leg r))) [
        | inl v ↦ v ∙ sym w
        | inr v ↦ absurd (let clash : true ≡ false = rw (w, v) at other in cc)
      ]
      | inr w ↦ is_under_way-without_leg leg r w ∙ sym w
    ]

-- the run at the next place is as it was
mapped-at : (leg n : ℕ) (rs : List Record)
    → slice_get (mapped_to (without_leg leg) n rs) n ≡ slice_get rs n
mapped-at leg zero rs = refl
mapped-at leg (suc n) [] = refl
mapped-at leg (suc n) (r ∷ rs) = mapped-at leg n rs

-- and is then without the leg
pub next-leaves : (leg n : ℕ) (rs : List Record) (x : Record) → n < length rs
    → slice_get rs n ≡ Some x
    → set (mapped_to (without_leg leg) n rs) n (without_leg leg x)
    ≡ mapped_to (without_leg leg) (n + 1) rs
next-leaves leg n rs x lt there =
    let now : List Record = mapped_to (without_leg leg) n rs in
    let read : x ≡ get_or now n x = (read-there now n x (mapped-at leg n rs ∙ there)).1 in
    mapped-step (without_leg leg) rs now n x (without_leg leg x) refl lt read
    (ap (λ (r : Record). without_leg leg r) read)

changes : (leg n : ℕ) (rs : List Record) (x : Record) → slice_get rs n ≡ Some x
    → Changes n (mapped_to (without_leg leg) n rs) x (without_leg leg x)
changes leg n rs x there = record {
  there = mapped-at leg n rs ∙ there;
  block = refl;
  bytes = refl;
}

-- it owes another leg, or none: nothing counts less
pub goes-on-table : (leg n : ℕ) (rs : List Record) (x : Record) (t : RegionTable)
    → slice_get rs n ≡ Some x
    → (is_under_way x && not (is_under_way (without_leg leg x))) ≡ false
    → counting (flat (mapped_to (without_leg leg) n rs)) t
    ≡ counting (flat (set (mapped_to (without_leg leg) n rs) n (without_leg leg x))) t
goes-on-table leg n rs x t there other =
    sym (counts-stay n (mapped_to (without_leg leg) n rs) x (without_leg leg x) t
    (changes leg n rs x there) (goes-on leg x other))

-- it owes only this leg: its region counts its blocks no more
pub leaves-only : (leg n : ℕ) (rs : List Record) (x : Record) (t : RegionTable) → IsRun x
    → slice_get rs n ≡ Some x
    → (x.block + blocks_in x.data ≤ t.blocks) × (x.block % t.region + blocks_in x.data ≤ t.region)
    → (is_under_way x && not (is_under_way (without_leg leg x))) ≡ true
    → Finishes n (mapped_to (without_leg leg) n rs) x (without_leg leg x) t.blocks t.region
leaves-only leg n rs x t run there lies only =
    let ends = both (is_under_way x) (is_under_way (without_leg leg x)) only in
    record {
      changes = changes leg n rs x there;
      going = ends.0;
      over = ends.1;
      some = run.filled.some;
      inside = lies.0;
      one_region = lies.1;
    }
