-- The records of runs stay whole, few and in order, through every change at a place.
use Rattle.std.proofs.Common.{◌≡◌, ℕ, ◌+◌, ◌<◌, ◌≤◌, zero, suc, false, List, [], ◌∷◌, ◌++◌, length, set, Some, refl, sym, ap, ◌∙◌, subst, arith}
use Rattle.std.specs.List.{remove, slice_get}
use Rattle.std.proofs.lemmas.List.{length-set, length_push}
use Rattle.std.proofs.lemmas.List.Edits.{length-remove}
use Rattle.nm_fanout.specs.declared.record_data.RecordData.{RecordData}
use Rattle.nm_fanout.specs.declared.write_record.Record.{Record}
use Rattle.nm_fanout.specs.Record.{IsRun, without_leg, with_entry}
use Rattle.nm_fanout.specs.RecordData.{blocks_in}
use Rattle.nm_fanout.specs.Records.{AllAbove, Ascends, left_by}
use Rattle.nm_fanout.specs.Runs.{AllEndBy, AllFrom, AllRuns, AreRuns, RunsRise}

-- a later record of the same run
pub record SameRun (x y : Record) : Type 0 where
  pub ticket : y.ticket ≡ x.ticket
  pub block : y.block ≡ x.block
  pub bytes : y.data ≡ x.data
  pub whole : IsRun x → IsRun y

pub without_leg-run : (leg : ℕ) (r : Record) → SameRun r (without_leg leg r)
without_leg-run leg r = record {
  ticket = refl;
  block = refl;
  bytes = refl;
  whole = λ w. record { named = w.named; filled = w.filled; inside = w.inside; places = length-set r.owed leg false ∙ w.places };
}

pub with_entry-run : (number : ℕ) (r : Record) → SameRun r (with_entry number r)
with_entry-run number r = record {
  ticket = refl;
  block = refl;
  bytes = refl;
  whole = λ w. record { named = w.named; filled = w.filled; inside = w.inside; places = w.places };
}

-- each run's tickets come after the last one's, so the first ones rise
above-from : (low from : ℕ) (rs : List Record) → low < from → AllFrom from rs → AllAbove low rs
above-from low from [] lt h = tt
above-from low from (r ∷ rs) lt h = (omega (arith, lt, h.0), above-from low from rs lt h.1)

ascends-rise : (rs : List Record) → RunsRise rs → AllRuns rs → Ascends rs
ascends-rise [] rise runs = tt
ascends-rise (r ∷ rs) rise runs =
    let some = runs.0.filled.some in (
      above-from r.ticket (r.ticket + blocks_in r.data) rs (omega (arith, some)) rise.0,
      ascends-rise rs rise.1 runs.1,
    )

pub ascends-runs : (rs : List Record) → AreRuns rs → Ascends rs
ascends-runs rs h = ascends-rise rs h.rise h.runs

-- the record at a place is that of a run
pub run-at : (rs : List Record) (i : ℕ) (x : Record) → AllRuns rs → slice_get rs i ≡ Some x
    → IsRun x
run-at [] i x all there = absurd cc
run-at (r ∷ rs) zero x all there =
    let e : r ≡ x = cc in
    subst (λ (y : Record). IsRun y) e all.0
run-at (r ∷ rs) (suc i) x all there = run-at rs i x all.1 there

from-set : (t i : ℕ) (rs : List Record) (x y : Record) → slice_get rs i ≡ Some x
    → y.ticket ≡ x.ticket → AllFrom t rs → AllFrom t (set rs i y)
from-set t i [] x y there same h = absurd cc
from-set t zero (r ∷ rs) x y there same h =
    let e : r ≡ x = cc in
    (omega (arith, h.0, same, ap (λ (z : Record). z.ticket) e), h.1)
from-set t (suc i) (r ∷ rs) x y there same h = (h.0, from-set t i rs x y there same h.1)

rise-set : (i : ℕ) (rs : List Record) (x y : Record) → slice_get rs i ≡ Some x → SameRun x y
    → RunsRise rs → RunsRise (set rs i y)
rise-set i [] x y there same h = absurd cc
rise-set zero (r ∷ rs) x y there same h =
    let e : r ≡ x = cc in
    let end : r.ticket + blocks_in r.data ≡ y.ticket + blocks_in y.data = omega (
      arith,
      same.ticket,
      ap (λ (z : Record). z.ticket) e,
      ap (λ (z : Record). blocks_in z.data) e,
      ap (λ (d : RecordData). blocks_in d) same.bytes,
    ) in
    (subst (λ (n : ℕ). AllFrom n rs) end h.0, h.1)
rise-set (suc i) (r ∷ rs) x y there same h = (
  from-set (r.ticket + blocks_in r.data) i rs x y there same.ticket h.0,
  rise-set i rs x y there same h.1,
)

all-set : (i : ℕ) (rs : List Record) (x y : Record) → slice_get rs i ≡ Some x → SameRun x y
    → AllRuns rs → AllRuns (set rs i y)
all-set i [] x y there same h = absurd cc
all-set zero (r ∷ rs) x y there same h =
    let e : r ≡ x = cc in
    (same.whole (subst (λ (z : Record). IsRun z) e h.0), h.1)
all-set (suc i) (r ∷ rs) x y there same h = (h.0, all-set i rs x y there same h.1)

-- a record of the same run stands at its place
pub runs-set : (rs : List Record) (i : ℕ) (x y : Record) → AreRuns rs → slice_get rs i ≡ Some x
    → SameRun x y → AreRuns (set rs i y)
runs-set rs i x y h there same = record {
  few = omega (arith, h.few, length-set rs i y);
  rise = rise-set i rs x y there same h.rise;
  runs = all-set i rs x y there same h.runs;
}

from-remove : (t i : ℕ) (rs : List Record) → AllFrom t rs → AllFrom t (remove rs i)
from-remove t zero [] h = tt
from-remove t (suc i) [] h = tt
from-remove t zero (r ∷ rs) h = h.1
from-remove t (suc i) (r ∷ rs) h = (h.0, from-remove t i rs h.1)

rise-remove : (i : ℕ) (rs : List Record) → RunsRise rs → RunsRise (remove rs i)
rise-remove zero [] h = tt
rise-remove (suc i) [] h = tt
rise-remove zero (r ∷ rs) h = h.1
rise-remove (suc i) (r ∷ rs) h =
    (from-remove (r.ticket + blocks_in r.data) i rs h.0, rise-remove i rs h.1)

all-remove : (i : ℕ) (rs : List Record) → AllRuns rs → AllRuns (remove rs i)
all-remove zero [] h = tt
all-remove (suc i) [] h = tt
all-remove zero (r ∷ rs) h = h.1
all-remove (suc i) (r ∷ rs) h = (h.0, all-remove i rs h.1)

-- a record is taken away
pub runs-remove : (rs : List Record) (i : ℕ) → i < length rs → AreRuns rs → AreRuns (remove rs i)
runs-remove rs i lt h = record {
  few = omega (arith, h.few, length-remove rs i lt);
  rise = rise-remove i rs h.rise;
  runs = all-remove i rs h.runs;
}

from-push : (t : ℕ) (r : Record) (rs : List Record) → t ≤ r.ticket → AllFrom t rs
    → AllFrom t (rs ++ r ∷ [])
from-push t r [] le h = (le, tt)
from-push t r (x ∷ rs) le h = (h.0, from-push t r rs le h.1)

rise-push : (r : Record) (rs : List Record) → AllEndBy r.ticket rs → RunsRise rs
    → RunsRise (rs ++ r ∷ [])
rise-push r [] next h = (tt, tt)
rise-push r (x ∷ rs) next h =
    (from-push (x.ticket + blocks_in x.data) r rs next.0 h.0, rise-push r rs next.1 h.1)

all-push : (r : Record) (rs : List Record) → IsRun r → AllRuns rs → AllRuns (rs ++ r ∷ [])
all-push r [] whole h = (whole, tt)
all-push r (x ∷ rs) whole h = (h.0, all-push r rs whole h.1)

-- a run begins
pub runs-push : (rs : List Record) (r : Record) → length rs < 256 → AllEndBy r.ticket rs → IsRun r
    → AreRuns rs → AreRuns (rs ++ r ∷ [])
runs-push rs r few next whole h = record {
  few = omega (arith, few, length_push rs r);
  rise = rise-push r rs next h.rise;
  runs = all-push r rs whole h.runs;
}

length-left : (leg : ℕ) (rs : List Record) → length (left_by leg rs) ≡ length rs
length-left leg [] = refl
length-left leg (r ∷ rs) = ap (λ n. suc n) (length-left leg rs)

from-left : (t leg : ℕ) (rs : List Record) → AllFrom t rs → AllFrom t (left_by leg rs)
from-left t leg [] h = tt
from-left t leg (r ∷ rs) h = (h.0, from-left t leg rs h.1)

rise-left : (leg : ℕ) (rs : List Record) → RunsRise rs → RunsRise (left_by leg rs)
rise-left leg [] h = tt
rise-left leg (r ∷ rs) h =
    (from-left (r.ticket + blocks_in r.data) leg rs h.0, rise-left leg rs h.1)

all-left : (leg : ℕ) (rs : List Record) → AllRuns rs → AllRuns (left_by leg rs)
all-left leg [] h = tt
all-left leg (r ∷ rs) h = ((without_leg-run leg r).whole h.0, all-left leg rs h.1)

-- a leg leaves
pub runs-left_by : (leg : ℕ) (rs : List Record) → AreRuns rs → AreRuns (left_by leg rs)
runs-left_by leg rs h = record {
  few = omega (arith, h.few, length-left leg rs);
  rise = rise-left leg rs h.rise;
  runs = all-left leg rs h.runs;
}
