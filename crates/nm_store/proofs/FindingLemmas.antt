-- As many runs begin below a run's ticket as stand before it: the tickets of their blocks rise.
use Rattle.std.proofs.Common.{◌≡◌, ℕ, zero, suc, ◌+◌, ◌≤◌, true, false, nat_lt, List, [], ◌∷◌, ◌++◌, filter, Some, slice_get, sym, ap, ◌∙◌, arith, refl}
use Rattle.std.proofs.lemmas.Bool.Decides.{nat_tests}
use Rattle.nm_fanout.specs.declared.write_record.Record.{Record}
use Rattle.nm_fanout.specs.RecordData.{blocks_in}
use Rattle.nm_fanout.specs.Records.{AllBelow, IsAt, runs_in}
use Rattle.nm_fanout.specs.Runs.{AllFrom, AllRuns, AreRuns, RunsRise, flat, laid_out}
use Rattle.nm_fanout.proofs.Finding.{find_record-ticket}
use Rattle.nm_fanout.proofs.Flat.{flat-from, run-below}
use Rattle.nm_fanout.proofs.FlatSteps.{filter-append}
use Rattle.nm_fanout.proofs.InOrder.{AllBelow-rise}
use Rattle.nm_fanout.proofs.Laying.{run-one}
use Rattle.nm_rules.specs.State.{StripeState}
use Rattle.nm_store.specs.Finding.{place_of}

none-below : (t : ℕ) (xs : List Record) → AllFrom t xs → filter (λ r. nat_lt r.ticket t) xs ≡ []
none-below t [] from = refl
none-below t (x ∷ xs) from =
    let le : t ≤ x.ticket = from.0 in
    let not_below : nat_lt x.ticket t ≡ false = grind (arith, nat_tests) in
    rw not_below (none-below t xs from.1)

all-below : (t : ℕ) (xs : List Record) → AllBelow t xs → filter (λ r. nat_lt r.ticket t) xs ≡ xs
all-below t [] below = refl
all-below t (x ∷ xs) below =
    let is_below : nat_lt x.ticket t ≡ true = grind (arith, nat_tests) in
    rw is_below (ap (λ (l : List Record). x ∷ l) (all-below t xs below.1))

runs-append : (xs ys : List Record) → runs_in (xs ++ ys) ≡ runs_in xs + runs_in ys
runs-append [] ys = omega arith
runs-append (x ∷ xs) ys = omega (arith, runs-append xs ys)

from-lower : (low t : ℕ) (rs : List Record) → low ≤ t → AllFrom t rs → AllFrom low rs
from-lower low t [] le from = tt
from-lower low t (r ∷ rs) le from = (omega (arith, le, from.0), from-lower low t rs le from.1)

from-at : (t i : ℕ) (rs : List Record) (x : Record) → AllFrom t rs → slice_get rs i ≡ Some x
    → t ≤ x.ticket
from-at t i [] x from there = absurd cc
from-at t zero (r ∷ rs) x from there =
    let e : r ≡ x = cc in
    omega (arith, from.0, ap (λ (y : Record). y.ticket) e)
from-at t (suc i) (r ∷ rs) x from there = from-at t i rs x from.1 there

places : (i : ℕ) (rs : List Record) (x : Record) → RunsRise rs → AllRuns rs
    → slice_get rs i ≡ Some x → i ≡ place_of x.ticket (flat rs)
places i [] x rise all there = absurd cc
places zero (r ∷ rs) x rise all there =
    let e : r ≡ x = cc in
    let first : x.ticket ≤ r.ticket = omega (arith, ap (λ (y : Record). y.ticket) e) in
    let later : AllFrom x.ticket rs =
    from-lower x.ticket (r.ticket + blocks_in r.data) rs (omega (arith, first)) rise.0 in
    sym (ap (λ (l : List Record). runs_in l)
    (none-below x.ticket (flat (r ∷ rs)) (flat-from x.ticket (r ∷ rs) (first, later))))
places (suc i) (r ∷ rs) x rise all there =
    let before : AllBelow x.ticket (laid_out r) =
    AllBelow-rise (r.ticket + blocks_in r.data) x.ticket (laid_out r)
    (from-at (r.ticket + blocks_in r.data) i rs x rise.0 there) (run-below r) in
    let rest : List Record = filter (λ r. nat_lt r.ticket x.ticket) (flat rs) in
    let parts : place_of x.ticket (flat (r ∷ rs)) ≡ runs_in (laid_out r ++ rest) =
    ap (λ (l : List Record). runs_in l) (filter-append (λ r. nat_lt r.ticket x.ticket) (laid_out r) (flat rs)
    ∙ ap (λ (l : List Record). l ++ rest) (all-below x.ticket (laid_out r) before)) in
    omega (
      arith,
      parts,
      runs-append (laid_out r) rest,
      run-one r all.0,
      places i rs x rise.1 all.1 there,
    )

-- where a ticket's record is in the list is its run's place
pub place-found : {L : Type 0} (s : StripeState L) (t i : ℕ) (rs : List Record) (x : Record)
    → AreRuns rs → flat rs ≡ s.records → IsAt t i rs → slice_get rs i ≡ Some x
    → i ≡ place_of t s.records
place-found s t i rs x h are at there =
    places i rs x h.rise h.runs there
    ∙ ap (λ (k : ℕ). place_of k (flat rs)) (find_record-ticket t rs x (at.found ∙ there))
    ∙ ap (λ (l : List Record). place_of t l) are
