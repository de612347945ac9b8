-- The records of a run's blocks: which they are among all, the first of them, and how they go.
use Rattle.std.proofs.Common.{◌≡◌, ℕ, zero, suc, ◌+◌, ◌<◌, ◌==◌, Bool, true, false, cond, not, List, [], ◌∷◌, ◌++◌, length, filter, Option, None, Some, refl, sym, ap, ◌∙◌, subst, arith, eq-eqb, ne_eqb, append-nil, inl, inr}
use Rattle.std.specs.List.{find, remove, slice_get}
use Rattle.std.proofs.lemmas.Bool.Decides.{eqb_tells}
use Rattle.std.proofs.lemmas.Option.{same_Some}
use Rattle.nm_fanout.specs.declared.record_data.RecordData.{RecordData}
use Rattle.nm_fanout.specs.declared.write_record.Record.{Record}
use Rattle.nm_fanout.specs.Record.{IsRun}
use Rattle.nm_fanout.specs.RecordData.{blocks_in}
use Rattle.nm_fanout.specs.Records.{AllAbove, AllBelow, Ascends, IsAt, find_record, without, without_each}
use Rattle.nm_fanout.specs.Runs.{AllFound, AllFrom, AllRuns, AreRuns, RunsRise, each_block, flat, laid_from, laid_out, next_entry}
use Rattle.nm_fanout.proofs.InOrder.{AllBelow-rise}
use Rattle.nm_fanout.proofs.Finding.{find_record-ticket}
use Rattle.nm_fanout.proofs.Flat.{above-append, above-from, flat-from, found-run, from-place, run-below}
use Rattle.nm_fanout.proofs.FlatSteps.{filter-append, flat-chosen}
use Rattle.nm_fanout.proofs.Indexed.{some-at}
use Rattle.nm_fanout.proofs.Laying.{TicketsFollow, above-follow, length-each, length-run, run-follows}
use Rattle.nm_fanout.proofs.Places.{remove-at}
use Rattle.nm_fanout.proofs.RunOrder.{ascends-runs, run-at}
use Rattle.nm_fanout.proofs.Tickets.{without-above}

-- a ticket has one record
none-chosen : (t : ℕ) (rs : List Record) → AllAbove t rs → filter (λ r. r.ticket == t) rs ≡ []
none-chosen t [] h = refl
none-chosen t (r ∷ rs) h =
    let other : (r.ticket == t) ≡ false = ne_eqb r.ticket t (λ e. omega (arith, h.0, e)) in
    rw other (none-chosen t rs h.1)

one-chosen : (t : ℕ) (rs : List Record) (x : Record) → Ascends rs → find_record t rs ≡ Some x
    → filter (λ r. r.ticket == t) rs ≡ x ∷ []
one-chosen t [] x h found = absurd cc
one-chosen t (r ∷ rs) x h found =
    elim (eqb_tells r.ticket t) [
      | inl w ↦
          let here : Some r ≡ Some x = rw w.0 at found in
          let e : r ≡ x = cc in
          let above : AllAbove t rs = subst (λ (k : ℕ). AllAbove k rs) w.1 h.0 in
          rw w.0 (ap (λ (l : List Record). r ∷ l) (none-chosen t rs above)
          ∙ ap (λ (y : Record). y ∷ []) e)
      | inr w ↦
          let later : find_record t rs ≡ Some x = rw w.0 at found in
          rw w.0 (one-chosen t rs x h.1 later)
    ]

-- the records that name a run are those of its blocks
pub of-run : (t : ℕ) (rs : List Record) (x : Record) → AreRuns rs → find_record t rs ≡ Some x
    → filter (λ o. o.run == t) (flat rs) ≡ laid_out x
of-run t rs x h found = sym (flat-chosen (λ k. k == t) rs h.runs)
    ∙ ap (λ (l : List Record). flat l) (one-chosen t rs x (ascends-runs rs h) found)
    ∙ append-nil (laid_out x)

-- the first of them owes what the run owes, and has the run's entry
pub record FirstBlock (r : Record) : Type 0 where
  pub first : Record
  pub more : List Record
  pub all : laid_out r ≡ first ∷ more
  pub ticket : first.ticket ≡ r.ticket
  pub block : first.block ≡ r.block
  pub owed : first.owed ≡ r.owed
  pub entry : first.entry ≡ r.entry

first-laid : (r : Record) (ds : List RecordData) → each_block r.data ≡ ds → 0 < length ds
    → FirstBlock r
first-laid r [] is some = absurd (omega (arith, some))
first-laid r (d ∷ ds) is some = record {
  first = record {
    run = r.run;
    ticket = r.ticket;
    block = r.block;
    «data» = d;
    owed = r.owed;
    entry = r.entry;
  };
  more = laid_from r.run (r.ticket + 1) (r.block + 1) r.owed (next_entry r.entry) ds;
  all = ap (λ (xs : List RecordData). laid_from r.run r.ticket r.block r.owed r.entry xs) is;
  ticket = refl;
  block = refl;
  owed = refl;
  entry = refl;
}

pub first-block : (r : Record) → IsRun r → FirstBlock r
first-block r h =
    let some = h.filled.some in
    first-laid r (each_block r.data) refl (omega (arith, some, length-each r.data))

-- records with lower tickets stay as later ones go
without-below : (t : ℕ) (xs : List Record) → AllBelow t xs → without t xs ≡ xs
without-below t [] h = refl
without-below t (x ∷ xs) h =
    let other : (x.ticket == t) ≡ false = ne_eqb x.ticket t (λ e. omega (arith, h.0, e)) in
    rw other (ap (λ (zs : List Record). x ∷ zs) (without-below t xs h.1))

gone-skip : (t : ℕ) (xs os ys : List Record) → AllBelow t xs → TicketsFollow t os
    → without_each os (xs ++ ys) ≡ xs ++ without_each os ys
gone-skip t xs [] ys below follow = refl
gone-skip t xs (o ∷ os) ys below follow =
    let here : without o.ticket (xs ++ ys) ≡ xs ++ without o.ticket ys =
    filter-append (λ r. not (r.ticket == o.ticket)) xs ys
    ∙ ap (λ (zs : List Record). zs ++ without o.ticket ys) (without-below o.ticket xs
    (subst (λ (k : ℕ). AllBelow k xs) (sym follow.0) below)) in
    ap (λ (zs : List Record). without_each os zs) here
    ∙ gone-skip (t + 1) xs os (without o.ticket ys) (AllBelow-rise t (t + 1) xs (omega arith) below)
    follow.1

-- a run's own records all go
gone-own : (t : ℕ) (os ys : List Record) → TicketsFollow t os → AllFrom (t + length os) ys
    → without_each os (os ++ ys) ≡ ys
gone-own t [] ys follow later = refl
gone-own t (o ∷ os) ys follow later =
    let same : (o.ticket == o.ticket) ≡ true = eq-eqb o.ticket o.ticket refl in
    let above : AllAbove o.ticket (os ++ ys) = above-append o.ticket os ys
    (above-follow o.ticket (t + 1) os (omega (arith, follow.0)) follow.1)
    (above-from o.ticket (t + length (o ∷ os)) ys (omega (arith, follow.0)) later) in
    let end : t + length (o ∷ os) ≡ t + 1 + length os = omega arith in
    ap (λ (b : Bool). without_each os (cond (not b) (o ∷ without o.ticket (os ++ ys)) (without o.ticket (os ++ ys))))
    same
    ∙ ap (λ (zs : List Record). without_each os zs) (without-above o.ticket (os ++ ys) above)
    ∙ gone-own (t + 1) os ys follow.1 (subst (λ (k : ℕ). AllFrom k ys) end later)

gone-run : (place : ℕ) (rs : List Record) (r : Record) → slice_get rs place ≡ Some r → RunsRise rs
    → without_each (laid_out r) (flat rs) ≡ flat (remove rs place)
gone-run place [] r there rise = absurd cc
gone-run zero (q ∷ rs) r there rise =
    let is : q ≡ r = same_Some q r there in
    let later : AllFrom (r.ticket + length (laid_out r)) (flat rs) =
    subst (λ (k : ℕ). AllFrom (r.ticket + k) (flat rs)) (sym (length-run r))
    (flat-from (r.ticket + blocks_in r.data) rs
    (subst (λ (x : Record). AllFrom (x.ticket + blocks_in x.data) rs) is rise.0)) in
    ap (λ (x : Record). without_each (laid_out r) (laid_out x ++ flat rs)) is
    ∙ gone-own r.ticket (laid_out r) (flat rs) (run-follows r) later
gone-run (suc place) (q ∷ rs) r there rise =
    let past = from-place (q.ticket + blocks_in q.data) place rs r rise.0 there in
    gone-skip r.ticket (laid_out q) (laid_out r) (flat rs)
    (AllBelow-rise (q.ticket + blocks_in q.data) r.ticket (laid_out q) past (run-below q))
    (run-follows r)
    ∙ ap (λ (zs : List Record). laid_out q ++ zs) (gone-run place rs r there rise.1)

-- a run is claimed: the records that name it go, one after the other
pub record Claiming (ticket : ℕ) (rs : List Record) : Type 0 where
  pub run : Record
  pub named : run.ticket ≡ ticket
  pub is_run : IsRun run
  pub members : filter (λ o. o.run == ticket) (flat rs) ≡ laid_out run
  pub found : AllFound (laid_out run) (flat rs)
  pub after : flat (without ticket rs) ≡ without_each (laid_out run) (flat rs)

pub claiming : (ticket place : ℕ) (rs : List Record) → AreRuns rs → IsAt ticket place rs
    → Claiming ticket rs
claiming ticket place rs h at =
    let x = some-at rs place at.within in
    record {
      run = x.0;
      named = find_record-ticket ticket rs x.0 (at.found ∙ x.1);
      is_run = run-at rs place x.0 h.runs x.1;
      members = of-run ticket rs x.0 h (at.found ∙ x.1);
      found = found-run place rs x.0 x.1 h.rise;
      after = ap (λ (l : List Record). flat l)
          (sym (remove-at ticket place rs x.0 (ascends-runs rs h) at))
          ∙ sym (gone-run place rs x.0 x.1 h.rise);
    }
