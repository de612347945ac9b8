-- The records of runs laid out as those of their blocks, in the forms of the steps on runs.
use Rattle.std.proofs.Common.{◌≡◌, ℕ, ◌+◌, Bool, true, false, List, [], ◌∷◌, ◌++◌, Option, None, Some, refl, sym, ap, ◌∙◌, subst, inl, inr}
use Rattle.std.specs.List.{list_any}
use Rattle.std.proofs.lemmas.Bool.Decides.{eqb_tells}
use Rattle.nm_fanout.specs.declared.record_data.RecordData.{RecordData}
use Rattle.nm_fanout.specs.declared.write_record.Record.{Record}
use Rattle.nm_fanout.specs.Record.{IsRun, begun, is_under_way, owes, with_entry, without_leg}
use Rattle.nm_fanout.specs.Records.{IsAt, changed, landed, reached, with_new}
use Rattle.nm_fanout.specs.Runs.{AllFound, AreRuns, each_block, each_changed, flat, laid_from, laid_out, next_entry}
use Rattle.nm_fanout.proofs.Finding.{find_record-ticket}
use Rattle.nm_fanout.proofs.Flat.{each_mapped, each-set, flat-push, found-run, run-entry, run-without}
use Rattle.nm_fanout.proofs.FlatClaims.{of-run}
use Rattle.nm_fanout.proofs.Indexed.{some-at}
use Rattle.nm_fanout.proofs.Places.{set-at}
use Rattle.nm_fanout.proofs.RunOrder.{ascends-runs, run-at}
use Rattle.nm_rules.specs.RunBegin.{begun_each}
use Rattle.nm_rules.specs.RunPush.{land_each, reach_each}
use Rattle.nm_rules.specs.Runs.{AreFinished, AreOwed, of_run}

-- a run begins: its blocks do
begun-laid : (run ticket block : ℕ) (owed : List Bool) (ds : List RecordData)
    → laid_from run ticket block owed None ds ≡ begun_each run ticket block owed ds
begun-laid run ticket block owed [] = refl
begun-laid run ticket block owed (d ∷ ds) =
    ap (λ (xs : List Record). begun run ticket block d owed ∷ xs)
    (begun-laid run (ticket + 1) (block + 1) owed ds)

pub flat-begun : (rs : List Record) (run block : ℕ) (d : RecordData) (owed : List Bool)
    → flat (with_new (begun run run block d owed) rs)
    ≡ flat rs ++ begun_each run run block owed (each_block d)
flat-begun rs run block d owed = flat-push rs (begun run run block d owed)
    ∙ ap (λ (xs : List Record). flat rs ++ xs) (begun-laid run run block owed (each_block d))

-- each of a run's blocks owes what the run owes
owed-laid : (leg run ticket block : ℕ) (owed : List Bool) (entry : Option ℕ)
    (ds : List RecordData) (list : List Record) (r : Record) → r.owed ≡ owed → owes leg r ≡ true
    → AllFound (laid_from run ticket block owed entry ds) list
    → AreOwed ticket block leg (laid_from run ticket block owed entry ds) list
owed-laid leg run ticket block owed entry [] list r same owes_leg found = tt
owed-laid leg run ticket block owed entry (d ∷ ds) list r same owes_leg found = (
  refl,
  refl,
  found.0,
  sym (ap (λ (places : List Bool). owes leg (record r { owed = places })) same) ∙ owes_leg,
  owed-laid leg run (ticket + 1) (block + 1) owed (next_entry entry) ds list r same owes_leg found.1,
)

pub are-owed : (leg : ℕ) (r : Record) (list : List Record) → owes leg r ≡ true
    → AllFound (laid_out r) list → AreOwed r.ticket r.block leg (laid_out r) list
are-owed leg r list owes_leg found =
    owed-laid leg r.run r.ticket r.block r.owed r.entry (each_block r.data) list r refl owes_leg found

-- and is finished as the run is
finished-laid : (run ticket block number : ℕ) (owed : List Bool) (ds : List RecordData)
    (list : List Record) → list_any (λ (o : Bool). o) owed ≡ false
    → AllFound (laid_from run ticket block owed (Some number) ds) list
    → AreFinished ticket block number (laid_from run ticket block owed (Some number) ds) list
finished-laid run ticket block number owed [] list idle found = tt
finished-laid run ticket block number owed (d ∷ ds) list idle found = (
  refl,
  refl,
  found.0,
  idle,
  refl,
  finished-laid run (ticket + 1) (block + 1) (number + 1) owed ds list idle found.1,
)

pub are-finished : (r : Record) (number : ℕ) (list : List Record) → is_under_way r ≡ false
    → r.entry ≡ Some number → AllFound (laid_out r) list
    → AreFinished r.ticket r.block number (laid_out r) list
are-finished r number list idle landed found =
    subst (λ (e : Option ℕ). AllFound (laid e) list → AreFinished r.ticket r.block number (laid e) list)
    (sym landed)
    (finished-laid r.run r.ticket r.block number r.owed (each_block r.data) list idle) found
  where
    laid : Option ℕ → List Record
    laid e = laid_from r.run r.ticket r.block r.owed e (each_block r.data)

-- what is done to each block, one after the other
reach-each : (leg n : ℕ) (os list : List Record)
    → reach_each leg os list ≡ each_changed (λ k. without_leg leg) n os list
reach-each leg n [] list = refl
reach-each leg n (o ∷ os) list = reach-each leg (n + 1) os (reached o.ticket leg list)

-- a record that reaches the master and gets its entry there
abbrev with_both : ℕ → ℕ → Record → Record
with_both leg n o = with_entry n (without_leg leg o)

changed-twice : (leg t n : ℕ) (rs : List Record)
    → landed t n (reached t leg rs) ≡ changed (with_both leg n) t rs
changed-twice leg t n [] = refl
changed-twice leg t n (r ∷ rs) =
    elim (eqb_tells r.ticket t) [
      | inl w ↦ rw (w.0, w.0)
          (ap (λ (l : List Record). with_both leg n r ∷ l) (changed-twice leg t n rs))
      | inr w ↦ rw (w.0, w.0) (ap (λ (l : List Record). r ∷ l) (changed-twice leg t n rs))
    ]

land-each : (leg n : ℕ) (os list : List Record)
    → land_each leg n os list ≡ each_changed (λ k. with_both leg k) n os list
land-each leg n [] list = refl
land-each leg n (o ∷ os) list =
    ap (λ (l : List Record). land_each leg (n + 1) os l) (changed-twice leg o.ticket n list)
    ∙ land-each leg (n + 1) os (changed (with_both leg n) o.ticket list)

mapped-twice : (leg n m : ℕ) (os : List Record)
    → each_mapped with_entry n (each_mapped (λ k. without_leg leg) m os)
    ≡ each_mapped (λ k. with_both leg k) n os
mapped-twice leg n m [] = refl
mapped-twice leg n m (o ∷ os) =
    ap (λ (xs : List Record). with_both leg n o ∷ xs) (mapped-twice leg (n + 1) (m + 1) os)

-- the run of a ticket: its blocks are those that name it, and this is done to all runs with it
pub record DoesRun (ticket : ℕ) (rs after_blocks : List Record)
    (each : List Record → List Record) : Type 0 where
  pub run : Record
  pub named : run.ticket ≡ ticket
  pub is_run : IsRun run
  pub members : of_run ticket (flat rs) ≡ laid_out run
  pub found : AllFound (laid_out run) (flat rs)
  pub after : after_blocks ≡ each (laid_out run)

-- a run reaches a leg
pub run-reaches : (leg ticket place : ℕ) (rs : List Record) → AreRuns rs → IsAt ticket place rs
    → DoesRun ticket rs (flat (reached ticket leg rs)) (λ os. reach_each leg os (flat rs))
run-reaches leg ticket place rs h at =
    let x = some-at rs place at.within in
    record {
      run = x.0;
      named = find_record-ticket ticket rs x.0 (at.found ∙ x.1);
      is_run = run-at rs place x.0 h.runs x.1;
      members = of-run ticket rs x.0 h (at.found ∙ x.1);
      found = found-run place rs x.0 x.1 h.rise;
      after = ap (λ (l : List Record). flat l)
          (sym (set-at (without_leg leg) ticket place rs x.0 (ascends-runs rs h) at x.2))
          ∙ sym (each-set (λ k. without_leg leg) (λ n o. refl) (without_leg leg) 0 place rs x.0 x.1
          (run-without leg 0 x.0) h.rise)
          ∙ sym (reach-each leg 0 (laid_out x.0) (flat rs));
    }

-- and gets its entries with that, from this number on
pub run-lands : (leg number ticket place : ℕ) (rs : List Record) → AreRuns rs
    → IsAt ticket place rs
    → DoesRun ticket rs (flat (landed ticket number (reached ticket leg rs)))
    (λ os. land_each leg number os (flat rs))
run-lands leg number ticket place rs h at =
    let x = some-at rs place at.within in
    let laid : laid_out (with_both leg number x.0)
    ≡ each_mapped (λ k. with_both leg k) number (laid_out x.0) =
    run-entry number (without_leg leg x.0)
    ∙ ap (λ (os : List Record). each_mapped with_entry number os) (run-without leg number x.0)
    ∙ mapped-twice leg number number (laid_out x.0) in
    record {
      run = x.0;
      named = find_record-ticket ticket rs x.0 (at.found ∙ x.1);
      is_run = run-at rs place x.0 h.runs x.1;
      members = of-run ticket rs x.0 h (at.found ∙ x.1);
      found = found-run place rs x.0 x.1 h.rise;
      after = ap (λ (l : List Record). flat l) (changed-twice leg ticket number rs
          ∙ sym (set-at (with_both leg number) ticket place rs x.0 (ascends-runs rs h) at x.2))
          ∙ sym (each-set (λ k. with_both leg k) (λ n o. refl) (with_both leg number) number place
          rs x.0 x.1 laid h.rise)
          ∙ sym (land-each leg number (laid_out x.0) (flat rs));
    }
