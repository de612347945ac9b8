-- Lists of runs that are read or written: those of one stripe, and one list after the other.
use Rattle.std.proofs.Common.{◌≡◌, ℕ, ◌==◌, Bool, true, false, if◌then◌else◌, List, [], ◌∷◌, ◌++◌, refl, sym, ap, ◌∙◌}
use Rattle.nm_geometry.specs.Geometry.{Geometry, stripe_of}
use Rattle.nm_lanes.specs.declared.run.Run.{Run}
use Rattle.nm_lanes.specs.declared.run_write.RunWrite.{RunWrite}
use Rattle.nm_lanes.specs.Cuts.{runs_written}
use Rattle.nm_lanes.specs.Done.{Done}
use Rattle.nm_lanes.specs.Ends.{EndsClaimed}
use Rattle.nm_lanes.specs.Lists.{MirrorStep, stripe_list, steps_in}
use Rattle.nm_lanes.specs.Reads.{bytes_found, runs_in}
use Rattle.nm_lanes.specs.RegionRuns.{DoesEach, DoesSome}
use Rattle.nm_lanes.specs.Writes.{writes_in}
use Rattle.nm_lanes.proofs.ClaimedLemmas.{reads-claimed, writes-claimed}
use Rattle.nm_lanes.proofs.GetListLemmas as get
use Rattle.nm_lanes.proofs.PieceRangeLemmas.{written-append}
use Rattle.nm_lanes.proofs.PutListLemmas as put

-- the runs of a stripe's writes are the stripe's runs
kept : (here : Bool) (w : RunWrite) (writes : List RunWrite) (runs : List Run) → runs_written writes ≡ runs → runs_written (if here then w ∷ writes else writes) ≡ (if here then w.run ∷ runs else runs)
kept true w writes runs is = ap (λ (rs : List Run). w.run ∷ rs) is
kept false w writes runs is = is

pub in-runs : (shape : Geometry) (stripe : ℕ) (writes : List RunWrite) → runs_written (writes_in shape stripe writes) ≡ runs_in shape stripe (runs_written writes)
in-runs shape stripe [] = refl
in-runs shape stripe (w ∷ writes) = kept (stripe_of w.run.block shape == stripe) w (writes_in shape stripe writes) (runs_in shape stripe (runs_written writes)) (in-runs shape stripe writes)

-- all runs of a list are done, whatever was read
abbrev pub DoesAll : {L : Type 0} → Geometry → Bool → List RunWrite → List (MirrorStep L) → Type 0
DoesAll shape reads writes own = (target : List ℕ) × DoesEach shape reads writes target own

pub none-done : (L : Type 0) (shape : Geometry) (reads : Bool) → DoesEach {L = L} shape reads [] [] []
none-done L shape true = record { each = tt; filled = refl }
none-done L shape false = tt

pub none-some : (L : Type 0) (shape : Geometry) (reads : Bool) (xs : List RunWrite) → DoesSome {L = L} shape reads xs []
none-some L shape true xs = tt
none-some L shape false xs = tt

pub some-right : {L : Type 0} (shape : Geometry) (reads : Bool) (xs ys : List RunWrite) (own : List (MirrorStep L)) → DoesSome shape reads xs own → DoesSome shape reads (xs ++ ys) own
some-right shape true xs ys own a = rw (written-append xs ys) (get.some-right shape (runs_written xs) (runs_written ys) own a)
some-right shape false xs ys own a = put.some-right shape xs ys own a

pub each-some : {L : Type 0} (shape : Geometry) (reads : Bool) (xs : List RunWrite) (target : List ℕ) (own : List (MirrorStep L)) → DoesEach shape reads xs target own → DoesSome shape reads xs own
each-some shape true xs target own a = get.each-some shape (runs_written xs) own a.each
each-some shape false xs target own a = put.each-some shape xs own a

pub each-append : {L : Type 0} (shape : Geometry) (reads : Bool) (xs ys : List RunWrite) (front back : List ℕ) (own more : List (MirrorStep L)) → DoesEach shape reads xs front own → DoesEach shape reads ys back more → DoesEach shape reads (xs ++ ys) (front ++ back) (own ++ more)
each-append shape true xs ys front back own more a b =
    let us = runs_written xs in
    let vs = runs_written ys in
    rw (written-append xs ys) (record {
      each = get.each-append shape us vs own more a.each b.each;
      filled = ap (λ bs. bs ++ back) a.filled ∙ ap (λ bs. bytes_found us own ++ bs) b.filled ∙ sym (get.found-append shape us vs own more a.each);
    })
each-append shape false xs ys front back own more a b = put.each-append shape xs ys own more a b

pub some-append : {L : Type 0} (shape : Geometry) (reads : Bool) (xs ys : List RunWrite) (target : List ℕ) (own more : List (MirrorStep L)) → DoesEach shape reads xs target own → DoesSome shape reads ys more → DoesSome shape reads (xs ++ ys) (own ++ more)
some-append shape true xs ys target own more a b = rw (written-append xs ys) (get.some-append shape (runs_written xs) (runs_written ys) own more a.each b)
some-append shape false xs ys target own more a b = put.some-append shape xs ys own more a b

pub done-in : {L : Type 0} (shape : Geometry) (reads : Bool) (stripe : ℕ) (writes : List RunWrite) (target : List ℕ) (own : List (MirrorStep L)) → DoesEach shape reads writes target own
    → DoesAll shape reads (writes_in shape stripe writes) (steps_in stripe (stripe_list stripe own))
done-in shape true stripe writes target own a = (
  bytes_found (runs_written (writes_in shape stripe writes)) (steps_in stripe (stripe_list stripe own)),
  record {
    each = rw (in-runs shape stripe writes) (get.each-in shape stripe (runs_written writes) own a.each);
    filled = refl;
  },
)
done-in shape false stripe writes target own a = ([], put.each-in shape stripe writes own a)

pub each-claimed : {L : Type 0} (shape : Geometry) (reads : Bool) (writes : List RunWrite) (target : List ℕ) (stripe : ℕ) (own : List (Done L)) → DoesEach shape reads writes target (steps_in stripe own) → EndsClaimed own
each-claimed shape true writes target stripe own a = reads-claimed shape (runs_written writes) stripe own a.each
each-claimed shape false writes target stripe own a = writes-claimed shape writes stripe own a
