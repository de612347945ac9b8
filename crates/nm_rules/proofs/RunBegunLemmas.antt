-- What a run that has begun leaves, in one piece: its blocks owe the same legs.
use Rattle.std.proofs.Common.{◌≡◌, ℕ, suc, ◌+◌, ◌/◌, ◌%◌, ◌<◌, ◌≤◌, Bool, true, false, cond, List, [], ◌∷◌, ◌++◌, length, map, Option, None, Some, refl, ap, ◌∙◌, arith, append_assoc}
use Rattle.std.proofs.lemmas.Bool.Decides.{nat_tests}
use Rattle.std.proofs.lemmas.List.{set-set}
use Rattle.nm_fanout.specs.declared.record_data.RecordData.{RecordData}
use Rattle.nm_fanout.specs.declared.write_record.Record.{Record}
use Rattle.nm_fanout.specs.Record.{begun}
use Rattle.nm_leg.specs.Leg.{LegType}
use Rattle.nm_regions.specs.declared.copy_place.CopyPlace.{CopyPlace}
use Rattle.nm_regions.specs.LegFlags.{LegRegions, marked, marked_if_out}
use Rattle.nm_regions.specs.Table.{targets}
use Rattle.nm_rules.specs.Begin.{after_begin}
use Rattle.nm_rules.specs.RunBegin.{begun_each, meets_copy}
use Rattle.nm_rules.specs.State.{Chunk, StripeState, is_current, table}
use Rattle.nm_rules.proofs.BeginLemmas.{begin-current}
use Rattle.nm_rules.proofs.RunBeginSteps.{begin_each}
use Rattle.nm_rules.proofs.RunTargetsLemmas.{map-alike, run-targets, same-region}

-- a region that is marked is marked
mark-twice : (region : ℕ) (l : LegRegions) → marked_if_out region (marked_if_out region l) ≡ marked_if_out region l
mark-twice region l =
    (elim l.out as (λ b. l.out ≡ b → marked_if_out region (cond b (marked region l) l) ≡ cond b (marked region l) l) [
      | true ↦ λ out. ap (λ (b : Bool). cond b (marked region (marked region l)) (marked region l)) out ∙ ap (λ (bs : List Bool). let m : LegRegions = record l { behind = bs } in m) (set-set l.behind region true true)
      | false ↦ λ stays. ap (λ (b : Bool). cond b (marked region l) l) stays
    ]) refl

marks-twice : (region : ℕ) (legs : List LegRegions) → map (marked_if_out region) (map (marked_if_out region) legs) ≡ map (marked_if_out region) legs
marks-twice region [] = refl
marks-twice region (l ∷ legs) = ap (λ (x : LegRegions). x ∷ map (marked_if_out region) (map (marked_if_out region) legs)) (mark-twice region l) ∙ ap (λ (xs : List LegRegions). marked_if_out region l ∷ xs) (marks-twice region legs)

-- the rest of a run meets no copy either
rest-apart : (size : ℕ) (copy : Option CopyPlace) (chunk : Option Chunk) (block count : ℕ) → meets_copy size copy chunk block (suc count) ≡ false → 0 < count → meets_copy size copy chunk (block + 1) count ≡ false
rest-apart size None chunk block count apart some = refl
rest-apart size (Some copy) chunk block count apart some = grind (arith, nat_tests)

-- a begin leaves which legs are current at a block
targets-stay : {L : Type 0} (type : LegType L) (old : StripeState L) (block : ℕ) (d : RecordData) (run b : ℕ) → targets b (table (after_begin old run block d)) ≡ targets b (table old)
targets-stay type old block d run b = map-alike (λ leg. is_current leg b (after_begin old run block d)) (λ leg. is_current leg b old) (0 ∷ 1 ∷ 2 ∷ 3 ∷ 4 ∷ 5 ∷ 6 ∷ 7 ∷ []) (λ leg. begin-current type old run block d leg b)

-- the stripe after blocks of a run have begun, in one piece
abbrev pub begun_in : {L : Type 0} → ℕ → StripeState L → ℕ → List RecordData → StripeState L
begun_in run old block ds = record old {
  flags = map (marked_if_out (block / old.place.region)) old.flags;
  records = old.records ++ begun_each run old.tickets block (targets block (table old)) ds;
  tickets = old.tickets + length ds;
}

pub run-begun_so : {L : Type 0} (type : LegType L) (run : ℕ) (ds : List RecordData) (d : RecordData) (old : StripeState L) (block : ℕ)
    → meets_copy old.place.region old.copy old.chunk block (suc (length ds)) ≡ false → block % old.place.region + suc (length ds) ≤ old.place.region
    → begin_each run old block (d ∷ ds) ≡ begun_in run old block (d ∷ ds)
run-begun_so type run [] d old block apart short = refl
run-begun_so {L} type run (e ∷ es) d old block apart short =
    let size : ℕ = old.place.region in
    let count : ℕ = suc (length es) in
    let next = same-region size block 1 (omega (arith, short)) in
    let s : StripeState L = after_begin old run block d in
    let own : List Bool = targets block (table old) in
    let r : Record = begun run old.tickets block d own in
    let owed : targets (block + 1) (table s) ≡ own = targets-stay type old block d run (block + 1) ∙ run-targets (table old) old.chunk block (suc count) 1 apart (omega arith) short in
    let flags : map (marked_if_out ((block + 1) / size)) (map (marked_if_out (block / size)) old.flags) ≡ map (marked_if_out (block / size)) old.flags =
    ap (λ (k : ℕ). map (marked_if_out k) (map (marked_if_out (block / size)) old.flags)) next.0 ∙ marks-twice (block / size) old.flags in
    let records : (old.records ++ r ∷ []) ++ begun_each run (old.tickets + 1) (block + 1) (targets (block + 1) (table s)) (e ∷ es) ≡ old.records ++ begun_each run old.tickets block own (d ∷ (e ∷ es)) =
    ap (λ (bs : List Bool). (old.records ++ r ∷ []) ++ begun_each run (old.tickets + 1) (block + 1) bs (e ∷ es)) owed
    ∙ append_assoc old.records (r ∷ []) (begun_each run (old.tickets + 1) (block + 1) own (e ∷ es)) in
    let tickets : old.tickets + 1 + length (e ∷ es) ≡ old.tickets + length (d ∷ (e ∷ es)) = omega arith in
    run-begun_so type run es e s (block + 1) (rest-apart size old.copy old.chunk block count apart (omega arith)) (omega (arith, short, next.1))
    ∙ ap (λ (fs : List LegRegions). let z : StripeState L = record old { flags = fs; records = (old.records ++ r ∷ []) ++ begun_each run (old.tickets + 1) (block + 1) (targets (block + 1) (table s)) (e ∷ es); tickets = old.tickets + 1 + length (e ∷ es) } in z) flags
    ∙ ap (λ (xs : List Record). let z : StripeState L = record old { flags = map (marked_if_out (block / size)) old.flags; records = xs; tickets = old.tickets + 1 + length (e ∷ es) } in z) records
    ∙ ap (λ (n : ℕ). let z : StripeState L = record old { flags = map (marked_if_out (block / size)) old.flags; records = old.records ++ begun_each run old.tickets block own (d ∷ (e ∷ es)); tickets = n } in z) tickets
