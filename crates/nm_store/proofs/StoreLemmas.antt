-- What is found among a store's runs, told by the records of their blocks.
use Rattle.std.proofs.Common.{◌≡◌, ℕ, zero, suc, ◌+◌, ◌<◌, ◌≤◌, ◌==◌, Bool, true, false, cond, List, [], ◌∷◌, ◌++◌, length, drop, find, position, slice_index_or, Option, None, Some, refl, sym, ap, ◌∙◌, arith, subst, ◌&&◌}
use Rattle.std.specs.List.{list_any, slice_get}
use Rattle.std.specs.Option.{option_map, option_and_then}
use Rattle.std.proofs.lemmas.List.{length-append}
use Rattle.std.proofs.lemmas.Option.{same_Some}
use Rattle.nm_fanout.specs.declared.record_data.RecordData.{RecordData}
use Rattle.nm_fanout.specs.declared.write_record.Record.{Record}
use Rattle.nm_fanout.specs.Record.{IsRun, is_under_way, lowest_owed, owes}
use Rattle.nm_fanout.specs.RecordData.{blocks_in}
use Rattle.nm_fanout.specs.Records.{busy_among, find_record, is_among, first_owed, next_owed, runs_in}
use Rattle.nm_fanout.specs.Runs.{AllRuns, AreRuns, each_block, flat, laid_from, laid_out, next_entry, run_busy_among}
use Rattle.nm_fanout.proofs.FlatClaims.{first-block, of-run}
use Rattle.nm_fanout.proofs.FlatSteps.{flat-busy}
use Rattle.nm_fanout.proofs.Laying.{length-run, run-one}
use Rattle.nm_rules.specs.declared.refusal.Refusal.TheVariants.{Busy, NoTicket, NotOwed, NotYet}
use Rattle.nm_rules.specs.Copy.{busy_within}
use Rattle.nm_rules.specs.RunClaim.{claim_run_cause}
use Rattle.nm_rules.specs.RunPush.{push_run_cause}
use Rattle.nm_rules.specs.Runs.{find_run}
use Rattle.nm_rules.specs.State.{StripeState}
use Rattle.nm_store.specs.Owing.{run_owed}
use Rattle.nm_store.proofs.RunNameLemmas.{first-found, no-run}

-- a run that is busy is that of a block that is busy
named-busy : (o : Option Record)
    → option_map (λ (t : ℕ). Busy t) (option_map (λ (r : Record). r.run) o)
    ≡ option_map (λ (r : Record). Busy r.run) o
named-busy None = refl
named-busy (Some r) = refl

pub busy-run : (first count : ℕ) (rs : List Record) (found : Option ℕ) → 0 < count → AllRuns rs
    → found ≡ option_map (λ (r : Record). r.ticket) (run_busy_among first count rs)
    → option_map (λ (t : ℕ). Busy t) found
    ≡ option_map (λ (r : Record). Busy r.run) (busy_among first count (flat rs))
busy-run first count rs found some all is =
    ap (λ (o : Option ℕ). option_map (λ (t : ℕ). Busy t) o) (is ∙ flat-busy first count rs some all)
    ∙ named-busy (busy_among first count (flat rs))

-- the blocks name as many runs as there are
runs-append : (xs ys : List Record) → runs_in (xs ++ ys) ≡ runs_in xs + runs_in ys
runs-append [] ys = omega arith
runs-append (x ∷ xs) ys = omega (arith, runs-append xs ys)

pub runs-flat : (rs : List Record) → AllRuns rs → runs_in (flat rs) ≡ length rs
runs-flat [] all = refl
runs-flat (r ∷ rs) all = omega
    (arith, runs-append (laid_out r) (flat rs), run-one r all.0, runs-flat rs all.1)

-- a run that is not under way has no block that is
idle-skip : (run ticket block : ℕ) (owed : List Bool) (entry : Option ℕ) (ds : List RecordData)
    (ys : List Record) → list_any (λ (o : Bool). o) owed ≡ false
    → find is_under_way (laid_from run ticket block owed entry ds ++ ys) ≡ find is_under_way ys
idle-skip run ticket block owed entry [] ys idle = refl
idle-skip run ticket block owed entry (d ∷ ds) ys idle =
    rw idle (idle-skip run (ticket + 1) (block + 1) owed (next_entry entry) ds ys idle)

-- the lowest ticket under way is the first of the lowest run
abbrev owed_so : Record → Option (ℕ × ℕ)
owed_so r = option_map (λ (leg : ℕ). (r.ticket, leg)) (lowest_owed r)

pub flat-first_owed : (rs : List Record) → AllRuns rs → first_owed rs ≡ first_owed (flat rs)
flat-first_owed [] all = refl
flat-first_owed (r ∷ rs) all =
    elim (is_under_way r) as (λ b. is_under_way r ≡ b
    → option_and_then owed_so (cond b (Some r) (find is_under_way rs))
    ≡ option_and_then owed_so (find is_under_way (laid_out r ++ flat rs))) [
      | true ↦ λ going.
          let f = first-block r all.0 in
          let busy : is_under_way f.first ≡ true =
          ap (λ (o : List Bool). list_any (λ (b : Bool). b) o) f.owed ∙ going in
          sym (
          ap (λ (l : List Record). option_and_then owed_so (find is_under_way (l ++ flat rs))) f.all
          ∙ ap (λ (b : Bool). option_and_then owed_so (cond b (Some f.first) (find is_under_way (f.more ++ flat rs)))) busy
          ∙ ap (λ (t : ℕ). option_map (λ (leg : ℕ). (t, leg)) (lowest_owed f.first)) f.ticket
          ∙ ap (λ (o : List Bool). option_map (λ (leg : ℕ). (r.ticket, leg)) (position (λ (b : Bool). b) o)) f.owed)
      | false ↦ λ idle.
          flat-first_owed rs all.1
          ∙ ap (λ (o : Option Record). option_and_then owed_so o)
          (sym (idle-skip r.run r.ticket r.block r.owed r.entry (each_block r.data) (flat rs) idle))
    ] refl

-- what a ticket names is a run
run-of : (ticket : ℕ) (rs : List Record) (r : Record) → AllRuns rs
    → find_record ticket rs ≡ Some r → IsRun r
run-of ticket [] r all found = absurd cc
run-of ticket (x ∷ xs) r all found =
    (elim (x.ticket == ticket) as (λ b. cond b (Some x) (find_record ticket xs) ≡ Some r → IsRun r) [
      | true ↦ λ is. subst (λ (y : Record). IsRun y) (same_Some x r is) all.0
      | false ↦ λ rest. run-of ticket xs r all.1 rest
    ]) found

-- the run of a ticket is named by its first block
pub record NamedRun (ticket : ℕ) (r : Record) (list : List Record) : Type 0 where
  pub first : Record
  pub found : find_run ticket list ≡ Some first
  pub owed : first.owed ≡ r.owed
  pub entry : first.entry ≡ r.entry

pub named-run : (ticket : ℕ) (rs : List Record) (r : Record) → AreRuns rs
    → find_record ticket rs ≡ Some r → NamedRun ticket r (flat rs)
named-run ticket rs r h found =
    let f = first-block r (run-of ticket rs r h.runs found) in
    record {
      first = f.first;
      found = first-found ticket (flat rs) f.first f.more (of-run ticket rs r h found ∙ f.all);
      owed = f.owed;
      entry = f.entry;
    }

-- so it has the same lowest leg to reach
lowest-same : (x r : Record) → x.owed ≡ r.owed → lowest_owed r ≡ lowest_owed x
lowest-same x r same = ap (λ (o : List Bool). position (λ (b : Bool). b) o) (sym same)

pub flat-next_owed : (ticket : ℕ) (rs : List Record) → AreRuns rs
    → next_owed ticket rs ≡ run_owed ticket (flat rs)
flat-next_owed ticket rs h = by_found (find_record ticket rs) refl
  where
    by_found : (o : Option Record) → find_record ticket rs ≡ o
        → option_and_then lowest_owed (find_record ticket rs) ≡ run_owed ticket (flat rs)
    by_found None none =
        ap (λ (x : Option Record). option_and_then lowest_owed x) none
        ∙ ap (λ (x : Option Record). option_and_then lowest_owed x) (sym (no-run ticket rs h.runs none))
    by_found (Some r) found =
        let n = named-run ticket rs r h found in
        ap (λ (x : Option Record). option_and_then lowest_owed x) found
        ∙ lowest-same n.first r n.owed
        ∙ ap (λ (x : Option Record). option_and_then lowest_owed x) (sym n.found)

-- why a run may not be pushed or claimed, as the run of its ticket has it
module _ {L : Type 0} (s : StripeState L) (ticket : ℕ) (rs : List Record) (h : AreRuns rs)
    (is : s.records ≡ flat rs) (runs : s.stopped ≡ false) where
  here : (o : Option Record) → find_run ticket (flat rs) ≡ o → find_run ticket s.records ≡ o
  here o found = ap (λ (l : List Record). find_run ticket l) is ∙ found

  pub push-none : (leg : ℕ) → find_record ticket rs ≡ None
      → Some NoTicket ≡ push_run_cause s ticket leg
  push-none leg none = rw (runs, here None (no-run ticket rs h.runs none)) refl

  pub claim-none : find_record ticket rs ≡ None → Some NoTicket ≡ claim_run_cause s ticket
  claim-none none = rw (runs, here None (no-run ticket rs h.runs none)) refl

  module _ (r : Record) (found : find_record ticket rs ≡ Some r) where
    pub push-owed : (leg : ℕ) → owes leg r ≡ true → None ≡ push_run_cause s ticket leg
    push-owed leg owed =
        let n = named-run ticket rs r h found in
        let first_owes : owes leg n.first ≡ true =
        ap (λ (o : List Bool). slice_index_or o leg false) n.owed ∙ owed in
        rw (runs, here (Some n.first) n.found, first_owes) refl

    pub push-not_owed : (leg : ℕ) → owes leg r ≡ false
        → Some NotOwed ≡ push_run_cause s ticket leg
    push-not_owed leg owed =
        let n = named-run ticket rs r h found in
        let first_owes : owes leg n.first ≡ false =
        ap (λ (o : List Bool). slice_index_or o leg false) n.owed ∙ owed in
        rw (runs, here (Some n.first) n.found, first_owes) refl

    pub claim-going : is_under_way r ≡ true → Some NotYet ≡ claim_run_cause s ticket
    claim-going going =
        let n = named-run ticket rs r h found in
        let busy : is_under_way n.first ≡ true =
        ap (λ (o : List Bool). list_any (λ (b : Bool). b) o) n.owed ∙ going in
        rw (runs, here (Some n.first) n.found, busy) refl

    pub claim-over : is_under_way r ≡ false → None ≡ claim_run_cause s ticket
    claim-over over =
        let n = named-run ticket rs r h found in
        let idle : is_under_way n.first ≡ false =
        ap (λ (o : List Bool). list_any (λ (b : Bool). b) o) n.owed ∙ over in
        rw (runs, here (Some n.first) n.found, idle) refl

-- a copy looks for a busy write as a begin does
pub within-among : (first count : ℕ) (rs : List Record)
    → busy_among first count rs ≡ busy_within first count rs
within-among first count [] = refl
within-among first count (r ∷ rs) =
    ap (λ (b : Bool). cond b (Some r) (busy_among first count rs))
    (and-other (is_among first count r.block) (is_under_way r))
    ∙ ap (λ (o : Option Record). cond (is_under_way r && is_among first count r.block) (Some r) o)
    (within-among first count rs)
  where
    and-other : (a b : Bool) → (a && b) ≡ (b && a)
    and-other true true = refl
    and-other true false = refl
    and-other false true = refl
    and-other false false = refl

-- one run more is counted by its blocks
pub left-step : (place : ℕ) (rs : List Record) (r : Record) → slice_get rs place ≡ Some r
    → length (flat (drop place rs)) ≡ blocks_in r.data + length (flat (drop (place + 1) rs))
left-step place [] r there = absurd cc
left-step zero (x ∷ xs) r there =
    let is : x ≡ r = same_Some x r there in
    omega (
      arith,
      length-append (laid_out x) (flat xs),
      length-run x,
      ap (λ (y : Record). blocks_in y.data) is,
    )
left-step (suc place) (x ∷ xs) r there =
    let next : suc (place + 1) ≡ suc place + 1 = omega arith in
    left-step place xs r there
    ∙ ap (λ (n : ℕ). blocks_in r.data + length (flat (drop n (x ∷ xs)))) next

pub left-none : (place : ℕ) (rs : List Record) → length rs ≤ place
    → length (flat (drop place rs)) ≡ 0
left-none zero [] past = refl
left-none (suc place) [] past = refl
left-none zero (x ∷ xs) past = absurd (omega (arith, past))
left-none (suc place) (x ∷ xs) past = left-none place xs (omega (arith, past))
