-- A claim, from what its calls say to the record of it.
use Rattle.std.proofs.Common.{◌≡◌, ℕ, ◌+◌, ◌<◌, ◌≤◌, ◌^◌, ◌==◌, true, false, cond, List, [], ◌∷◌, length, Option, Some, None, is_none, is_some, IsSome, sym, ap, ◌∙◌, subst, arith, inl, inr}
use Rattle.std.specs.Option.{option_and_then}
use Rattle.std.proofs.lemmas.Option.{same_Some}
use Rattle.nm_fanout.proofs.Members.{Member, Member-find_record}
use Rattle.nm_fanout.specs.declared.write_record.Record.{Record}
use Rattle.nm_fanout.specs.Record.{is_under_way}
use Rattle.nm_fanout.specs.Records.{Ascends, find_record}
use Rattle.nm_leg.specs.Leg.{LegType}
use Rattle.nm_rules.specs.declared.refusal.Refusal.TheVariants.{NoTicket, NotYet}
use Rattle.nm_rules.specs.Cause.{when}
use Rattle.nm_rules.specs.Invariant.{AllLow, IsLow, Keeps}
use Rattle.nm_rules.specs.RunClaim.{ClaimsRun, claim_run_cause, claim_run_rows}
use Rattle.nm_rules.specs.Runs.{AreFinished, EntryNames, find_run, of_run}
use Rattle.nm_rules.specs.State.{StripeState}
use Rattle.nm_rules.proofs.CauseLemmas.{is_there, none_holds, when_off}
use Rattle.nm_rules.proofs.ClaimLemmas.{finished_landed}
use Rattle.nm_rules.proofs.LowLemmas.{low-found}

-- the record that is found first of a run is in the list
run-Member : (ticket : ℕ) (rs : List Record) (r : Record) → find_run ticket rs ≡ Some r → Member r rs
run-Member ticket [] r found = absurd cc
run-Member ticket (q ∷ rs) r found =
    (elim (q.run == ticket) as (λ b. cond b (Some q) (find_run ticket rs) ≡ Some r → Member r (q ∷ rs)) [
      | true ↦ λ is. inl (sym (same_Some q r is))
      | false ↦ λ is. inr (run-Member ticket rs r is)
    ]) found

-- so it is found by its own ticket
pub run-found : (ticket : ℕ) (rs : List Record) (r : Record) → Ascends rs → find_run ticket rs ≡ Some r → find_record r.ticket rs ≡ Some r
run-found ticket rs r up found = Member-find_record rs r up (run-Member ticket rs r found)

-- a run that may be claimed is not under way
run-over : {L : Type 0} (old : StripeState L) (ticket : ℕ) (r : Record) → claim_run_cause old ticket ≡ None → find_run ticket old.records ≡ Some r → is_under_way r ≡ false
run-over old ticket r none found =
    let rows = none_holds (claim_run_rows old ticket) none in
    let row : option_and_then (λ (q : Record). when (is_under_way q) NotYet) (find_run ticket old.records) ≡ None = rows.1.1.0 in
    when_off (is_under_way r) NotYet (sym (ap (λ (o : Option Record). option_and_then (λ (q : Record). when (is_under_way q) NotYet) o) found) ∙ row)

-- and has its entries
pub run-landed : {L : Type 0} (type : LegType L) (old : StripeState L) (ticket : ℕ) → Keeps type old → claim_run_cause old ticket ≡ None → (r : Record) → find_run ticket old.records ≡ Some r → IsSome r.entry
run-landed type old ticket k none r found =
    let here = run-found ticket old.records r k.records.in_order.ascending found in
    let n = finished_landed type old r.ticket r here (run-over old ticket r none found) k.records in
    ap (λ (e : Option ℕ). is_some e) n.1

-- a run that is found has a record
run-some : (ticket : ℕ) (rs : List Record) (r : Record) → find_run ticket rs ≡ Some r → 0 < length (of_run ticket rs)
run-some ticket [] r found = absurd cc
run-some ticket (q ∷ rs) r found =
    (elim (q.run == ticket) as (λ b. cond b (Some q) (find_run ticket rs) ≡ Some r → 0 < length (cond b (q ∷ of_run ticket rs) (of_run ticket rs))) [
      | true ↦ λ is. omega arith
      | false ↦ λ is. run-some ticket rs r is
    ]) found

pub claimed-some : {L : Type 0} (old : StripeState L) (ticket : ℕ) → claim_run_cause old ticket ≡ None → 0 < length (of_run ticket old.records)
claimed-some old ticket none =
    let rows = none_holds (claim_run_rows old ticket) none in
    let at = is_there (find_run ticket old.records) (when_off (is_none (find_run ticket old.records)) NoTicket rows.1.0) in
    run-some ticket old.records at.0 at.1

-- finished records that follow one another have numbers below 2^63
finished-low : (first : ℕ) (records rs : List Record) (ticket block number : ℕ) → AllLow first records → 0 < length rs → AreFinished ticket block number rs records → number + length rs ≤ 2 ^ 63
finished-low first records [] ticket block number low some are = absurd (let e : ⊥ = omega (arith, some) in e)
finished-low first records (r ∷ []) ticket block number low some are =
    let own : number < 2 ^ 63 = subst (λ (e : Option ℕ). IsLow first e) are.4 (low-found first r.ticket records r low are.2) in
    omega (arith, own)
finished-low first records (r ∷ (q ∷ rs)) ticket block number low some are =
    let rest = finished-low first records (q ∷ rs) (ticket + 1) (block + 1) (number + 1) low (omega arith) are.5 in
    omega (arith, rest)

-- the numbers of the entries of the run that is claimed
pub claimed-low : {L : Type 0} (type : LegType L) (old new : StripeState L) (ticket : ℕ) (answer : EntryNames) → Keeps type old → ClaimsRun old new ticket answer → (0 < answer.count) × (answer.number + answer.count ≤ 2 ^ 63)
claimed-low type old new ticket answer k c =
    let some = claimed-some old ticket c.no_cause in
    let low = finished-low old.first old.records (of_run ticket old.records) ticket answer.block answer.number k.numbers.low some c.are in
    (omega (arith, some, c.count), omega (arith, low, c.count))

-- the names are of the stripe as it is then
pub named-after : {L : Type 0} (old new : StripeState L) (ticket block number count : ℕ)
    → ClaimsRun old new ticket (record { stripe = old.place.stripe; block = block; number = number; count = count }) → (answer : EntryNames)
    → answer ≡ record { stripe = new.place.stripe; block = block; number = number; count = count } → ClaimsRun old new ticket answer
named-after {L} old new ticket block number count c answer is =
    let place : new.place.stripe ≡ old.place.stripe = ap (λ (s : StripeState L). s.place.stripe) c.after in
    subst (λ (n : EntryNames). ClaimsRun old new ticket n)
    (sym (is ∙ ap (λ (m : ℕ). let e : EntryNames = record { stripe = m; block = block; number = number; count = count } in e) place)) c
