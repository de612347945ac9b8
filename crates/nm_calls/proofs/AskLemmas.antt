-- A read that is handed out: its leg serves each of its blocks, and no write is in its way.
use Rattle.std.proofs.Common.{◌≡◌, ℕ, ◌+◌, ◌-◌, ◌/◌, ◌%◌, ◌<◌, ◌≤◌, ◌==◌, ◌&&◌, ◌||◌, Bool, true, false, IsTrue, List, [], ◌∷◌, Option, None, Some, cond, refl, sym, ap, ◌∙◌, subst, arith, nat_le, nat_lt}
use Rattle.std.specs.List.{list_any}
use Rattle.std.proofs.lemmas.Bool.{eqb-true}
use Rattle.std.proofs.lemmas.Bool.Decides.{nat_tests}
use Rattle.std.proofs.lemmas.Option.{same_Some}
use Rattle.nm_fanout.specs.declared.write_record.Record.{Record}
use Rattle.nm_fanout.specs.Record.{is_under_way}
use Rattle.nm_fanout.specs.Records.{busy_on, is_among}
use Rattle.nm_leg.specs.Leg.{LegType}
use Rattle.nm_regions.specs.declared.copy_place.CopyPlace.{CopyPlace}
use Rattle.nm_regions.specs.Table.{has_copied, has_region}
use Rattle.nm_regions.specs.Table as regions
use Rattle.nm_rules.specs.declared.refusal.Refusal.TheVariants.{Settling, Stopped}
use Rattle.nm_rules.specs.Invariant.{Keeps}
use Rattle.nm_rules.specs.RunRead.{last_block, read_run_rows}
use Rattle.nm_rules.specs.Runs.{FitsRun}
use Rattle.nm_rules.specs.State.{StripeState, is_current, is_quiet, table}
use Rattle.nm_rules.proofs.CauseLemmas.{none_holds, when_off}
use Rattle.nm_rules.proofs.ReadLegLemmas.{FromCurrent, FromMaster, ReadFrom, from_holds, read_from}
use Rattle.nm_rules.proofs.RecordLemmas.{both}
use Rattle.nm_rules.proofs.RunTargetsLemmas.{same-region}
use Rattle.nm_rules.proofs.StateLemmas.{master_current}
use Rattle.nm_calls.specs.Asking.{AsksRead, next_read}
use Rattle.nm_calls.specs.CallsOut.{Calling, ReadOut, is_asked_on, is_out_on, reads_block}
use Rattle.nm_calls.specs.HasCalls.{HasCalls, MayRead}
use Rattle.nm_calls.proofs.ApartLemmas.{reads-keep}

-- where a copy has passed a place it has passed those before
passed-before : (leg region early late : ℕ) (copy : Option CopyPlace) → early ≤ late → has_copied leg region late copy ≡ true → has_copied leg region early copy ≡ true
passed-before leg region early late None low is = is
passed-before leg region early late (Some copy) low is =
    let own = both ((copy.leg == leg) && (copy.region == region)) (nat_lt late copy.cursor) is in
    let late_is : nat_lt late copy.cursor ≡ true = own.1 in
    let before : nat_lt early copy.cursor ≡ true = grind (arith, nat_tests) in
    ap (λ (b : Bool). b && nat_lt early copy.cursor) own.0 ∙ before

or-then : (a x y : Bool) → (x ≡ true → y ≡ true) → (a || x) ≡ true → (a || y) ≡ true
or-then true x y follows is = refl
or-then false x y follows is = follows is

module _ {L : Type 0} (type : LegType L) (s : StripeState L) (leg block count b : ℕ) (low : block ≤ b) (high : b < block + count) (short : block % s.place.region + count ≤ s.place.region) where
  abbrev size : ℕ
  size = s.place.region

  here : (b / size ≡ block / size) × (b % size ≡ block % size + (b - block))
  here =
      let same = same-region size block (b - block) (omega (arith, low, high, short)) in
      subst (λ (n : ℕ). (n / size ≡ block / size) × (n % size ≡ block % size + (b - block))) (let e : block + (b - block) ≡ b = omega (arith, low) in e) same

  there : ((block + (count - 1)) / size ≡ block / size) × ((block + (count - 1)) % size ≡ block % size + (count - 1))
  there = same-region size block (count - 1) (omega (arith, low, high, short))

  -- a leg that is current at the run's last block is so at each
  current-in : is_current leg (last_block block count) s ≡ true → is_current leg b s ≡ true
  current-in is =
      let at : ℕ → ℕ → Bool = λ region place. has_region leg region (table s) || has_copied leg region place s.copy in
      let last : at (block / size) (block % size + (count - 1)) ≡ true =
      sym (ap (λ (n : ℕ). at n ((block + (count - 1)) % size)) there.0 ∙ ap (λ (n : ℕ). at (block / size) n) there.1) ∙ is in
      let before : block % size + (b - block) ≤ block % size + (count - 1) = omega (arith, low, high) in
      ap (λ (n : ℕ). at n (b % size)) here.0 ∙ ap (λ (n : ℕ). at (block / size) n) here.1
      ∙ or-then (has_region leg (block / size) (table s)) (has_copied leg (block / size) (block % size + (count - 1)) s.copy) (has_copied leg (block / size) (block % size + (b - block)) s.copy)
      (passed-before leg (block / size) (block % size + (b - block)) (block % size + (count - 1)) s.copy before) last

  quiet-in : is_quiet (last_block block count) s ≡ true → is_quiet b s ≡ true
  quiet-in is = ap (λ (n : ℕ). regions.is_quiet n (table s)) (here.0 ∙ sym there.0) ∙ is

  -- so it serves each
  from-in : ReadFrom type s (last_block block count) leg → ReadFrom type s b leg
  from-in (FromCurrent quiet current) = FromCurrent (quiet-in quiet) (current-in current)
  from-in (FromMaster at) = FromMaster at

-- the leg that a read takes is current at the block
from-current : {L : Type 0} (type : LegType L) (s : StripeState L) (block leg : ℕ) → Keeps type s → ReadFrom type s block leg → is_current leg block s ≡ true
from-current type s block leg k (FromCurrent quiet current) = current
from-current type s block leg k (FromMaster at) = subst (λ (i : ℕ). is_current i block s ≡ true) (sym at) (master_current type.model s k.legs block)

or-first : (a b : Bool) → (a || b) ≡ false → (a ≡ false) × (b ≡ false)
or-first true b is = cc
or-first false b is = (refl, is)

not-out : (a b out asked : Bool) → a ≡ true → b ≡ true → (a && (b && (out || asked))) ≡ false → out ≡ false
not-out true true out asked a b is = (or-first out asked is).0
not-out true false out asked a b is = cc
not-out false b out asked a b_is is = cc

module _ {L : Type 0} (c : Calling L) (leg block count : ℕ) where
  abbrev test : Record → Bool
  test r = is_among block count r.block && (is_under_way r && (is_out_on leg r.run c.calls || is_asked_on leg r.run c.calls))

  -- no write that is under way on one of the blocks is out on the leg
  busy-free : (b : ℕ) → is_among block count b ≡ true → (r : Record) (rs : List Record) → list_any test rs ≡ false → busy_on b rs ≡ Some r → is_out_on leg r.run c.calls ≡ false
  busy-free b among r [] none busy = absurd (let e : ⊥ = cc in e)
  busy-free b among r (q ∷ qs) none busy =
      let parts = or-first (test q) (list_any test qs) none in
      (elim (q.block == b) as (λ e. (q.block == b) ≡ e → cond (e && is_under_way q) (Some q) (busy_on b qs) ≡ Some r → is_out_on leg r.run c.calls ≡ false) [
        | true ↦ λ on.
            let at : is_among block count q.block ≡ true = ap (λ (n : ℕ). is_among block count n) (eqb-true q.block b on) ∙ among in
            (elim (is_under_way q) as (λ u. is_under_way q ≡ u → cond u (Some q) (busy_on b qs) ≡ Some r → is_out_on leg r.run c.calls ≡ false) [
              | true ↦ λ going found. subst (λ (x : Record). is_out_on leg x.run c.calls ≡ false) (same_Some _ _ found) (not-out (is_among block count q.block) (is_under_way q) (is_out_on leg q.run c.calls) (is_asked_on leg q.run c.calls) at going parts.0)
              | false ↦ λ over found. busy-free b among r qs parts.1 found
            ]) refl
        | false ↦ λ off found. busy-free b among r qs parts.1 found
      ]) refl busy

true-is : (b : Bool) → IsTrue b → b ≡ true
true-is true is = refl
true-is false is = cc

module _ {L : Type 0} (type : LegType L) (old new : Calling L) (leg block count : ℕ) (k : Keeps type old.stripe) (has : HasCalls type old) (fits : FitsRun old.stripe.place block count) (asks : AsksRead old new leg block count) where
  abbrev s : StripeState L
  s = old.stripe

  abbrev x : ReadOut
  x = next_read leg block count old.calls

  from-each : (b : ℕ) → is_among block count b ≡ true → (block ≤ b) × (b < block + count) × ReadFrom type s b leg
  from-each b among =
      let parts = both (nat_le block b) (nat_lt b (block + count)) among in
      let low_is : nat_le block b ≡ true = parts.0 in
      let high_is : nat_lt b (block + count) ≡ true = parts.1 in
      let low : block ≤ b = grind (arith, nat_tests) in
      let high : b < block + count = grind (arith, nat_tests) in
      (low, high, from-in type s leg block count b low high fits.one_region (read_from type s (last_block block count) leg asks.leg_is))

  may : MayRead type x old
  may =
      let rows = none_holds (read_run_rows s count) asks.no_cause in
      let runs : s.stopped ≡ false = when_off s.stopped Stopped rows.0 in
      let calm : s.settling ≡ false = when_off s.settling Settling rows.1.0 in
      record {
        fits = fits;
        ticket = refl;
        current = λ b inside. from-current type s b leg k (from-each b (true-is (reads_block b x) inside)).2;
        apart = λ b r inside busy. busy-free old leg block count b (true-is (reads_block b x) inside) r s.records asks.free busy;
        holds = λ is_honest runs b inside.
            let each = from-each b (true-is (reads_block b x) inside) in
            from_holds type s b is_honest k runs calm (omega (arith, each.1, fits.inside)) leg each.2;
      }

  -- what holds of the calls holds still, and the stripe is as it was
  pub asks-has : HasCalls type new
  asks-has = subst (λ (c : Calling L). HasCalls type c) (sym asks.after) (reads-keep type x old has may)

  pub asks-stripe : new.stripe ≡ old.stripe
  asks-stripe = ap (λ (c : Calling L). c.stripe) asks.after
