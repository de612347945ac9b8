-- A read that was out and counts is answered: its leg failed, and goes out. Each read that counts
-- afterwards is of another leg, and the master is who it was.
use Rattle.std.proofs.Common.{◌≡◌, ◌≢◌, ℕ, ◌/◌, ◌==◌, ◌&&◌, ◌||◌, Bool, true, false, not, IsTrue, List, [], ◌∷◌, None, Option, Some, cond, map, refl, sym, ap, ◌∙◌, subst, arith, slice_get, inl, inr, ne_eqb, eq-eqb, sum_by}
use Rattle.std.specs.List.{list_any}
use Rattle.std.proofs.lemmas.Bool.Decides.{eqb_tells}
use Rattle.std.proofs.lemmas.List.{get_or-set_other}
use Rattle.std.proofs.lemmas.List.Sums.{sum_by-cons}
use Rattle.std.proofs.lemmas.Option.{same_Some}
use Rattle.nm_replay.specs.declared.block.Block.{Block}
use Rattle.nm_leg.specs.Leg.{LegType, block_of}
use Rattle.nm_regions.specs.declared.copy_place.CopyPlace.{CopyPlace}
use Rattle.nm_regions.specs.Changes.{copy_but_of}
use Rattle.nm_regions.specs.LegFlags.{LegRegions, is_behind, no_leg}
use Rattle.nm_regions.specs.Table.{has_copied, leg_at, place_of}
use Rattle.nm_rules.specs.Acts.{IsExplainedStep}
use Rattle.nm_rules.specs.Array.{contents_of, stripe_array}
use Rattle.nm_rules.specs.Invariant.{Keeps}
use Rattle.nm_rules.specs.Lost.{dirty_and_out, failed_over, lost, settled, without_leg_of}
use Rattle.nm_rules.specs.declared.at.At.{At}
use Rattle.nm_rules.specs.Runs.{FitsRun}
use Rattle.nm_rules.specs.State.{StripeState, is_current, is_last, is_out, leg_state, table}
use Rattle.nm_rules.proofs.LosesLemmas.{read-loses}
use Rattle.nm_rules.proofs.LostLemmas.{Loses, lost-acts, lost-keeps, lost-unseen}
use Rattle.nm_rules.proofs.OutLemmas.{LosesLeg}
use Rattle.nm_rules.proofs.RelabelLemmas.{current-attached}
use Rattle.nm_rules.proofs.RunCallLemmas.{failed-read}
use Rattle.nm_calls.specs.Answers.{LosesOut, calls_without, read_answered, voided_without}
use Rattle.nm_calls.specs.CallsOut.{Calling, CallsOut, ReadOut, WriteOut, find_read, is_asked_on, is_call_of, is_out_on, voided, without_read}
use Rattle.nm_calls.specs.HasCalls.{HasCalls, HasChunkCall, IsStanding}
use Rattle.nm_calls.proofs.ReadEndLemmas.{among}
use Rattle.nm_calls.proofs.TakenLemmas.{find-taken, taken-counted}

-- a copy of another leg goes on
copied-other : (leg j region place : ℕ) (copy : Option CopyPlace) → j ≢ leg → has_copied j region place (copy_but_of leg copy) ≡ has_copied j region place copy
copied-other leg j region place None ne = refl
copied-other leg j region place (Some c) ne =
    elim (eqb_tells c.leg leg) [
      | inl w ↦
          let other : (c.leg == j) ≡ false = ne_eqb c.leg j (λ e. ne (sym e ∙ w.1)) in
          rw (w.0, other) refl
      | inr w ↦ rw w.0 refl
    ]

module _ {L : Type 0} (s : StripeState L) (leg : ℕ) where
  abbrev out : StripeState L
  out = without_leg_of leg s

  -- where another leg is current stays
  current-other : (j b : ℕ) → j ≢ leg → is_current j b out ≡ is_current j b s
  current-other j b ne =
      let flag : leg_at j (table out) ≡ leg_at j (table s) = get_or-set_other s.flags leg j (dirty_and_out (table s).writes (leg_at leg (table s))) no_leg ne in
      ap (λ (l : LegRegions). (not l.out && not (is_behind (b / s.place.region) l)) || has_copied j (b / s.place.region) (place_of b (table s)) (copy_but_of leg s.copy)) flag
      ∙ ap (λ (v : Bool). (not (leg_at j (table s)).out && not (is_behind (b / s.place.region) (leg_at j (table s)))) || v) (copied-other leg j (b / s.place.region) (place_of b (table s)) s.copy ne)

  lost-current : (j b : ℕ) → j ≢ leg → is_current j b (lost leg s) ≡ is_current j b s
  lost-current j b ne =
      elim (leg == s.master) as (λ m. is_current j b (settled (cond m (failed_over out) out)) ≡ is_current j b s) [
        | true ↦ current-other j b ne
        | false ↦ current-other j b ne
      ]

  pub lost-legs : (lost leg s).legs ≡ s.legs
  lost-legs = elim (leg == s.master) as (λ m. (settled (cond m (failed_over out) out)).legs ≡ s.legs) [ true ↦ refl | false ↦ refl ]

  lost-place : (lost leg s).place ≡ s.place
  lost-place = elim (leg == s.master) as (λ m. (settled (cond m (failed_over out) out)).place ≡ s.place) [ true ↦ refl | false ↦ refl ]

-- what is found among reads that were looked at was there before, and the same if it counts
record Looked (leg master : ℕ) (y : ReadOut) (t : ℕ) (reads : List ReadOut) : Type 0 where
  was : ReadOut
  found : find_read t reads ≡ Some was
  is : y ≡ voided_without leg master was

looked : (leg master : ℕ) (y : ReadOut) (t : ℕ) (reads : List ReadOut) → find_read t (map (voided_without leg master) reads) ≡ Some y → Looked leg master y t reads
looked leg master y t [] at = absurd (let e : ⊥ = cc in e)
looked leg master y t (z ∷ zs) at =
    let own : (voided_without leg master z).ticket ≡ z.ticket =
    elim ((leg == master) || (z.leg == leg)) as (λ b. (cond b (voided z) z).ticket ≡ z.ticket) [ true ↦ refl | false ↦ refl ] in
    (elim (z.ticket == t) as (λ b. (z.ticket == t) ≡ b → cond b (Some (voided_without leg master z)) (find_read t (map (voided_without leg master) zs)) ≡ Some y → Looked leg master y t (z ∷ zs)) [
      | true ↦ λ same some. record { was = z; found = ap (λ (b : Bool). cond b (Some z) (find_read t zs)) same; is = sym (same_Some _ _ some) }
      | false ↦ λ other some.
          let behind = looked leg master y t zs some in
          record { was = behind.was; found = ap (λ (b : Bool). cond b (Some z) (find_read t zs)) other ∙ behind.found; is = behind.is }
    ]) refl (ap (λ (n : ℕ). cond (n == t) (Some (voided_without leg master z)) (find_read t (map (voided_without leg master) zs))) (sym own) ∙ at)

-- one that counts is of another leg, and the leg was not the master
record Stays (leg master : ℕ) (y was : ReadOut) : Type 0 where
  same : y ≡ was
  other : y.leg ≢ leg
  not_master : master ≢ leg

or-off : (a b : Bool) → (a || b) ≡ false → (a ≡ false) × (b ≡ false)
or-off true b is = cc
or-off false b is = (refl, is)

not-same : (m n : ℕ) → (m == n) ≡ false → m ≢ n
not-same m n ne e = let yes : (m == n) ≡ true = eq-eqb m n e in let clash : true ≡ false = sym yes ∙ ne in cc

stays : (leg master : ℕ) (y was : ReadOut) → y ≡ voided_without leg master was → y.void ≡ false → Stays leg master y was
stays leg master y was is counts =
    (elim ((leg == master) || (was.leg == leg)) as (λ b. ((leg == master) || (was.leg == leg)) ≡ b → y ≡ cond b (voided was) was → Stays leg master y was) [
      | true ↦ λ on e. absurd (let v : y.void ≡ true = ap (λ (z : ReadOut). z.void) e in let clash : true ≡ false = sym v ∙ counts in cc)
      | false ↦ λ off e.
          let parts = or-off (leg == master) (was.leg == leg) off in
          record {
            same = e;
            other = λ own. not-same was.leg leg parts.1 (sym (ap (λ (z : ReadOut). z.leg) e) ∙ own);
            not_master = λ own. not-same leg master parts.0 (sym own);
          }
    ]) refl is

-- what a read has that is not changed by that
module _ (leg master : ℕ) where
  looked-fits : (fits : ℕ → ℕ → Type 0) (was : ReadOut) → fits was.block was.count → fits (voided_without leg master was).block (voided_without leg master was).count
  looked-fits fits was is = elim ((leg == master) || (was.leg == leg)) as (λ b. fits (cond b (voided was) was).block (cond b (voided was) was).count) [ true ↦ is | false ↦ is ]

  looked-sums : (of : ReadOut → ℕ) → ((z : ReadOut) → of (voided z) ≡ of z) → (reads : List ReadOut) → sum_by of (map (voided_without leg master) reads) ≡ sum_by of reads
  looked-sums of same [] = refl
  looked-sums of same (z ∷ zs) =
      let own : of (voided_without leg master z) ≡ of z = elim ((leg == master) || (z.leg == leg)) as (λ b. of (cond b (voided z) z) ≡ of z) [ true ↦ same z | false ↦ refl ] in
      omega (arith, sum_by-cons of z zs, sum_by-cons of (voided_without leg master z) (map (voided_without leg master) zs), own, looked-sums of same zs)

-- a leg goes out as the read of this ticket is answered: what is known of its legs then
pub record GoesWith {L : Type 0} (type : LegType L) (x : ReadOut) (old new : Calling L) : Type 0 where
  pub out : find_read x.ticket old.calls.reads ≡ Some x
  pub counts : x.void ≡ false
  pub runs : old.stripe.stopped ≡ false
  pub not_last : is_last x.leg old.stripe ≡ false
  pub leg : LosesLeg type old.stripe new.stripe.legs x.leg
  pub stripe : new.stripe ≡ lost x.leg (record old.stripe { legs = new.stripe.legs })
  pub calls : new.calls ≡ calls_without x.leg old.stripe.master (read_answered x old.calls)

-- its call failed
pub goes-with : {L : Type 0} (type : LegType L) (x : ReadOut) (old new : Calling L) (found : List Block) → LosesOut type x old new found → GoesWith type x old new
goes-with type x old new found f = record {
  out = f.out;
  counts = f.counts;
  runs = f.runs;
  not_last = f.not_last;
  leg = read-loses type false old.stripe new.stripe.legs x.leg x.block (block_of []) (failed-read type x.leg x.block x.block (block_of []) found old.stripe.legs new.stripe.legs f.reads);
  stripe = f.stripe;
  calls = f.calls;
}

module _ {L : Type 0} (type : LegType L) (x : ReadOut) (old new : Calling L) (k : Keeps type old.stripe) (has : HasCalls type old) (f : GoesWith type x old new) where
  abbrev s : StripeState L
  s = old.stripe

  abbrev legs : List L
  legs = new.stripe.legs

  abbrev mid : StripeState L
  mid = record s { legs = legs }

  -- its leg was not out
  attached : is_out (leg_state x.leg s) ≡ false
  attached =
      let fits = has.runs x.ticket x f.out in
      let on = has.current x.ticket x.block x (record { out = f.out; counts = f.counts; inside = among x x.block (omega arith) (omega (arith, fits.some)) }) in
      current-attached type s x.leg x.block k.legs k.chunk on

  loses : Loses type s legs x.leg
  loses = record {
    keeps = k;
    runs = f.runs;
    attached = attached;
    not_last = f.not_last;
    loses = f.leg;
  }

  -- what every stripe keeps it keeps
  pub loses_out-keeps : Keeps type new.stripe
  loses_out-keeps = subst (λ (n : StripeState L). Keeps type n) (sym f.stripe) (lost-keeps type s legs x.leg loses)

  pub loses_out-explained : IsTrue type.honest → IsExplainedStep type.model [] s new.stripe
  loses_out-explained is_honest = subst (λ (n : StripeState L). IsExplainedStep type.model [] s n) (sym f.stripe) (lost-acts type s legs x.leg loses is_honest)

  abbrev after : CallsOut
  after = calls_without x.leg s.master (read_answered x old.calls)

  -- a read that counts afterwards counted before, of another leg, and the master has not gone out
  still : (t i : ℕ) (y : ReadOut) → IsStanding t y i after → IsStanding t y i old.calls × (y.leg ≢ x.leg) × (s.master ≢ x.leg)
  still t i y stands =
      let at = looked x.leg s.master y t (without_read x.ticket old.calls.reads) stands.out in
      let is = stays x.leg s.master y at.was at.is stands.counts in (
        record {
          out = find-taken x.ticket t at.was old.calls.reads at.found ∙ ap (λ (z : ReadOut). Some z) (sym is.same);
          counts = stands.counts;
          inside = stands.inside;
        },
        is.other,
        is.not_master,
      )

  was-found : (t : ℕ) (y : ReadOut) → find_read t after.reads ≡ Some y → (was : ReadOut) × (find_read t old.calls.reads ≡ Some was) × (y ≡ voided_without x.leg s.master was)
  was-found t y out =
      let at = looked x.leg s.master y t (without_read x.ticket old.calls.reads) out in
      (at.was, find-taken x.ticket t at.was old.calls.reads at.found, at.is)

  module _ (no_writes : old.calls.writes ≡ []) (no_copy : old.calls.copy ≡ None) where
    none-out : (leg run : ℕ) → is_out_on leg run after ≡ false
    none-out leg run = ap (λ (ws : List WriteOut). list_any (λ w. is_call_of run leg w && not w.waits) ws) no_writes

    none-asked : (leg run : ℕ) → is_asked_on leg run after ≡ false
    none-asked leg run = ap (λ (ws : List WriteOut). list_any (λ w. is_call_of run leg w && w.waits) ws) no_writes

    has-after : HasCalls type (record { stripe = lost x.leg mid; calls = after })
    has-after = record {
      owed = λ t leg r at is. absurd (let clash : false ≡ true = sym (none-out leg r.run) ∙ is in cc);
      asked = λ t leg r at is. absurd (let clash : false ≡ true = sym (none-asked leg r.run) ∙ is in cc);
      runs = λ t y at.
          let w = was-found t y at in
          subst (λ (z : ReadOut). FitsRun (lost x.leg mid).place z.block z.count) (sym w.2)
          (looked-fits x.leg s.master (λ block count. FitsRun (lost x.leg mid).place block count) w.0
          (subst (λ (p : At). FitsRun p w.0.block w.0.count) (sym (lost-place mid x.leg)) (has.runs t w.0 w.1)));
      tickets = λ t y at.
          let w = was-found t y at in
          has.tickets t w.0 w.1;
      current = λ t i y stands.
          let is = still t i y stands in
          lost-current mid x.leg y.leg i is.1 ∙ has.current t i y is.0;
      apart = λ t i y r stands busy. none-out y.leg r.run;
      reads_hold = λ is_honest runs t i y stands.
          let is = still t i y stands in
          let array : stripe_array type.model (lost x.leg mid) ≡ stripe_array type.model s = (lost-unseen type s legs x.leg loses is_honest is.2).explained.legal in
          let same : contents_of type.model legs y.leg ≡ contents_of type.model s.legs y.leg = f.leg.others y.leg is.1 in
          ap (λ (ls : List L). slice_get (contents_of type.model ls y.leg) i) (lost-legs mid x.leg)
          ∙ ap (λ (bs : List Block). slice_get bs i) same
          ∙ has.reads_hold is_honest f.runs t i y is.0
          ∙ sym (ap (λ (bs : List Block). slice_get bs i) array);
      chunk = subst (λ (o : Option ℕ). HasChunkCall o (lost x.leg mid).chunk) (sym no_copy) tt;
      counted = λ leg l at.
          let of : ReadOut → ℕ = λ z. cond (z.leg == leg) 1 0 in
          let same = looked-sums x.leg s.master of (λ z. refl) (without_read x.ticket old.calls.reads) in
          let was = taken-counted x old.calls leg l f.out (λ i w here. has.counted i w here) at in
          omega (arith, was, same);
    }

    -- and what holds of the calls that are out
    pub loses_out-has : HasCalls type new
    loses_out-has =
        let one : HasCalls type (record { stripe = new.stripe; calls = after }) = subst (λ (n : StripeState L). HasCalls type (record { stripe = n; calls = after })) (sym f.stripe) has-after in
        subst (λ (c : CallsOut). HasCalls type (record { stripe = new.stripe; calls = c })) (sym f.calls) one
