-- A push, from what its calls say to what it keeps, does and answers.
use Rattle.std.proofs.Common.{◌≡◌, ℕ, ◌+◌, ◌<◌, ◌==◌, Bool, true, false, cond, List, [], ◌∷◌, length, find, Option, Some, None, is_none, is_some, IsSome, refl, sym, ap, ◌∙◌, subst, arith}
use Rattle.nm_fanout.specs.declared.write_record.Record.{Record}
use Rattle.nm_fanout.specs.Record.{is_under_way, with_entry, without_leg}
use Rattle.nm_fanout.specs.Records.{changed, find_record, landed, reached}
use Rattle.nm_leg.specs.Leg.{LegType}
use Rattle.nm_rules.specs.declared.refusal.Refusal.TheVariants.{NoTicket}
use Rattle.nm_rules.specs.Invariant.{Keeps}
use Rattle.nm_rules.specs.Lost.{lost}
use Rattle.nm_rules.specs.RunPush.{CallsToPushRun, HaltsInPushRun, LosesInPushRun, PushesRun, after_push_run, land_each, push_run_cause, push_run_rows, reach_each, run_landed, run_lands, run_reached}
use Rattle.nm_rules.specs.Runs.{AreOwed, find_run, of_run}
use Rattle.nm_rules.specs.State.{StripeState, is_last, next_number}
use Rattle.nm_rules.proofs.CauseLemmas.{is_there, none_holds, when_off}
use Rattle.nm_rules.proofs.ClaimLemmas.{finished_landed}
use Rattle.nm_rules.proofs.LegLemmas.{calls-length}
use Rattle.nm_rules.proofs.RunPushLemmas.{may_push_run, pushes_run-keeps}
use Rattle.nm_stripe.proofs.LostLemmas.{lost-after, lost-legs_after}

-- a leg that was there is there after its call
pub still-inside : {L : Type 0} (type : LegType L) (succeeded : Bool) (old : StripeState L) (legs : List L) (ticket leg : ℕ) → CallsToPushRun type succeeded old legs ticket leg → leg < length old.legs → leg < length legs
still-inside type succeeded old legs ticket leg c inside =
    let w = c.writes in
    omega (arith, inside, calls-length type.model old.legs legs leg w.before w.after w.change)

-- a record that is found by what no push changes is found after a change too
some-first : {A : Type 0} (b c : Bool) (x y : A) (o p : Option A) → b ≡ c → is_some o ≡ is_some p → is_some (cond b (Some x) o) ≡ is_some (cond c (Some y) p)
some-first true true x y o p same rest = refl
some-first true false x y o p same rest = absurd (let e : ⊥ = cc in e)
some-first false true x y o p same rest = absurd (let e : ⊥ = cc in e)
some-first false false x y o p same rest = rest

module _ (test : Record → Bool) (same_left : (leg : ℕ) (r : Record) → test (without_leg leg r) ≡ test r) (same_named : (number : ℕ) (r : Record) → test (with_entry number r) ≡ test r) where
  some-changed : (f : Record → Record) → ((r : Record) → test (f r) ≡ test r) → (t : ℕ) (rs : List Record) → is_some (find test (changed f t rs)) ≡ is_some (find test rs)
  some-changed f same t [] = refl
  some-changed f same t (r ∷ rs) =
      let own : test (cond (r.ticket == t) (f r) r) ≡ test r = elim (r.ticket == t) as (λ b. test (cond b (f r) r) ≡ test r) [ true ↦ same r | false ↦ refl ] in
      some-first (test (cond (r.ticket == t) (f r) r)) (test r) (cond (r.ticket == t) (f r) r) r (find test (changed f t rs)) (find test rs) own (some-changed f same t rs)

  some-reached : (leg : ℕ) (rs records : List Record) → is_some (find test (reach_each leg rs records)) ≡ is_some (find test records)
  some-reached leg [] records = refl
  some-reached leg (r ∷ rs) records = some-reached leg rs (reached r.ticket leg records) ∙ some-changed (without_leg leg) (same_left leg) r.ticket records

  some-landed : (leg next : ℕ) (rs records : List Record) → is_some (find test (land_each leg next rs records)) ≡ is_some (find test records)
  some-landed leg next [] records = refl
  some-landed leg next (r ∷ rs) records =
      some-landed leg (next + 1) rs (landed r.ticket next (reached r.ticket leg records))
      ∙ some-changed (with_entry next) (same_named next) r.ticket (reached r.ticket leg records)
      ∙ some-changed (without_leg leg) (same_left leg) r.ticket records

  some-pushed : {L : Type 0} (old : StripeState L) (legs : List L) (rs : List Record) (leg : ℕ) → is_some (find test (after_push_run old legs rs leg).records) ≡ is_some (find test old.records)
  some-pushed old legs rs leg =
      elim (run_lands leg rs old) as (λ b. is_some (find test (cond b (run_landed old legs rs leg) (run_reached old legs rs leg)).records) ≡ is_some (find test old.records)) [
        | true ↦ some-landed leg (next_number old) rs old.records
        | false ↦ some-reached leg rs old.records
      ]

-- the run reaches the leg of a stripe of which no more than the legs changed
same-after : {L : Type 0} (old : StripeState L) (legs : List L) (rs : List Record) (leg : ℕ) → after_push_run (record old { legs = legs }) legs rs leg ≡ after_push_run old legs rs leg
same-after old legs [] leg = refl
same-after old legs (r ∷ rs) leg = refl

pub reached-after : {L : Type 0} (old mid new : StripeState L) (ticket leg : ℕ) → mid ≡ record old { legs = mid.legs } → new ≡ after_push_run mid mid.legs (of_run ticket mid.records) leg → new ≡ after_push_run old mid.legs (of_run ticket old.records) leg
reached-after {L} old mid new ticket leg others after =
    after ∙ ap (λ (m : StripeState L). after_push_run m mid.legs (of_run ticket m.records) leg) others ∙ same-after old mid.legs (of_run ticket old.records) leg

-- a push leaves the legs that its call left
pushed-legs : {L : Type 0} (old : StripeState L) (legs : List L) (rs : List Record) (leg : ℕ) → (after_push_run old legs rs leg).legs ≡ legs
pushed-legs old legs rs leg = elim (run_lands leg rs old) as (λ b. (cond b (run_landed old legs rs leg) (run_reached old legs rs leg)).legs ≡ legs) [ true ↦ refl | false ↦ refl ]

-- a push whose leg wrote the blocks
pub pushes : {L : Type 0} (type : LegType L) (old new : StripeState L) (legs : List L) (ticket leg : ℕ) → CallsToPushRun type true old legs ticket leg → new ≡ after_push_run old legs (of_run ticket old.records) leg → PushesRun type old new ticket leg
pushes {L} type old new legs ticket leg c after =
    let rs = of_run ticket old.records in
    let same : new.legs ≡ legs = ap (λ (s : StripeState L). s.legs) after ∙ pushed-legs old legs rs leg in
    record {
      called = subst (λ (ls : List L). CallsToPushRun type true old ls ticket leg) (sym same) c;
      after = after ∙ ap (λ (ls : List L). after_push_run old ls rs leg) (sym same);
    }

-- the run is still there once it has reached the leg, and so is the record of its first block
pub after-run : {L : Type 0} (old : StripeState L) (legs : List L) (ticket leg : ℕ) → push_run_cause old ticket leg ≡ None → IsSome (find_run ticket (after_push_run old legs (of_run ticket old.records) leg).records)
after-run old legs ticket leg none =
    let rows = none_holds (push_run_rows old ticket leg) none in
    let at = is_there (find_run ticket old.records) (when_off (is_none (find_run ticket old.records)) NoTicket rows.1.0) in
    some-pushed (λ (r : Record). r.run == ticket) (λ l r. refl) (λ n r. refl) old legs (of_run ticket old.records) leg ∙ ap (λ (o : Option Record). is_some o) at.1

pub after-record : {L : Type 0} (old : StripeState L) (legs : List L) (ticket leg : ℕ) → IsSome (find_record ticket old.records) → IsSome (find_record ticket (after_push_run old legs (of_run ticket old.records) leg).records)
after-record old legs ticket leg was = some-pushed (λ (r : Record). r.ticket == ticket) (λ l r. refl) (λ n r. refl) old legs (of_run ticket old.records) leg ∙ was

-- a run that a leg is called for has the record of its first block
pub called-record : {L : Type 0} (type : LegType L) (succeeded : Bool) (old : StripeState L) (legs : List L) (ticket leg : ℕ) → CallsToPushRun type succeeded old legs ticket leg → IsSome (find_record ticket old.records)
called-record type succeeded old legs ticket leg c =
    let may = may_push_run old ticket leg c.no_cause in
    let are : AreOwed ticket c.block leg (may.first ∷ may.more) old.records = subst (λ (rs : List Record). AreOwed ticket c.block leg rs old.records) may.all c.are in
    ap (λ (o : Option Record). is_some o) (subst (λ (t : ℕ). find_record t old.records ≡ Some may.first) are.0 are.2)

-- once a push has finished the run it has its entry
pub went-landed : {L : Type 0} (type : LegType L) (old new : StripeState L) (ticket leg : ℕ) → Keeps type old → PushesRun type old new ticket leg → (r : Record) → find_record ticket new.records ≡ Some r → is_under_way r ≡ false → IsSome r.entry
went-landed type old new ticket leg k p r found over = ap (λ (e : Option ℕ). is_some e) (finished_landed type new ticket r found over (pushes_run-keeps type old new ticket leg k p).records).1

-- a push whose leg failed, and has gone out
pub loses : {L : Type 0} (type : LegType L) (old new : StripeState L) (legs : List L) (ticket leg : ℕ) → CallsToPushRun type false old legs ticket leg → is_last leg old ≡ false → new ≡ lost leg (record old { legs = legs }) → LosesInPushRun type old new ticket leg
loses {L} type old new legs ticket leg c not_last after = record {
  called = subst (λ (ls : List L). CallsToPushRun type false old ls ticket leg) (sym (lost-legs_after leg old new legs after)) c;
  not_last = not_last;
  after = lost-after leg old new legs after;
}

-- a push whose leg failed, the only one in sync
pub halts : {L : Type 0} (type : LegType L) (old new : StripeState L) (legs : List L) (ticket leg : ℕ) → CallsToPushRun type false old legs ticket leg → is_last leg old ≡ true → new ≡ record old { legs = legs; stopped = true } → HaltsInPushRun type old new ticket leg
halts {L} type old new legs ticket leg c last after =
    let same : new.legs ≡ legs = ap (λ (s : StripeState L). s.legs) after in
    record {
      called = subst (λ (ls : List L). CallsToPushRun type false old ls ticket leg) (sym same) c;
      last = last;
      after = after ∙ ap (λ (ls : List L). let s : StripeState L = record old { legs = ls; stopped = true } in s) (sym same);
    }

-- where a run stands that has been pushed
pub some-there : {A : Type 0} (o : Option A) → IsSome o → (x : A) × (o ≡ Some x)
some-there None is = cc
some-there (Some x) is = (x, refl)
