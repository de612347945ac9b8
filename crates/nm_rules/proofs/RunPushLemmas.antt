-- A push of a run: what it leaves in one piece, what it keeps, and how it is explained, where its leg
-- wrote all blocks and where it failed.
use Rattle.std.proofs.Common.{◌≡◌, ⊎_elim, ℕ, ◌+◌, ◌/◌, ◌<◌, ◌≤◌, ◌==◌, ◌&&◌, ◌||◌, Bool, true, false, not, IsTrue, List, [], ◌∷◌, length, map, Option, None, Some, is_none, is_some, refl, sym, ap, ◌∙◌, subst, arith, cond}
use Rattle.std.proofs.lemmas.Bool.{cases_lt}
use Rattle.std.proofs.lemmas.Option.{same_Some}
use Rattle.nm_fanout.proofs.Owed.{owes-under_way}
use Rattle.nm_fanout.specs.declared.write_record.Record.{Record}
use Rattle.nm_fanout.specs.Record.{is_under_way, owes}
use Rattle.nm_fanout.specs.Records.{find_record}
use Rattle.nm_leg.specs.Leg.{Leg, LegType}
use Rattle.nm_regions.specs.LegFlags.{is_behind}
use Rattle.nm_regions.specs.Table.{leg_at}
use Rattle.nm_rules.specs.declared.refusal.Refusal.TheVariants.{Stopped, NoTicket}
use Rattle.nm_rules.specs.Acts.{IsExplainedStep}
use Rattle.nm_rules.specs.Invariant.{Keeps}
use Rattle.nm_rules.specs.Lost.{dirty_and_out}
use Rattle.nm_rules.specs.RunCalls.{WritesRunAt}
use Rattle.nm_rules.specs.RunPush.{HaltsInPushRun, LosesInPushRun, PushesRun, after_push_run, push_run_cause, push_run_rows, run_landed, run_reached, written_by}
use Rattle.nm_rules.specs.Runs.{AreOwed, find_run, of_run}
use Rattle.nm_rules.specs.State.{StripeState, is_out, leg_state, table}
use Rattle.nm_rules.proofs.CauseLemmas.{is_there, none_holds, when_off}
use Rattle.nm_rules.proofs.DirtyLemmas.{dirty-marks}
use Rattle.nm_rules.proofs.HaltLemmas.{stop-keeps}
use Rattle.nm_rules.proofs.HeldLemmas.{explained-seen, keeps-seen, seen, seen-keeps}
use Rattle.nm_rules.proofs.LegLemmas.{calls-length, calls-lengths}
use Rattle.nm_rules.proofs.LosesLemmas.{current_attached, run-loses}
use Rattle.nm_rules.proofs.LostLemmas.{Loses, lost-acts, lost-keeps}
use Rattle.nm_rules.proofs.RecordLemmas.{same}
use Rattle.nm_rules.proofs.RunFormLemmas.{AllLand, run-lands, run-stays}
use Rattle.nm_rules.proofs.RunLegLemmas.{writes-seen}
use Rattle.nm_rules.proofs.RunPushSteps.{RunReached, after_each, length-written_by, run-reached, seen-after_each}
use Rattle.nm_rules.proofs.StateLemmas.{attached_inside}

-- the record that is found first is the first of its run
found-of : (ticket : ℕ) (rs : List Record) (r : Record) → find_run ticket rs ≡ Some r → (more : List Record) × (of_run ticket rs ≡ r ∷ more)
found-of ticket [] r found = cc
found-of ticket (q ∷ rs) r found =
    (elim (q.run == ticket) as (λ b. cond b (Some q) (find_run ticket rs) ≡ Some r → (more : List Record) × (cond b (q ∷ of_run ticket rs) (of_run ticket rs) ≡ r ∷ more)) [
      | true ↦ λ is. (of_run ticket rs, ap (λ (x : Record). x ∷ of_run ticket rs) (same_Some q r is))
      | false ↦ λ is. found-of ticket rs r is
    ]) found

-- the run of this ticket may be pushed
pub record MayPushRun {L : Type 0} (stripe : StripeState L) (ticket : ℕ) : Type 0 where
  pub runs : stripe.stopped ≡ false
  pub first : Record
  pub more : List Record
  pub all : of_run ticket stripe.records ≡ first ∷ more

pub may_push_run : {L : Type 0} (stripe : StripeState L) (ticket leg : ℕ) → push_run_cause stripe ticket leg ≡ None → MayPushRun stripe ticket
may_push_run stripe ticket leg none =
    let rows = none_holds (push_run_rows stripe ticket leg) none in
    let at = is_there (find_run ticket stripe.records) (when_off (is_none (find_run ticket stripe.records)) NoTicket rows.1.0) in
    let found = found-of ticket stripe.records at.0 at.1 in
    record { runs = when_off stripe.stopped Stopped rows.0; first = at.0; more = found.0; all = found.1 }

some-none : (e : Option ℕ) → is_none e ≡ not (is_some e)
some-none None = refl
some-none (Some n) = refl

or_false : (s : Bool) → (s || false) ≡ s
or_false true = refl
or_false false = refl

module _ {L : Type 0} (type : LegType L) (old : StripeState L) (leg : ℕ) (k : Keeps type old) where
  -- of a run that owes the leg, all blocks land or none does
  all-land : (rs : List Record) (ticket block : ℕ) → AreOwed ticket block leg rs old.records → AllLand ((leg == old.master) && not old.settling) leg old.master rs
  all-land [] ticket block are = tt
  all-land (r ∷ rs) ticket block are = (
    (elim (leg == old.master) as (λ b. (leg == old.master) ≡ b → (b && is_none r.entry) ≡ (b && not old.settling)) [
      | true ↦ λ is.
          let owed : owes old.master r ≡ true = subst (λ (i : ℕ). owes i r ≡ true) (same leg old.master is) are.3 in
          some-none r.entry ∙ ap (λ (b : Bool). not b) (k.records.landed r.ticket r are.2 ∙ ap (λ (b : Bool). old.settling || not b) owed ∙ or_false old.settling)
      | false ↦ λ is. refl
    ]) refl,
    all-land rs (ticket + 1) (block + 1) are.4,
  )

  -- so a push of a run is a push of each of its blocks
  pub pushed-each : (legs : List L) (r : Record) (rs : List Record) (ticket block : ℕ) → AreOwed ticket block leg (r ∷ rs) old.records → after_push_run old legs (r ∷ rs) leg ≡ after_each old legs (r ∷ rs) leg
  pushed-each legs r rs ticket block are =
      (elim ((leg == old.master) && not old.settling) as (λ b. AllLand b leg old.master (r ∷ rs) → after_push_run old legs (r ∷ rs) leg ≡ after_each old legs (r ∷ rs) leg) [
        | true ↦ λ all. ap (λ (b : Bool). cond b (run_landed old legs (r ∷ rs) leg) (run_reached old legs (r ∷ rs) leg)) all.0 ∙ sym (run-lands legs leg rs r old all)
        | false ↦ λ all. ap (λ (b : Bool). cond b (run_landed old legs (r ∷ rs) leg) (run_reached old legs (r ∷ rs) leg)) all.0 ∙ sym (run-stays legs leg rs r old all)
      ]) (all-land (r ∷ rs) ticket block are)

module _ {L : Type 0} (type : LegType L) (old new : StripeState L) (ticket leg : ℕ) (k : Keeps type old) where
  abbrev all : List Record
  all = of_run ticket old.records

  -- a push of a run that reached its leg
  module _ (p : PushesRun type old new ticket leg) where
    reaches : RunReached type.honest (seen type.model old) (seen type.model new)
    reaches =
        let may = may_push_run old ticket leg p.called.no_cause in
        let rs : List Record = may.first ∷ may.more in
        let are : AreOwed ticket p.called.block leg rs old.records = subst (λ (qs : List Record). AreOwed ticket p.called.block leg qs old.records) may.all p.called.are in
        let writes : WritesRunAt type true leg p.called.block (written_by rs) old.legs new.legs = subst (λ (qs : List Record). WritesRunAt type true leg p.called.block (written_by qs) old.legs new.legs) may.all p.called.writes in
        let after : new ≡ after_each old new.legs rs leg = p.after ∙ ap (λ (qs : List Record). after_push_run old new.legs qs leg) may.all ∙ pushed-each type old leg k new.legs may.first may.more ticket p.called.block are in
        let reached = run-reached type.honest leg (map type.model new.legs) may.first may.more (seen type.model old) ticket p.called.block
        (seen-keeps type old k) may.runs are
        (writes-seen type true leg p.called.block (written_by rs) old.legs new.legs writes) in
        let is : seen type.model new ≡ after_each (seen type.model old) (map type.model new.legs) rs leg =
        ap (λ (s : StripeState L). seen type.model s) after ∙ seen-after_each type.model leg new.legs rs old in
        subst (λ (s : StripeState Leg). RunReached type.honest (seen type.model old) s) (sym is) reached

    pub pushes_run-keeps : Keeps type new
    pushes_run-keeps = keeps-seen type new reaches.keeps

    pub pushes_run-explained : IsTrue type.honest → IsExplainedStep type.model [] old new
    pushes_run-explained is_honest = explained-seen type.model [] old new (reaches.explained is_honest)

  -- a push of a run whose leg failed: each of its blocks is behind on the leg that has gone out
  run-behind : (rs : List Record) (ticket block : ℕ) → ((t : ℕ) (r : Record) → find_record t old.records ≡ Some r → is_under_way r ≡ true → is_behind (r.block / old.place.region) (dirty_and_out (table old).writes (leg_at leg (table old))) ≡ true)
      → AreOwed ticket block leg rs old.records → (b : ℕ) → block ≤ b → b < block + length rs → is_behind (b / old.place.region) (dirty_and_out (table old).writes (leg_at leg (table old))) ≡ true
  run-behind [] ticket block dirty are b low high = absurd (let e : ⊥ = omega (arith, low, high) in e)
  run-behind (r ∷ rs) ticket block dirty are b low high =
      ⊎_elim
      (λ later. run-behind rs (ticket + 1) (block + 1) dirty are.4 b (omega (arith, later)) (omega (arith, high)))
      (λ here.
      let is : r.block ≡ b = omega (arith, are.1, low, here) in
      subst (λ (n : ℕ). is_behind (n / old.place.region) (dirty_and_out (table old).writes (leg_at leg (table old))) ≡ true) is (dirty r.ticket r are.2 (owes-under_way leg r are.3)))
      (cases_lt block b)

  module _ (p : LosesInPushRun type old new ticket leg) where
    lost-all : Loses type old new.legs leg
    lost-all =
        let may = may_push_run old ticket leg p.called.no_cause in
        let first : AreOwed ticket p.called.block leg (may.first ∷ may.more) old.records = subst (λ (qs : List Record). AreOwed ticket p.called.block leg qs old.records) may.all p.called.are in
        let attached : is_out (leg_state leg old) ≡ false = current_attached type old k leg may.first.block (k.writes.owed may.first.ticket may.first leg first.2 first.3) in
        let marks = dirty-marks type.model old leg k.legs k.records (attached_inside type.model old k.legs leg attached) in
        record {
          keeps = k;
          runs = may.runs;
          attached = attached;
          not_last = p.not_last;
          loses = run-loses type false old new.legs leg p.called.block (written_by all)
              (λ b low high. run-behind all ticket p.called.block (λ t r at going. marks.dirty t r at going) p.called.are b low (omega (arith, high, length-written_by all)))
              p.called.writes;
        }

    pub push_run_lost-keeps : Keeps type new
    push_run_lost-keeps = subst (λ (s : StripeState L). Keeps type s) (sym p.after) (lost-keeps type old new.legs leg lost-all)

    pub push_run_lost-acts : IsTrue type.honest → IsExplainedStep type.model [] old new
    push_run_lost-acts is_honest = subst (λ (s : StripeState L). IsExplainedStep type.model [] old s) (sym p.after) (lost-acts type old new.legs leg lost-all is_honest)

  -- a push of a run whose leg failed, the last one in sync
  pub halts_run-keeps : HaltsInPushRun type old new ticket leg → Keeps type new
  halts_run-keeps h =
      let w = h.called.writes in
      subst (λ (s : StripeState L). Keeps type s) (sym h.after)
      (stop-keeps type old new.legs k (calls-length type.model old.legs new.legs leg w.before w.after w.change)
      (λ j. calls-lengths type.model false old.legs new.legs leg j w.before w.after w.change w.writes.calls))
