-- A push in its parts: a leg was asked for a run, it was called, and the call's answer was taken.
use Rattle.std.proofs.Common.{◌≡◌, ℕ, Bool, true, false, Some, IsSome, IsTrue, refl, sym, ap, ◌∙◌}
use Rattle.nm_fanout.specs.declared.write_record.Record.{Record}
use Rattle.nm_fanout.specs.Record.{is_under_way}
use Rattle.nm_fanout.specs.Records.{find_record}
use Rattle.nm_leg.specs.Leg.{LegType}
use Rattle.nm_rules.specs.Invariant.{Keeps}
use Rattle.nm_rules.specs.RunPush.{CallsToPushRun, PushesRun, after_push_run}
use Rattle.nm_rules.specs.Runs.{of_run}
use Rattle.nm_rules.specs.State.{StripeState, is_last}
use Rattle.nm_rules.proofs.RunPushLemmas.{halts_run-keeps, push_run_lost-acts, push_run_lost-keeps, pushes_run-explained, pushes_run-keeps}
use Rattle.nm_stripe.specs.declared.push.Reach.{Reach}
use Rattle.nm_stripe.specs.declared.push.Reach.TheVariants.{Pushed, Complete, LegLost, Halted}
use Rattle.nm_stripe.specs.Ends.{EndsPush}
use Rattle.nm_stripe.specs.Push.{IsExplainedReach, Reaches}
use Rattle.nm_stripe.proofs.LostLemmas.{last-from, lost-from}
use Rattle.nm_stripe.proofs.PushLemmas.{halts, loses, pushes, reached-after, went-landed}

-- what a push says of its end
pub record PushIs {L : Type 0} (type : LegType L) (old new : StripeState L) (ticket leg : ℕ) (reach : Reach) : Type 0 where
  pub keeps : Keeps type new
  pub ok : Reaches type old new ticket leg reach
  pub acts : IsTrue type.honest → IsExplainedReach type.model old new reach

module _ {L : Type 0} (type : LegType L) (old mid new : StripeState L) (ticket leg : ℕ) (others : mid ≡ record old { legs = mid.legs }) (k : Keeps type old) where
  -- the run reaches the leg
  went : CallsToPushRun type true old mid.legs ticket leg → new ≡ after_push_run mid mid.legs (of_run ticket mid.records) leg → PushesRun type old new ticket leg
  went called after = pushes type old new mid.legs ticket leg called (reached-after old mid new ticket leg others after)

  pub push-ends : (done : Bool) (reach : Reach) → CallsToPushRun type done old mid.legs ticket leg → EndsPush done ticket leg mid new reach → PushIs type old new ticket leg reach
  push-ends true (Pushed count) called ends =
      let p = went called ends.0 in
      record {
        keeps = pushes_run-keeps type old new ticket leg k p;
        ok = (p, ends.1);
        acts = λ is_honest. pushes_run-explained type old new ticket leg k p is_honest;
      }
  push-ends true (Complete number) called ends =
      let p = went called ends.0 in
      record {
        keeps = pushes_run-keeps type old new ticket leg k p;
        ok = (p, ends.1);
        acts = λ is_honest. pushes_run-explained type old new ticket leg k p is_honest;
      }
  push-ends false (LegLost gone) called ends =
      let not_last : is_last leg old ≡ false = last-from leg old mid false others (sym ends.1) in
      let l = loses type old new mid.legs ticket leg called not_last (lost-from leg old mid new others ends.2) in
      record {
        keeps = push_run_lost-keeps type old new ticket leg k l;
        ok = (ends.0, l);
        acts = λ is_honest. push_run_lost-acts type old new ticket leg k l is_honest;
      }
  push-ends false Halted called ends =
      let last : is_last leg old ≡ true = last-from leg old mid true others (sym ends.0) in
      let after : new ≡ record old { legs = mid.legs; stopped = true } = ends.1 ∙ ap (λ (m : StripeState L). let s : StripeState L = record m { stopped = true } in s) others in
      let h = halts type old new mid.legs ticket leg called last after in
      record { keeps = halts_run-keeps type old new ticket leg k h; ok = h; acts = λ is_honest. tt }
  push-ends true (LegLost gone) called ends = absurd ends
  push-ends true Halted called ends = absurd ends
  push-ends false (Pushed count) called ends = absurd ends
  push-ends false (Complete number) called ends = absurd ends

-- once it has reached its last leg the run has its entry
pub ends-landed : {L : Type 0} (type : LegType L) (old mid : StripeState L) (ticket leg : ℕ) → mid ≡ record old { legs = mid.legs } → Keeps type old → CallsToPushRun type true old mid.legs ticket leg
    → (r : Record) → find_record ticket (after_push_run mid mid.legs (of_run ticket mid.records) leg).records ≡ Some r → is_under_way r ≡ false → IsSome r.entry
ends-landed type old mid ticket leg others k called r found over =
    let new = after_push_run mid mid.legs (of_run ticket mid.records) leg in
    went-landed type old new ticket leg k (pushes type old new mid.legs ticket leg called (reached-after old mid new ticket leg others refl)) r found over
