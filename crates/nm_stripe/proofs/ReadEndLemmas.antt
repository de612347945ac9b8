-- A read in its three parts: a leg was asked, it was called, and the call's answer was taken.
use Rattle.std.proofs.Common.{◌≡◌, ℕ, Bool, true, false, List, [], length, Some, None, Result, Ok, Err, IfOk, IfErr, OnErr, IsTrue, sym, ap, ◌∙◌, subst}
use Rattle.nm_leg.specs.Leg.{LegType, blocks_in, blocks_of}
use Rattle.nm_rules.specs.declared.refusal.Refusal.{Refusal}
use Rattle.nm_rules.specs.Acts.{IsExplainedStep}
use Rattle.nm_rules.specs.Invariant.{Keeps}
use Rattle.nm_rules.specs.declared.at.At.{At}
use Rattle.nm_rules.specs.Read.{read_leg, turn_after}
use Rattle.nm_rules.specs.RunCalls.{ReadsRunAt}
use Rattle.nm_rules.specs.RunRead.{FailsInReadRun, LosesInReadRun, after_read_run, last_block, read_run_cause}
use Rattle.nm_rules.specs.Runs.{EntryNames, FitsRun}
use Rattle.nm_rules.specs.State.{StripeState, is_last, next_number}
use Rattle.nm_rules.proofs.RunCallLemmas.{length-blocks}
use Rattle.nm_rules.proofs.RunReadLemmas.{finds_run-array, finds_run-explained, finds_run-keeps}
use Rattle.nm_stripe.specs.declared.read.Reading.{Reading}
use Rattle.nm_stripe.specs.declared.read.Reading.TheVariants.{Value, LegLost}
use Rattle.nm_stripe.specs.Ends.{EndsRead}
use Rattle.nm_stripe.specs.Read.{ForFault, IsExplainedReading, LeavesTarget, Reads, RefusesRead}
use Rattle.nm_stripe.proofs.LostLemmas.{last-from}
use Rattle.nm_stripe.proofs.ReadLemmas.{fails, failed_read-acts, failed_read-keeps, finds, loses, lost_read-acts, lost_read-keeps}

-- what a read says of its end
pub record ReadIs {L : Type 0} (type : LegType L) (old new : StripeState L) (block : ℕ) (was is : List ℕ) (result : Result (Reading L) Refusal) : Type 0 where
  pub keeps : Keeps type new
  pub ok : IfOk result (Reads type old new block is)
  pub acts : IsTrue type.honest → IfOk result (IsExplainedReading type.model old new block is)
  pub refused : IfErr result (RefusesRead type old new block was is)
  pub refused_acts : IsTrue type.honest → OnErr result (IsExplainedStep type.model [] old new)
  pub target : LeavesTarget result was is

module _ {L : Type 0} (type : LegType L) (old mid new : StripeState L) (block leg : ℕ) (was is : List ℕ) (fits : FitsRun old.place block (blocks_in was)) (long : length is ≡ length was) (none : read_run_cause old (blocks_in was) ≡ None) (leg_is : read_leg (last_block block (blocks_in was)) old ≡ Some leg) (others : mid ≡ record old { legs = mid.legs }) (k : Keeps type old) where
  pub read-ends : (done : Bool) (result : Result (Reading L) Refusal) → ReadsRunAt type done leg block (blocks_of is) old.legs mid.legs → EndsRead done leg block (blocks_of is) mid new result → ReadIs type old new block was is result
  read-ends true (Ok (Value names)) reads ends =
      let f = finds type old mid block leg was is fits long none leg_is others new names reads ends.0 ends.1 in
      record {
        keeps = finds_run-keeps type old new block (blocks_of is) names k f;
        ok = f;
        acts = λ is_honest. (finds_run-array type old new block (blocks_of is) names k f is_honest, finds_run-explained type old new block (blocks_of is) names k f is_honest);
        refused = tt;
        refused_acts = λ is_honest. tt;
        target = tt;
      }
  read-ends false (Ok (LegLost gone)) reads ends =
      let not_last : is_last leg old ≡ false = last-from leg old mid false others (sym ends.1) in
      let l = loses type old mid block leg was is fits long none leg_is others new reads not_last ends.2 in
      record {
        keeps = lost_read-keeps type old new k block (blocks_of is) leg l;
        ok = subst (λ (i : ℕ). LosesInReadRun type old new block i (blocks_of is)) (sym ends.0) l;
        acts = λ is_honest. lost_read-acts type old new k block (blocks_of is) leg l is_honest;
        refused = tt;
        refused_acts = λ is_honest. tt;
        target = tt;
      }
  read-ends false (Err refusal) reads ends =
      let last : is_last leg old ≡ true = last-from leg old mid true others (sym ends.1) in
      let f : FailsInReadRun type old new block (blocks_of is) = subst (λ (s : StripeState L). FailsInReadRun type old s block (blocks_of is)) (sym ends.2) (fails type old mid block leg was is fits long none leg_is others reads last) in
      record {
        keeps = failed_read-keeps type old new k block (blocks_of is) f;
        ok = tt;
        acts = λ is_honest. tt;
        refused = ForFault ends.0 f;
        refused_acts = λ is_honest. failed_read-acts type old new k block (blocks_of is) f is_honest;
        target = λ other. absurd (other ends.0);
      }
  read-ends true (Ok (LegLost gone)) reads ends = absurd ends
  read-ends true (Err refusal) reads ends = absurd ends
  read-ends false (Ok (Value names)) reads ends = absurd ends

-- what was found is kept under the next numbers
pub ends-found : {L : Type 0} (old new : StripeState L) (leg block : ℕ) (bytes : List ℕ) (names : EntryNames) (place : At) (number : ℕ) → new ≡ after_read_run old old.legs block (blocks_of bytes) (turn_after (last_block block (blocks_in bytes)) old)
    → number ≡ next_number old → place ≡ new.place → names ≡ record { stripe = place.stripe; block = block; number = number; count = blocks_in bytes } → EndsRead true leg block (blocks_of bytes) old new (Ok (Value names))
ends-found old new leg block bytes names place number after next here named =
    let found = blocks_of bytes in
    let long : blocks_in bytes ≡ length found = sym (length-blocks bytes) in
    let stripe : place.stripe ≡ old.place.stripe = ap (λ (p : At). p.stripe) here ∙ ap (λ (s : StripeState _). s.place.stripe) after in (
      named
          ∙ ap (λ (n : ℕ). let e : EntryNames = record { stripe = n; block = block; number = number; count = blocks_in bytes } in e) stripe
          ∙ ap (λ (n : ℕ). let e : EntryNames = record { stripe = old.place.stripe; block = block; number = n; count = blocks_in bytes } in e) next
          ∙ ap (λ (n : ℕ). let e : EntryNames = record { stripe = old.place.stripe; block = block; number = next_number old; count = n } in e) long,
      after ∙ ap (λ (n : ℕ). after_read_run old old.legs block found (turn_after (last_block block n) old)) long,
    )
