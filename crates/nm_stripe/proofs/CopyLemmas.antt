-- A step of a copy, from what its call says to what it keeps, does and answers.
use Rattle.std.proofs.Common.{◌≡◌, ◌⊎◌, ⊎_elim, ℕ, ◌<◌, ◌==◌, ◌&&◌, true, false, List, [], length, count_by, IsTrue, refl, sym, ap, ◌∙◌, subst, arith}
use Rattle.nm_choice.specs.Choice.{is_in_sync}
use Rattle.nm_choice.specs.declared.leg_state.LegState.{LegState}
use Rattle.nm_leg.specs.Leg.{LegType}
use Rattle.nm_rules.specs.Acts.{IsExplainedStep}
use Rattle.nm_rules.specs.Invariant.{Keeps}
use Rattle.nm_rules.specs.Lost.{lost}
use Rattle.nm_rules.specs.RunCopy.{CallsToCopyReadRun, CallsToCopyWriteRun, FailsInCopyRun, LosesInCopyRun}
use Rattle.nm_rules.specs.State.{StripeState, is_last}
use Rattle.nm_rules.proofs.CopyLemmas.{may_copy}
use Rattle.nm_rules.proofs.HaltLemmas.{copy_fault-keeps, copy_fault-acts}
use Rattle.nm_rules.proofs.LegLemmas.{calls-length}
use Rattle.nm_rules.proofs.RunCopyLemmas.{copies_read_run, copies_write_run, copy_run_lost-keeps, copy_run_lost-acts, fails_in_copy_run-one}
use Rattle.nm_rules.proofs.RunCopySteps.{RunCopied}
use Rattle.nm_rules.proofs.StateLemmas.{master_inside}
use Rattle.nm_store.specs.Copying.{FailsToCopy, MovesRun, ReadsToCopy, WritesToCopy}
use Rattle.nm_stripe.proofs.LostLemmas.{lost-after, lost-from, lost-legs_after}

module _ {L : Type 0} (type : LegType L) (old new : StripeState L) (leg most from : ℕ) (k : Keeps type old) (some : 0 < most) (moved : ℕ) where
  read-copied : ReadsToCopy type old new leg most from moved → RunCopied type old new leg moved
  read-copied r = subst (λ (n : ℕ). RunCopied type old new leg n) (sym r.moved_is) (copies_read_run type old new leg most k some r.reads)

  write-copied : WritesToCopy type old new leg most from moved → RunCopied type old new leg moved
  write-copied w = subst (λ (n : ℕ). RunCopied type old new leg n) (sym w.moved_is) (copies_write_run type old new leg most k some w.writes)

  -- a step that read or wrote blocks
  pub moved-run : MovesRun type old new leg most from moved → RunCopied type old new leg moved
  moved-run moves = ⊎_elim (λ read. read-copied read) (λ write. write-copied write) moves

  pub copied-explained : MovesRun type old new leg most from moved → IsTrue type.honest → IsExplainedStep type.model [] old new
  copied-explained moves is_honest = record { events = []; marked = refl; acts = (moved-run moves).acts is_honest }

-- a step whose call failed
module _ {L : Type 0} (type : LegType L) (old mid : StripeState L) (leg most from gone : ℕ) (k : Keeps type old) (f : FailsToCopy type old mid leg most from gone) where
  same_legs : length mid.legs ≡ length old.legs
  same_legs = ⊎_elim
      (λ read. let r = read.1.reads in calls-length type.model old.legs mid.legs old.master r.before r.after r.change)
      (λ write. let w = write.1.writes in calls-length type.model old.legs mid.legs f.copy.leg w.before w.after w.change)
      f.called

  -- the leg that failed is there
  pub gone-inside : leg < length old.legs → gone < length mid.legs
  gone-inside inside =
      let master : old.master < length old.legs = master_inside type.model old k.legs in
      let was : gone < length old.legs = ⊎_elim (λ read. subst (λ (j : ℕ). j < length old.legs) (sym read.0) master) (λ write. subst (λ (j : ℕ). j < length old.legs) (sym write.0) inside) f.called in
      omega (arith, was, same_legs)

  -- the leg that is copied to is not the only one in sync
  joining-last : is_last leg old ≡ false
  joining-last = ap (λ (s : LegState). is_in_sync s && (count_by is_in_sync old.states == 1)) (may_copy old leg f.on.no_cause).joining

  -- so where the leg that failed is, it is the master
  pub fails : is_last gone old ≡ true → FailsInCopyRun type old mid leg most from
  fails last = ⊎_elim
      (λ read. let one : FailsInCopyRun type old mid leg most from = record {
        copy = f.copy;
        chunk = f.chunk;
        found = f.found;
        on = f.on;
        called = read.1;
        last = subst (λ (j : ℕ). is_last j old ≡ true) read.0 last;
        after = f.after;
      } in one)
      (λ write. absurd (let off : is_last gone old ≡ false = subst (λ (j : ℕ). is_last j old ≡ false) (sym write.0) joining-last in let clash : true ≡ false = sym last ∙ off in cc))
      f.called

  pub fault-keeps : is_last gone old ≡ true → Keeps type mid
  fault-keeps last = copy_fault-keeps type old mid k leg (fails_in_copy_run-one type old mid leg most k (fails last))

  pub fault-explained : is_last gone old ≡ true → IsTrue type.honest → IsExplainedStep type.model [] old mid
  fault-explained last is_honest = record { events = []; marked = refl; acts = copy_fault-acts type old mid k leg (fails_in_copy_run-one type old mid leg most k (fails last)) is_honest }

  -- and where it is not, it has gone out
  module _ (new : StripeState L) (not_last : is_last gone old ≡ false) (after : new ≡ lost gone mid) where
    pub loses : LosesInCopyRun type old new leg gone most from
    loses =
        let is : new ≡ lost gone (record old { legs = mid.legs }) = lost-from gone old mid new f.after after in
        let same : mid.legs ≡ new.legs = sym (lost-legs_after gone old new mid.legs is) in
        record {
          copy = f.copy;
          chunk = f.chunk;
          found = f.found;
          on = f.on;
          called = subst (λ (ls : List L). ((gone ≡ old.master) × CallsToCopyReadRun type false old ls f.copy f.chunk most f.found) ⊎ ((gone ≡ leg) × CallsToCopyWriteRun type false old ls f.copy f.chunk most)) same f.called;
          not_last = not_last;
          after = lost-after gone old new mid.legs is;
        }

    pub lost-keeps : Keeps type new
    lost-keeps = copy_run_lost-keeps type old new leg most k gone loses

    pub lost-explained : IsTrue type.honest → IsExplainedStep type.model [] old new
    lost-explained is_honest = copy_run_lost-acts type old new leg most k gone loses is_honest
