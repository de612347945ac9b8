-- Each step keeps what every stripe keeps, whatever it answers.
use Rattle.std.proofs.Common.{◌≡◌, ℕ, ◌<◌, List, length, sym, subst}
use Rattle.nm_leg.specs.Leg.{LegType, blocks_of}
use Rattle.nm_fanout.specs.declared.block_data.Data.{Data}
use Rattle.nm_rules.specs.declared.refusal.Refusal.{Refusal}
use Rattle.nm_rules.specs.Attach.{Attaches, Replaces, Returns, may_lack_each}
use Rattle.nm_rules.specs.Invariant.{Keeps}
use Rattle.nm_rules.specs.Reopening.{Marks}
use Rattle.nm_rules.specs.State.{StripeState}
use Rattle.nm_rules.proofs.AttachLemmas.{may_attach, attach-keeps}
use Rattle.nm_rules.proofs.HaltLemmas.{begin_fault-keeps, sync_fault-keeps, copy_fault-keeps}
use Rattle.nm_rules.proofs.LostStepLemmas.{begin_lost-keeps, sync_lost-keeps, flush_lost-keeps, promote_lost-keeps, fail-keeps}
use Rattle.nm_rules.proofs.ReplaceLemmas.{replace-keeps}
use Rattle.nm_rules.proofs.ReturnLemmas.{return-keeps}
use Rattle.nm_rules.proofs.RunClaimLemmas.{claims_run-keeps}
use Rattle.nm_rules.proofs.RunCopyLemmas.{copy_run_lost-keeps, fails_in_copy_run-one}
use Rattle.nm_rules.proofs.RunPushLemmas.{halts_run-keeps, push_run_lost-keeps, pushes_run-keeps}
use Rattle.nm_rules.proofs.RunReadLemmas.{finds_run-keeps}
use Rattle.nm_stripe.specs.declared.answer.Answer.{Answer}
use Rattle.nm_stripe.specs.declared.answer.Answer.TheVariants.{Begun, Pushed, Complete, Halted, Written, Value, Failed, MasterChanged, Joining, Copied, InSync, Synced, LegLost, Refused}
use Rattle.nm_stripe.specs.declared.answer.Answer.TheVariants.{Nothing as NothingLeft}
use Rattle.nm_stripe.specs.declared.step.Step.{Step}
use Rattle.nm_stripe.specs.declared.step.Step.TheVariants.{Begin, Push, Claim, Read, Fail, Attach, Return, Replace, Copy, Promote, Sync, Flush}
use Rattle.nm_stripe.specs.Begin.{RefusesBegin, ForCause as BeginCause, ForFault as BeginFault}
use Rattle.nm_stripe.specs.Copy.{RefusesCopy, ForCause as CopyCause, ForFault as CopyFault}
use Rattle.nm_stripe.specs.Read.{RefusesRead, ForCause as ReadCause, ForFault as ReadFault}
use Rattle.nm_stripe.specs.Sync.{RefusesSync, ForCause as SyncCause, ForFault as SyncFault}
use Rattle.nm_stripe.specs.Run.{StepOf, MayBeAsked}
use Rattle.nm_stripe.proofs.BeginLemmas.{begun-keeps}
use Rattle.nm_stripe.proofs.CopyLemmas.{moved-run}
use Rattle.nm_stripe.proofs.ReadLemmas.{failed_read-keeps, lost_read-keeps}
use Rattle.nm_stripe.proofs.SyncLemmas.{synced-keeps, promoted-keeps}

module _ {L : Type 0} (type : LegType L) (old new : StripeState L) (k : Keeps type old) where
  -- a step that changes nothing
  same : new ≡ old → Keeps type new
  same is = subst (λ (s : StripeState L). Keeps type s) (sym is) k

  begin-refused : (block : ℕ) (bytes : Data) (given : Refusal) → RefusesBegin type old new block bytes given → Keeps type new
  begin-refused block bytes given (BeginCause cause is) = same is
  begin-refused block bytes given (BeginFault is fails) = begin_fault-keeps type old new k block bytes fails

  read-refused : (block : ℕ) (was bytes : List ℕ) (given : Refusal) → RefusesRead type old new block was bytes given → Keeps type new
  read-refused block was bytes given (ReadCause cause is stays) = same is
  read-refused block was bytes given (ReadFault is fails) = failed_read-keeps type old new k block (blocks_of bytes) fails

  copy-refused : (leg most from : ℕ) (given : Refusal) → RefusesCopy type old new leg most from given → Keeps type new
  copy-refused leg most from given (CopyCause cause is) = same is
  copy-refused leg most from given (CopyFault is fails) = copy_fault-keeps type old new k leg (fails_in_copy_run-one type old new leg most k fails)

  sync-refused : (leg : ℕ) (given : Refusal) → RefusesSync type old new leg given → Keeps type new
  sync-refused leg given (SyncCause cause is) = same is
  sync-refused leg given (SyncFault is fails) = sync_fault-keeps type old new k leg fails

  attaches : (leg : ℕ) → leg < length old.legs → Attaches old new leg → Keeps type new
  attaches leg inside a = subst (λ (s : StripeState L). Keeps type s) (sym a.after) (attach-keeps type old leg inside k (may_attach old leg a.no_cause).out)

  returns : (leg : ℕ) (marks : Marks) → leg < length old.legs → Returns type.model old new leg marks → Keeps type new
  returns leg marks inside r = subst (λ (s : StripeState L). Keeps type s) (sym r.after) (return-keeps type old leg (may_lack_each type.model marks old leg) inside k (may_attach old leg r.no_cause).out)

  replaces : (leg : ℕ) (part : L) → leg < length old.legs → length (type.model part).contents ≡ old.place.blocks → Replaces old new leg part → Keeps type new
  replaces leg part inside long r = subst (λ (s : StripeState L). Keeps type s) (sym r.after) (replace-keeps type old leg part inside k (may_attach old leg r.no_cause).out long)

pub step-keeps : {L : Type 0} (type : LegType L) (step : Step L) (answer : Answer L) (old new : StripeState L) → Keeps type old → MayBeAsked type.model old step → StepOf type step answer old new → Keeps type new
step-keeps type (Begin block bytes) (Begun ticket) old new k asked is = begun-keeps type old new block bytes ticket k is asked.0 asked.1
step-keeps type (Begin block bytes) (LegLost gone handed) old new k asked is = begin_lost-keeps type old new k block bytes gone is.0
step-keeps type (Begin block bytes) (Refused cause handed) old new k asked is = begin-refused type old new k block bytes cause is.0
step-keeps type (Push ticket leg) (Pushed count) old new k asked is = pushes_run-keeps type old new ticket leg k is.0
step-keeps type (Push ticket leg) (Complete number) old new k asked is = pushes_run-keeps type old new ticket leg k is.0
step-keeps type (Push ticket leg) (LegLost gone handed) old new k asked is = push_run_lost-keeps type old new ticket leg k is.0.1
step-keeps type (Push ticket leg) Halted old new k asked is = halts_run-keeps type old new ticket leg k is
step-keeps type (Push ticket leg) (Refused cause handed) old new k asked is = same type old new k is.2
step-keeps type (Claim ticket) (Written written) old new k asked is = claims_run-keeps type old new ticket written k is
step-keeps type (Claim ticket) (Refused cause handed) old new k asked is = same type old new k is.2
step-keeps type (Read block room) (Value value) old new k asked is = finds_run-keeps type old new block (blocks_of value.bytes) value.names k is.0
step-keeps type (Read block room) (LegLost gone handed) old new k asked is = lost_read-keeps type old new k block (blocks_of is.0) gone is.1
step-keeps type (Read block room) (Refused cause handed) old new k asked is = read-refused type old new k block room is.0 cause is.1
step-keeps type (Fail leg) Failed old new k asked is = fail-keeps type old new k leg is.0
step-keeps type (Fail leg) (MasterChanged master) old new k asked is = fail-keeps type old new k leg is.0
step-keeps type (Fail leg) (Refused cause handed) old new k asked is = same type old new k is.2
step-keeps type (Attach leg) (Joining blocks) old new k asked is = attaches type old new k leg asked is.0
step-keeps type (Attach leg) (Refused cause handed) old new k asked is = same type old new k is.2
step-keeps type (Return leg marks) (Joining blocks) old new k asked is = returns type old new k leg marks asked.0 is.0
step-keeps type (Return leg marks) (Refused cause handed) old new k asked is = same type old new k is.2
step-keeps type (Replace leg part) (Joining blocks) old new k asked is = replaces type old new k leg part asked.0 asked.1 is.0
step-keeps type (Replace leg part) (Refused cause handed) old new k asked is = same type old new k is.2
step-keeps type (Copy leg most from) (Copied moved blocks) old new k asked is = (moved-run type old new leg most from k asked.1 moved is.0).keeps
step-keeps type (Copy leg most from) NothingLeft old new k asked is = same type old new k is.1
step-keeps type (Copy leg most from) (LegLost gone handed) old new k asked is = copy_run_lost-keeps type old new leg most k gone is.0
step-keeps type (Copy leg most from) (Refused cause handed) old new k asked is = copy-refused type old new k leg most from cause is.0
step-keeps type (Promote leg) InSync old new k asked is = promoted-keeps type old new leg new.legs k is.called asked is.after
step-keeps type (Promote leg) (LegLost gone handed) old new k asked is = promote_lost-keeps type old new k leg is.0.1
step-keeps type (Promote leg) (Refused cause handed) old new k asked is = same type old new k is.2
step-keeps type (Sync leg) Synced old new k asked is = synced-keeps type old new leg new.legs k is.called is.after
step-keeps type (Sync leg) (LegLost gone handed) old new k asked is = sync_lost-keeps type old new k leg is.0.1
step-keeps type (Sync leg) (Refused cause handed) old new k asked is = sync-refused type old new k leg cause is.0
step-keeps type (Flush leg) Synced old new k asked is = synced-keeps type old new leg new.legs k is.called is.after
step-keeps type (Flush leg) (LegLost gone handed) old new k asked is = flush_lost-keeps type old new k leg is.0.1
step-keeps type (Flush leg) (Refused cause handed) old new k asked is = sync-refused type old new k leg cause is.0
step-keeps type step answer old new k asked is = absurd is
