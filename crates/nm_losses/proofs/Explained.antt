-- Each step, whatever it answers, is explained: some entries among its begins and replies.
use Rattle.std.proofs.Common.{◌≡◌, ◌<◌, ℕ, IsTrue, List, [], ◌∷◌, length, refl, sym, subst}
use Rattle.nm_fanout.specs.declared.block_data.Data.{Data}
use Rattle.nm_leg.specs.Leg.{LegType, blocks_of}
use Rattle.nm_rules.specs.declared.refusal.Refusal.{Refusal}
use Rattle.nm_rules.specs.Acts.{Acts, IsExplainedStep}
use Rattle.nm_rules.specs.Attach.{Attaches, Replaces, Returns, may_lack_each}
use Rattle.nm_rules.specs.Invariant.{Keeps}
use Rattle.nm_rules.specs.Reopening.{Marks}
use Rattle.nm_rules.specs.State.{StripeState}
use Rattle.nm_rules.proofs.ActsLemmas.{explained-stays}
use Rattle.nm_rules.proofs.AttachLemmas.{attach-acts, may_attach}
use Rattle.nm_rules.proofs.BeginLemmas.{fails_in_begin-explained}
use Rattle.nm_rules.proofs.HaltLemmas.{copy_fault-acts, sync_fault-acts}
use Rattle.nm_rules.proofs.LostStepLemmas.{begin_lost-acts, fail-acts, promote_lost-acts, flush_lost-acts, sync_lost-acts}
use Rattle.nm_rules.proofs.ReplaceLemmas.{replace-acts}
use Rattle.nm_rules.proofs.ReturnLemmas.{return-acts}
use Rattle.nm_rules.proofs.RunClaimLemmas.{claims_run-explained}
use Rattle.nm_rules.proofs.RunCopyLemmas.{copy_run_lost-acts, fails_in_copy_run-one}
use Rattle.nm_rules.proofs.RunPushLemmas.{push_run_lost-acts, pushes_run-explained}
use Rattle.nm_rules.proofs.RunReadLemmas.{finds_run-explained}
use Rattle.nm_stripe.specs.declared.answer.Answer.{Answer}
use Rattle.nm_stripe.specs.declared.answer.Answer.TheVariants.{Begun, Pushed, Complete, Halted, Written, Value, Failed, MasterChanged, Joining, Copied, InSync, Synced, LegLost, Refused}
use Rattle.nm_stripe.specs.declared.answer.Answer.TheVariants.{Nothing as NothingLeft}
use Rattle.nm_stripe.specs.declared.step.Step.{Step}
use Rattle.nm_stripe.specs.declared.step.Step.TheVariants.{Begin, Push, Claim, Read, Fail, Attach, Return, Replace, Copy, Promote, Sync, Flush}
use Rattle.nm_stripe.specs.Begin.{RefusesBegin, ForCause as BeginCause, ForFault as BeginFault}
use Rattle.nm_stripe.specs.Copy.{RefusesCopy, ForCause as CopyCause, ForFault as CopyFault}
use Rattle.nm_stripe.specs.Read.{RefusesRead, ForCause as ReadCause, ForFault as ReadFault}
use Rattle.nm_stripe.specs.Run.{MayBeAsked, NoneHalted, StepOf, marks}
use Rattle.nm_stripe.specs.Sync.{RefusesSync, ForCause as SyncCause, ForFault as SyncFault}
use Rattle.nm_stripe.proofs.BeginLemmas.{begun-explained}
use Rattle.nm_stripe.proofs.CopyLemmas.{copied-explained}
use Rattle.nm_stripe.proofs.ReadLemmas.{failed_read-acts, lost_read-acts}
use Rattle.nm_stripe.proofs.SyncLemmas.{promoted-explained, synced-explained}

module _ {L : Type 0} (type : LegType L) (old new : StripeState L) (k : Keeps type old) (is_honest : IsTrue type.honest) where
  -- a step that changes nothing
  same : new ≡ old → IsExplainedStep type.model [] old new
  same is = subst (λ (s : StripeState L). IsExplainedStep type.model [] old s) (sym is) (explained-stays type.model old k.numbers.most)

  -- a step with no begin, no reply and no entry
  quiet : (to : StripeState L) → new ≡ to → Acts type.model old to [] → IsExplainedStep type.model [] old new
  quiet to is acts = subst (λ (s : StripeState L). IsExplainedStep type.model [] old s) (sym is) (record { events = []; marked = refl; acts = acts })

  begin-refused : (block : ℕ) (bytes : Data) (given : Refusal) → RefusesBegin type old new block bytes given → IsExplainedStep type.model [] old new
  begin-refused block bytes given (BeginCause cause is) = same is
  begin-refused block bytes given (BeginFault is fails) = fails_in_begin-explained type old new block bytes is_honest k fails

  read-refused : (block : ℕ) (was bytes : List ℕ) (given : Refusal) → RefusesRead type old new block was bytes given → IsExplainedStep type.model [] old new
  read-refused block was bytes given (ReadCause cause is stays) = same is
  read-refused block was bytes given (ReadFault is fails) = failed_read-acts type old new k block (blocks_of bytes) fails is_honest

  copy-refused : (leg most from : ℕ) (given : Refusal) → RefusesCopy type old new leg most from given → IsExplainedStep type.model [] old new
  copy-refused leg most from given (CopyCause cause is) = same is
  copy-refused leg most from given (CopyFault is fails) = record { events = []; marked = refl; acts = copy_fault-acts type old new k leg (fails_in_copy_run-one type old new leg most k fails) is_honest }

  sync-refused : (leg : ℕ) (given : Refusal) → RefusesSync type old new leg given → IsExplainedStep type.model [] old new
  sync-refused leg given (SyncCause cause is) = same is
  sync-refused leg given (SyncFault is fails) = record { events = []; marked = refl; acts = sync_fault-acts type old new k leg fails is_honest }

  attaches : (leg : ℕ) → leg < length old.legs → Attaches old new leg → IsExplainedStep type.model [] old new
  attaches leg inside a = quiet _ a.after (attach-acts type old leg inside k (may_attach old leg a.no_cause).out)

  returns : (leg : ℕ) (spans : Marks) → leg < length old.legs → Returns type.model old new leg spans → IsExplainedStep type.model [] old new
  returns leg spans inside r = quiet _ r.after (return-acts type old leg (may_lack_each type.model spans old leg) inside k (may_attach old leg r.no_cause).out)

  replaces : (leg : ℕ) (part : L) → leg < length old.legs → length (type.model part).contents ≡ old.place.blocks → Replaces old new leg part → IsExplainedStep type.model [] old new
  replaces leg part inside long r = quiet _ r.after (replace-acts type old leg part inside k (may_attach old leg r.no_cause).out long)

  pub step-explained : (step : Step L) (answer : Answer L) → MayBeAsked type.model old step → NoneHalted (answer ∷ []) → StepOf type step answer old new → IsExplainedStep type.model (marks step answer) old new
  step-explained (Begin block bytes) (Begun ticket) asked goes is = begun-explained type old new block bytes ticket k is asked.1 is_honest
  step-explained (Begin block bytes) (LegLost gone handed) asked goes is = begin_lost-acts type old new k block bytes gone is.0 is_honest
  step-explained (Begin block bytes) (Refused cause handed) asked goes is = begin-refused block bytes cause is.0
  step-explained (Push ticket leg) (Pushed count) asked goes is = pushes_run-explained type old new ticket leg k is.0 is_honest
  step-explained (Push ticket leg) (Complete number) asked goes is = pushes_run-explained type old new ticket leg k is.0 is_honest
  step-explained (Push ticket leg) (LegLost gone handed) asked goes is = push_run_lost-acts type old new ticket leg k is.0.1 is_honest
  step-explained (Push ticket leg) Halted asked goes is = absurd goes
  step-explained (Push ticket leg) (Refused cause handed) asked goes is = same is.2
  step-explained (Claim ticket) (Written written) asked goes is = claims_run-explained type old new ticket written k is
  step-explained (Claim ticket) (Refused cause handed) asked goes is = same is.2
  step-explained (Read block room) (Value value) asked goes is = finds_run-explained type old new block (blocks_of value.bytes) value.names k is.0 is_honest
  step-explained (Read block room) (LegLost gone handed) asked goes is = lost_read-acts type old new k block (blocks_of is.0) gone is.1 is_honest
  step-explained (Read block room) (Refused cause handed) asked goes is = read-refused block room is.0 cause is.1
  step-explained (Fail leg) Failed asked goes is = fail-acts type old new k leg is.0 is_honest
  step-explained (Fail leg) (MasterChanged master) asked goes is = fail-acts type old new k leg is.0 is_honest
  step-explained (Fail leg) (Refused cause handed) asked goes is = same is.2
  step-explained (Attach leg) (Joining blocks) asked goes is = attaches leg asked is.0
  step-explained (Attach leg) (Refused cause handed) asked goes is = same is.2
  step-explained (Return leg spans) (Joining blocks) asked goes is = returns leg spans asked.0 is.0
  step-explained (Return leg spans) (Refused cause handed) asked goes is = same is.2
  step-explained (Replace leg part) (Joining blocks) asked goes is = replaces leg part asked.0 asked.1 is.0
  step-explained (Replace leg part) (Refused cause handed) asked goes is = same is.2
  step-explained (Copy leg most from) (Copied moved blocks) asked goes is = copied-explained type old new leg most from k asked.1 moved is.0 is_honest
  step-explained (Copy leg most from) NothingLeft asked goes is = same is.1
  step-explained (Copy leg most from) (LegLost gone handed) asked goes is = copy_run_lost-acts type old new leg most k gone is.0 is_honest
  step-explained (Copy leg most from) (Refused cause handed) asked goes is = copy-refused leg most from cause is.0
  step-explained (Promote leg) InSync asked goes is = promoted-explained type old new leg new.legs k is.called asked is.after is_honest
  step-explained (Promote leg) (LegLost gone handed) asked goes is = promote_lost-acts type old new k leg is.0.1 is_honest
  step-explained (Promote leg) (Refused cause handed) asked goes is = same is.2
  step-explained (Sync leg) Synced asked goes is = synced-explained type old new leg new.legs k is.called is.after is_honest
  step-explained (Sync leg) (LegLost gone handed) asked goes is = sync_lost-acts type old new k leg is.0.1 is_honest
  step-explained (Sync leg) (Refused cause handed) asked goes is = sync-refused leg cause is.0
  step-explained (Flush leg) Synced asked goes is = synced-explained type old new leg new.legs k is.called is.after is_honest
  step-explained (Flush leg) (LegLost gone handed) asked goes is = flush_lost-acts type old new k leg is.0.1 is_honest
  step-explained (Flush leg) (Refused cause handed) asked goes is = sync-refused leg cause is.0
  step-explained step answer asked goes is = absurd is
