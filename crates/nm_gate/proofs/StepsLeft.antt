-- Each step, whatever it answers, leaves the legs at a block on which no write is under way.
use Rattle.std.proofs.Common.{◌≡◌, ◌≢◌, ◌⊎◌, ⊎_elim, ℕ, IsTrue, List, [], ◌∷◌, None}
use Rattle.nm_fanout.specs.declared.block_data.Data.{Data}
use Rattle.nm_fanout.specs.Records.{busy_on}
use Rattle.nm_leg.specs.Leg.{LegType, block_of, blocks_of}
use Rattle.nm_rules.specs.declared.refusal.Refusal.{Refusal}
use Rattle.nm_rules.specs.Invariant.{Keeps}
use Rattle.nm_rules.specs.State.{StripeState}
use Rattle.nm_rules.proofs.RunReadLemmas.{fails_in_read_run-last, loses_in_read_run-last}
use Rattle.nm_store.specs.Copying.{MovesRun}
use Rattle.nm_stripe.specs.declared.answer.Answer.{Answer}
use Rattle.nm_stripe.specs.declared.answer.Answer.TheVariants.{Begun, Pushed, Complete, Halted, Written, Value, Failed, MasterChanged, Joining, Copied, InSync, Synced, LegLost, Refused}
use Rattle.nm_stripe.specs.declared.answer.Answer.TheVariants.{Nothing as NothingLeft}
use Rattle.nm_stripe.specs.declared.step.Step.{Step}
use Rattle.nm_stripe.specs.declared.step.Step.TheVariants.{Begin, Push, Claim, Read, Fail, Attach, Return, Replace, Copy, Promote, Sync, Flush}
use Rattle.nm_stripe.specs.Begin.{RefusesBegin, ForCause as BeginCause, ForFault as BeginFault}
use Rattle.nm_stripe.specs.Copy.{RefusesCopy, ForCause as CopyCause, ForFault as CopyFault}
use Rattle.nm_stripe.specs.Read.{RefusesRead, ForCause as ReadCause, ForFault as ReadFault}
use Rattle.nm_stripe.specs.Run.{NoneHalted, StepOf}
use Rattle.nm_stripe.specs.Sync.{RefusesSync, ForCause as SyncCause, ForFault as SyncFault}
use Rattle.nm_gate.proofs.LegsLeft.{LegsLeft, NotNext, any, but, stays, begins-left, fails_in_begin-left, loses_in_begin-left, pushes-left, loses_in_push-left, claims-left, finds-left, fails_in_read-left, loses_in_read-left, goes_out-left, attaches-left, replaces-left, returns-left, copies_read-left, copies_write-left, fails_in_copy-left, loses_in_copy-left, promotes-left, loses_in_promote-left, synchronizes-left, fails_in_sync-left, loses_in_flush-left, loses_in_sync-left}

-- the legs that a step does not call in sync, nor lets join
abbrev pub other_of : {L : Type 0} → Step L → Answer L → ℕ → Type 0
other_of (Attach leg) (Joining blocks) = but leg
other_of (Return leg marks) (Joining blocks) = but leg
other_of (Replace leg part) (Joining blocks) = but leg
other_of (Promote leg) InSync = but leg
other_of step answer = any

-- what a step spares of a leg that joins: a copy, its own leg but where other blocks are next
abbrev pub free_of : {L : Type 0} → Step L → StripeState L → ℕ → ℕ → Type 0
free_of (Copy leg most from) old b j = (j ≢ leg) ⊎ NotNext b leg most from old
free_of step old b j = Unit {0}

module _ {L : Type 0} (type : LegType L) (old new : StripeState L) (b : ℕ) (is_honest : IsTrue type.honest) (was_free : busy_on b old.records ≡ None) (k : Keeps type old) where
  begin-refused : (free : ℕ → Type 0) (block : ℕ) (bytes : Data) (given : Refusal) → RefusesBegin type old new block bytes given → LegsLeft type b any free old new
  begin-refused free block bytes given (BeginCause cause is) = stays type old new b free is
  begin-refused free block bytes given (BeginFault is fails) = fails_in_begin-left type old new b free is_honest block bytes fails

  read-refused : (free : ℕ → Type 0) (block : ℕ) (was bytes : List ℕ) (given : Refusal) → RefusesRead type old new block was bytes given → LegsLeft type b any free old new
  read-refused free block was bytes given (ReadCause cause is same) = stays type old new b free is
  read-refused free block was bytes given (ReadFault is fails) = fails_in_read-left type old new b free is_honest _ (block_of []) (fails_in_read_run-last type old new block (blocks_of bytes) fails)

  copy-refused : (free : ℕ → Type 0) (leg most from : ℕ) (given : Refusal) → RefusesCopy type old new leg most from given → LegsLeft type b any free old new
  copy-refused free leg most from given (CopyCause cause is) = stays type old new b free is
  copy-refused free leg most from given (CopyFault is fails) = fails_in_copy-left type old new b free is_honest leg most from fails

  sync-refused : (free : ℕ → Type 0) (leg : ℕ) (given : Refusal) → RefusesSync type old new leg given → LegsLeft type b any free old new
  sync-refused free leg given (SyncCause cause is) = stays type old new b free is
  sync-refused free leg given (SyncFault is fails) = fails_in_sync-left type old new b free is_honest leg fails

  copied : (free : ℕ → Type 0) (leg most from moved : ℕ) → ((j : ℕ) → free j → (j ≢ leg) ⊎ NotNext b leg most from old) → MovesRun type old new leg most from moved → LegsLeft type b any free old new
  copied free leg most from moved off moves = ⊎_elim (λ read. copies_read-left type old new b free is_honest leg most from read.reads) (λ write. copies_write-left type old new b free is_honest k leg most from off write.writes) moves

  pub step-left : (step : Step L) (answer : Answer L) → NoneHalted (answer ∷ []) → StepOf type step answer old new → LegsLeft type b (other_of step answer) (free_of step old b) old new
  step-left (Begin block bytes) (Begun ticket) goes is = begins-left type old new b (free_of (Begin block bytes) old b) is_honest block bytes ticket is
  step-left (Begin block bytes) (LegLost gone handed) goes is = loses_in_begin-left type old new b (free_of (Begin block bytes) old b) is_honest block bytes gone is.0
  step-left (Begin block bytes) (Refused cause handed) goes is = begin-refused (free_of (Begin block bytes) old b) block bytes cause is.0
  step-left (Push ticket leg) (Pushed count) goes is = pushes-left type old new b (free_of (Push ticket leg) old b) is_honest was_free ticket leg is.0
  step-left (Push ticket leg) (Complete number) goes is = pushes-left type old new b (free_of (Push ticket leg) old b) is_honest was_free ticket leg is.0
  step-left (Push ticket leg) (LegLost gone handed) goes is = loses_in_push-left type old new b (free_of (Push ticket leg) old b) is_honest was_free ticket leg is.0.1
  step-left (Push ticket leg) Halted goes is = absurd goes
  step-left (Push ticket leg) (Refused cause handed) goes is = stays type old new b (free_of (Push ticket leg) old b) is.2
  step-left (Claim ticket) (Written written) goes is = claims-left type old new b (free_of (Claim ticket) old b) ticket written is
  step-left (Claim ticket) (Refused cause handed) goes is = stays type old new b (free_of (Claim ticket) old b) is.2
  step-left (Read block room) (Value value) goes is = finds-left type old new b (free_of (Read block room) old b) is_honest block (blocks_of value.bytes) value.names is.0
  step-left (Read block room) (LegLost gone handed) goes is = loses_in_read-left type old new b (free_of (Read block room) old b) is_honest _ gone (block_of []) (loses_in_read_run-last type old new block (blocks_of is.0) gone is.1)
  step-left (Read block room) (Refused cause handed) goes is = read-refused (free_of (Read block room) old b) block room is.0 cause is.1
  step-left (Fail leg) Failed goes is = goes_out-left type old new b (free_of (Fail leg) old b) leg is.0
  step-left (Fail leg) (MasterChanged master) goes is = goes_out-left type old new b (free_of (Fail leg) old b) leg is.0
  step-left (Fail leg) (Refused cause handed) goes is = stays type old new b (free_of (Fail leg) old b) is.2
  step-left (Attach leg) (Joining blocks) goes is = attaches-left type old new b (free_of (Attach leg) old b) k leg is.0
  step-left (Attach leg) (Refused cause handed) goes is = stays type old new b (free_of (Attach leg) old b) is.2
  step-left (Return leg marks) (Joining blocks) goes is = returns-left type old new b (free_of (Return leg marks) old b) k leg marks is.0
  step-left (Return leg marks) (Refused cause handed) goes is = stays type old new b (free_of (Return leg marks) old b) is.2
  step-left (Replace leg part) (Joining blocks) goes is = replaces-left type old new b (free_of (Replace leg part) old b) k leg part is.0
  step-left (Replace leg part) (Refused cause handed) goes is = stays type old new b (free_of (Replace leg part) old b) is.2
  step-left (Copy leg most from) (Copied moved blocks) goes is = copied (free_of (Copy leg most from) old b) leg most from moved (λ j f. f) is.0
  step-left (Copy leg most from) NothingLeft goes is = stays type old new b (free_of (Copy leg most from) old b) is.1
  step-left (Copy leg most from) (LegLost gone handed) goes is = loses_in_copy-left type old new b (free_of (Copy leg most from) old b) is_honest k leg most from (λ j f. f) gone is.0
  step-left (Copy leg most from) (Refused cause handed) goes is = copy-refused (free_of (Copy leg most from) old b) leg most from cause is.0
  step-left (Promote leg) InSync goes is = promotes-left type old new b (free_of (Promote leg) old b) is_honest k leg is
  step-left (Promote leg) (LegLost gone handed) goes is = loses_in_promote-left type old new b (free_of (Promote leg) old b) is_honest leg is.0.1
  step-left (Promote leg) (Refused cause handed) goes is = stays type old new b (free_of (Promote leg) old b) is.2
  step-left (Sync leg) Synced goes is = synchronizes-left type old new b (free_of (Sync leg) old b) is_honest leg is
  step-left (Sync leg) (LegLost gone handed) goes is = loses_in_sync-left type old new b (free_of (Sync leg) old b) is_honest leg is.0.1
  step-left (Sync leg) (Refused cause handed) goes is = sync-refused (free_of (Sync leg) old b) leg cause is.0
  step-left (Flush leg) Synced goes is = synchronizes-left type old new b (free_of (Flush leg) old b) is_honest leg is
  step-left (Flush leg) (LegLost gone handed) goes is = loses_in_flush-left type old new b (free_of (Flush leg) old b) is_honest leg is.0.1
  step-left (Flush leg) (Refused cause handed) goes is = sync-refused (free_of (Flush leg) old b) leg cause is.0
  step-left step answer goes is = absurd is
