-- What a stripe's method promises is what its step promises of the answer that it stands for.
use Rattle.std.proofs.Common.{◌≡◌, ℕ, List, [], ◌∷◌, Some, Result, Ok, Err, IfOk, IfErr, OnErr, length, min, refl, ap, sym, subst}
use Rattle.nm_fanout.specs.declared.block_data.Data.{Data}
use Rattle.nm_leg.specs.Leg.{Leg, LegType}
use Rattle.nm_rules.specs.declared.refusal.Refusal.{Refusal}
use Rattle.nm_rules.specs.Acts.{IsExplainedStep}
use Rattle.nm_rules.specs.RunClaim.{replies_of}
use Rattle.nm_rules.specs.RunPush.{push_run_cause}
use Rattle.nm_rules.specs.Runs.{EntryNames}
use Rattle.nm_rules.specs.State.{StripeState}
use Rattle.nm_rules.proofs.ActsLemmas.{explained-stays}
use Rattle.nm_stripe.specs.declared.answer.Handed.TheVariants as handed
use Rattle.nm_stripe.specs.declared.begin.Beginning.{Beginning}
use Rattle.nm_stripe.specs.declared.begin.Beginning.TheVariants as beginning
use Rattle.nm_stripe.specs.declared.copy.Copying.{Copying}
use Rattle.nm_stripe.specs.declared.copy.Copying.TheVariants as copying
use Rattle.nm_stripe.specs.declared.push.Reach.{Reach}
use Rattle.nm_stripe.specs.declared.push.Reach.TheVariants as reach
use Rattle.nm_stripe.specs.declared.read.Reading.{Reading}
use Rattle.nm_stripe.specs.declared.read.Reading.TheVariants as reading
use Rattle.nm_stripe.specs.declared.step.Step.TheVariants.{Begin, Push, Claim, Read, Copy, Flush}
use Rattle.nm_stripe.specs.declared.sync.Syncing.{Syncing}
use Rattle.nm_stripe.specs.declared.sync.Syncing.TheVariants as syncing
use Rattle.nm_stripe.specs.Begin.{BeginsOrLoses, IsExplainedBegin, RefusesBegin}
use Rattle.nm_stripe.specs.Copy.{Copies, RefusesCopy}
use Rattle.nm_stripe.specs.Push.{Reaches, IsExplainedReach}
use Rattle.nm_stripe.specs.Read.{Reads, RefusesRead}
use Rattle.nm_stripe.specs.Run.{NoneHalted, StepOf, marks}
use Rattle.nm_stripe.specs.Sync.{FlushesLeg, RefusesSync}
use Rattle.nm_lanes.specs.Answers.{answer_of_begin, answer_of_push, answer_of_claim, answer_of_read, answer_of_sync, answer_of_copy, HandsBack}
use Rattle.nm_part.specs.PartState.{PartState}
use Rattle.nm_part.specs.Parts.{part_after}

module _ {L : Type 0} (type : LegType L) (old new : StripeState L) where
  pub begin-step : (block : ℕ) (bytes : Data) (result : Result Beginning (Refusal × Data)) → IfOk result (BeginsOrLoses type old new block bytes) → IfErr result (λ refused. RefusesBegin type old new block bytes refused.0) → IfErr result (λ refused. refused.1 ≡ bytes)
      → StepOf type (Begin block bytes) (answer_of_begin result) old new
  begin-step block bytes (Ok (beginning.Begun ticket)) ok refused back = ok
  begin-step block bytes (Ok (beginning.LegLost leg own)) ok refused back = (ok.0, ap (λ given. handed.Data given) ok.1)
  begin-step block bytes (Err given) ok refused back = (refused, ap (λ given. handed.Data given) back)

  pub push-step : (ticket leg : ℕ) (result : Result Reach Refusal) → IfOk result (Reaches type old new ticket leg) → IfErr result (λ refusal. push_run_cause old ticket leg ≡ Some refusal) → OnErr result (new ≡ old)
      → StepOf type (Push ticket leg) (answer_of_push result) old new
  push-step ticket leg (Ok (reach.Pushed count)) ok cause stays = ok
  push-step ticket leg (Ok (reach.Complete number)) ok cause stays = ok
  push-step ticket leg (Ok (reach.LegLost gone)) ok cause stays = (ok, refl)
  push-step ticket leg (Ok reach.Halted) ok cause stays = ok
  push-step ticket leg (Err refusal) ok cause stays = (cause, refl, stays)

  pub read-step : (block : ℕ) (room bytes : List ℕ) (result : Result (Reading L) Refusal) → length bytes ≡ length room → IfOk result (Reads type old new block bytes) → IfErr result (RefusesRead type old new block room bytes)
      → StepOf type (Read block room) (answer_of_read result bytes) old new
  read-step block room bytes (Ok (reading.Value receipt)) long ok refused = (ok, long)
  read-step block room bytes (Ok (reading.LegLost leg)) long ok refused = (bytes, ok, (refl, long))
  read-step block room bytes (Err refusal) long ok refused = (bytes, refused, (refl, long))

  pub flush-step : (leg : ℕ) (result : Result Syncing Refusal) → IfOk result (FlushesLeg type old new leg) → IfErr result (RefusesSync type old new leg) → StepOf type (Flush leg) (answer_of_sync result) old new
  flush-step leg (Ok syncing.Synced) ok refused = ok
  flush-step leg (Ok (syncing.LegLost gone)) ok refused = (ok, refl)
  flush-step leg (Err refusal) ok refused = (refused, refl)

  pub copy-step : (leg most from : ℕ) (result : Result Copying Refusal) → IfOk result (Copies type old new leg most from) → IfErr result (RefusesCopy type old new leg most from) → StepOf type (Copy leg most from) (answer_of_copy result) old new
  copy-step leg most from (Ok (copying.Copied moved blocks)) ok refused = ok
  copy-step leg most from (Ok copying.Nothing) ok refused = ok
  copy-step leg most from (Ok (copying.LegLost gone)) ok refused = (ok, refl)
  copy-step leg most from (Err refusal) ok refused = (refused, refl)

-- what a method explains is what its step explains of that answer
module _ {L : Type 0} (model : L → Leg) (old new : StripeState L) where
  unchanged : length old.kept.entries ≡ min old.kept.most old.total → new ≡ old → IsExplainedStep model [] old new
  unchanged kept stays = subst (λ (s : StripeState L). IsExplainedStep model [] old s) (sym stays) (explained-stays model old kept)

  pub begin-acts : (block : ℕ) (bytes : Data) (result : Result Beginning (Refusal × Data)) → IfOk result (IsExplainedBegin model old new block bytes) → OnErr result (IsExplainedStep model [] old new)
      → IsExplainedStep model (marks {L = L} (Begin block bytes) (answer_of_begin result)) old new
  begin-acts block bytes (Ok (beginning.Begun ticket)) ok refused = ok
  begin-acts block bytes (Ok (beginning.LegLost leg own)) ok refused = ok
  begin-acts block bytes (Err given) ok refused = refused

  pub push-acts : (ticket leg : ℕ) (result : Result Reach Refusal) → NoneHalted {L = L} (answer_of_push result ∷ []) → IfOk result (IsExplainedReach model old new) → length old.kept.entries ≡ min old.kept.most old.total → OnErr result (new ≡ old)
      → IsExplainedStep model (marks {L = L} (Push ticket leg) (answer_of_push result)) old new
  push-acts ticket leg (Ok (reach.Pushed count)) running ok kept stays = ok
  push-acts ticket leg (Ok (reach.Complete number)) running ok kept stays = ok
  push-acts ticket leg (Ok (reach.LegLost gone)) running ok kept stays = ok
  push-acts ticket leg (Ok reach.Halted) running ok kept stays = absurd running
  push-acts ticket leg (Err refusal) running ok kept stays = unchanged kept stays

  pub claim-acts : (ticket : ℕ) (result : Result EntryNames Refusal) → IfOk result (λ written. IsExplainedStep model (replies_of ticket written.number written.count) old new) → length old.kept.entries ≡ min old.kept.most old.total → OnErr result (new ≡ old)
      → IsExplainedStep model (marks {L = L} (Claim ticket) (answer_of_claim result)) old new
  claim-acts ticket (Ok written) ok kept stays = ok
  claim-acts ticket (Err refusal) ok kept stays = unchanged kept stays

-- a flush and a copy mark nothing, and what the others leave is counted
pub flush-marks : (L : Type 0) (leg : ℕ) (result : Result Syncing Refusal) → marks {L = L} (Flush leg) (answer_of_sync result) ≡ []
flush-marks L leg (Ok syncing.Synced) = refl
flush-marks L leg (Ok (syncing.LegLost gone)) = refl
flush-marks L leg (Err refusal) = refl

pub copy-marks : (L : Type 0) (leg most from : ℕ) (result : Result Copying Refusal) → marks {L = L} (Copy leg most from) (answer_of_copy result) ≡ []
copy-marks L leg most from (Ok (copying.Copied moved blocks)) = refl
copy-marks L leg most from (Ok copying.Nothing) = refl
copy-marks L leg most from (Ok (copying.LegLost gone)) = refl
copy-marks L leg most from (Err refusal) = refl

-- a part takes nothing of these answers
pub begin-counts : (L : Type 0) (part : PartState) (result : Result Beginning (Refusal × Data)) → part ≡ part_after {L = L} (answer_of_begin result) part
begin-counts L part (Ok (beginning.Begun ticket)) = refl
begin-counts L part (Ok (beginning.LegLost leg own)) = refl
begin-counts L part (Err given) = refl

pub push-counts : (L : Type 0) (part : PartState) (result : Result Reach Refusal) → part ≡ part_after {L = L} (answer_of_push result) part
push-counts L part (Ok (reach.Pushed count)) = refl
push-counts L part (Ok (reach.Complete number)) = refl
push-counts L part (Ok (reach.LegLost gone)) = refl
push-counts L part (Ok reach.Halted) = refl
push-counts L part (Err refusal) = refl

pub flush-counts : (L : Type 0) (part : PartState) (result : Result Syncing Refusal) → part ≡ part_after {L = L} (answer_of_sync result) part
flush-counts L part (Ok syncing.Synced) = refl
flush-counts L part (Ok (syncing.LegLost gone)) = refl
flush-counts L part (Err refusal) = refl

pub copy-counts : (L : Type 0) (part : PartState) (result : Result Copying Refusal) → part ≡ part_after {L = L} (answer_of_copy result) part
copy-counts L part (Ok (copying.Copied moved blocks)) = refl
copy-counts L part (Ok copying.Nothing) = refl
copy-counts L part (Ok (copying.LegLost gone)) = refl
copy-counts L part (Err refusal) = refl

-- a begin that is refused, or lost a leg, hands its data back
pub begin-back : {L : Type 0} (type : LegType L) (old new : StripeState L) (block : ℕ) (bytes : Data) (result : Result Beginning (Refusal × Data)) → IfOk result (BeginsOrLoses type old new block bytes) → IfErr result (λ refused. refused.1 ≡ bytes) → HandsBack bytes result
begin-back type old new block bytes (Ok (beginning.Begun ticket)) ok back = tt
begin-back type old new block bytes (Ok (beginning.LegLost leg own)) ok back = ok.1
begin-back type old new block bytes (Err given) ok back = back
