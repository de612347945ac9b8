-- The answer that each step of a lane stands for, where it came to this.
use Rattle.std.specs.Prelude.{Result, Ok, Err, ◌≡◌, ℕ, List}
use Rattle.nm_fanout.specs.declared.block_data.Data.{Data}
use Rattle.nm_rules.specs.declared.refusal.Refusal.{Refusal}
use Rattle.nm_rules.specs.Runs.{EntryNames}
use Rattle.nm_stripe.specs.declared.answer.Answer.{Answer}
use Rattle.nm_stripe.specs.declared.answer.Answer.TheVariants as answer
use Rattle.nm_stripe.specs.declared.answer.Handed.TheVariants as handed
use Rattle.nm_stripe.specs.declared.begin.Beginning.{Beginning}
use Rattle.nm_stripe.specs.declared.begin.Beginning.TheVariants as beginning
use Rattle.nm_stripe.specs.declared.copy.Copying.{Copying}
use Rattle.nm_stripe.specs.declared.copy.Copying.TheVariants as copying
use Rattle.nm_stripe.specs.declared.push.Reach.{Reach}
use Rattle.nm_stripe.specs.declared.push.Reach.TheVariants as reach
use Rattle.nm_stripe.specs.declared.read.Reading.{Reading}
use Rattle.nm_stripe.specs.declared.read.Reading.TheVariants as reading
use Rattle.nm_stripe.specs.declared.sync.Syncing.{Syncing}
use Rattle.nm_stripe.specs.declared.sync.Syncing.TheVariants as syncing

-- a refusal with nothing to hand back
abbrev pub refused_with_nothing : {L : Type 0} → Refusal → Answer L
refused_with_nothing refusal = answer.Refused refusal handed.Nothing

-- a lost leg with nothing to hand back
abbrev pub lost_with_nothing : {L : Type 0} → ℕ → Answer L
lost_with_nothing leg = answer.LegLost leg handed.Nothing

-- a begin
abbrev pub answer_of_begin : {L : Type 0} → Result Beginning (Refusal × Data) → Answer L
answer_of_begin (Ok (beginning.Begun ticket)) = answer.Begun ticket
answer_of_begin (Ok (beginning.LegLost leg bytes)) = answer.LegLost leg (handed.Data bytes)
answer_of_begin (Err refused) = answer.Refused refused.0 (handed.Data refused.1)

-- a write that did not begin hands its data back
abbrev pub HandsBack : Data → Result Beginning (Refusal × Data) → Type 0
HandsBack bytes (Ok (beginning.Begun ticket)) = Unit {0}
HandsBack bytes (Ok (beginning.LegLost leg back)) = back ≡ bytes
HandsBack bytes (Err refused) = refused.1 ≡ bytes

-- a push
abbrev pub answer_of_push : {L : Type 0} → Result Reach Refusal → Answer L
answer_of_push (Ok (reach.Pushed count)) = answer.Pushed count
answer_of_push (Ok (reach.Complete number)) = answer.Complete number
answer_of_push (Ok (reach.LegLost leg)) = lost_with_nothing leg
answer_of_push (Ok reach.Halted) = answer.Halted
answer_of_push (Err refusal) = refused_with_nothing refusal

-- a claim
abbrev pub answer_of_claim : {L : Type 0} → Result EntryNames Refusal → Answer L
answer_of_claim (Ok written) = answer.Written written
answer_of_claim (Err refusal) = refused_with_nothing refusal

-- a read that left these bytes in its room, which is handed back where it found nothing
abbrev pub answer_of_read : {L : Type 0} → Result (Reading L) Refusal → List ℕ → Answer L
answer_of_read (Ok (reading.Value receipt)) bytes =
    answer.Value (record { names = receipt; bytes = bytes })
answer_of_read (Ok (reading.LegLost leg)) bytes = answer.LegLost leg (handed.Room bytes)
answer_of_read (Err refusal) bytes = answer.Refused refusal (handed.Room bytes)

-- a sync or a flush
abbrev pub answer_of_sync : {L : Type 0} → Result Syncing Refusal → Answer L
answer_of_sync (Ok syncing.Synced) = answer.Synced
answer_of_sync (Ok (syncing.LegLost leg)) = lost_with_nothing leg
answer_of_sync (Err refusal) = refused_with_nothing refusal

-- a step of a copy
abbrev pub answer_of_copy : {L : Type 0} → Result Copying Refusal → Answer L
answer_of_copy (Ok (copying.Copied moved blocks)) = answer.Copied moved blocks
answer_of_copy (Ok copying.Nothing) = answer.Nothing
answer_of_copy (Ok (copying.LegLost leg)) = lost_with_nothing leg
answer_of_copy (Err refusal) = refused_with_nothing refusal
