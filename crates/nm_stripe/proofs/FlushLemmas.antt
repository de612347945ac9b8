-- What legs in sync hold durably stays in each step, and a sync makes it so: so a flush is a flush.
use Rattle.std.proofs.Common.{length, ◌∙◌, ap, arith, sym, subst, ◌<◌, ◌≡◌, ⊎_elim, ℕ, Bool, true, false, IsTrue, List, [], ◌∷◌, None, Some, refl}
use Rattle.nm_choice.specs.declared.leg_state.LegState.{LegState}
use Rattle.nm_choice.specs.declared.leg_state.LegState.TheVariants.{Out}
use Rattle.nm_choice.specs.declared.leg_state.LegState.TheVariants as state
use Rattle.nm_fanout.specs.declared.block_data.Data.{Data}
use Rattle.nm_fanout.specs.Records.{busy_on}
use Rattle.nm_leg.specs.Leg.{LegType, block_of, blocks_of}
use Rattle.nm_rules.specs.declared.refusal.Refusal.{Refusal}
use Rattle.nm_rules.specs.declared.refusal.Refusal.TheVariants.{AlreadyOut, Fault, Stopped}
use Rattle.nm_rules.specs.Cause.{first_cause, when}
use Rattle.nm_rules.specs.Flushed.{DurableAt, KeepsDurable}
use Rattle.nm_rules.specs.Invariant.{Keeps}
use Rattle.nm_rules.specs.State.{StripeState, is_out, leg_state}
use Rattle.nm_rules.proofs.FlushedLemmas.{fails_in_begin-durable, fails_in_read-durable, fails_in_copy-durable}
use Rattle.nm_rules.proofs.FlushedLostLemmas.{loses_in_begin-durable, loses_in_read-durable, loses_in_promote-durable, loses_in_flush-durable, loses_in_flush-makes, loses_in_sync-durable, goes_out-durable, loses_in_sync-makes, attaches-durable, replaces-durable, returns-durable}
use Rattle.nm_rules.proofs.FlushedSyncLemmas.{synchronizes-durable, synchronizes-makes, fails_in_sync-durable, promotes-durable, out-durable}
use Rattle.nm_rules.proofs.RunCopyLemmas.{fails_in_copy_run-one}
use Rattle.nm_rules.proofs.RunFlushedLemmas.{claims_run-durable, copies_read_run-durable, copies_write_run-durable, loses_in_copy_run-durable, finds_run-durable, halts_run-durable, loses_in_push_run-durable, pushes_run-durable}
use Rattle.nm_rules.proofs.RunReadLemmas.{fails_in_read_run-last, loses_in_read_run-last}
use Rattle.nm_rules.proofs.StateLemmas.{in_sync_inside}
use Rattle.nm_store.specs.Copying.{MovesRun}
use Rattle.nm_stripe.specs.declared.answer.Answer.{Answer}
use Rattle.nm_stripe.specs.declared.answer.Answer.TheVariants.{Begun, Pushed, Complete, Halted, Written, Value, Failed, MasterChanged, Joining, Copied, InSync, Synced, LegLost, Refused}
use Rattle.nm_stripe.specs.declared.answer.Answer.TheVariants.{Nothing as NothingLeft}
use Rattle.nm_stripe.specs.declared.step.Step.{Step}
use Rattle.nm_stripe.specs.declared.step.Step.TheVariants.{Begin, Push, Claim, Read, Fail, Attach, Return, Replace, Copy, Promote, Sync, Flush}
use Rattle.nm_stripe.specs.Begin.{RefusesBegin, ForCause as BeginCause, ForFault as BeginFault}
use Rattle.nm_stripe.specs.Copy.{RefusesCopy, ForCause as CopyCause, ForFault as CopyFault}
use Rattle.nm_stripe.specs.Flush.{Flushes, LeavesBlock, NoneBegins, SyncsLeg, HasSynced}
use Rattle.nm_stripe.specs.Read.{RefusesRead, ForCause as ReadCause, ForFault as ReadFault}
use Rattle.nm_stripe.specs.Run.{StepOf, AllAsked, Runs}
use Rattle.nm_stripe.specs.Sync.{RefusesSync, ForCause as SyncCause, ForFault as SyncFault}
use Rattle.nm_stripe.proofs.BegunLemmas.{begun-durable}
use Rattle.nm_stripe.proofs.RunLemmas.{step-shape, all_asked-later}
use Rattle.nm_stripe.proofs.StepLemmas.{step-keeps}

-- a sync that is refused as AlreadyOut is of a leg that is out
out-bits : (stopped out : Bool) → first_cause (when stopped Stopped ∷ when out AlreadyOut ∷ []) ≡ Some AlreadyOut → out ≡ true
out-bits true out is = cc
out-bits false true is = refl
out-bits false false is = cc

out-state : (st : LegState) → is_out st ≡ true → st ≡ Out
out-state state.InSync is = cc
out-state state.Joining is = cc
out-state Out is = refl

module _ {L : Type 0} (type : LegType L) (old new : StripeState L) (b : ℕ) (was_free : busy_on b old.records ≡ None) (k : Keeps type old) where
  -- a step that changes nothing
  same : new ≡ old → KeepsDurable type.model b old new
  same is = subst (λ (s : StripeState L). KeepsDurable type.model b old s) (sym is) (record { free = was_free; durable = λ j held. held })

  module _ (kn : Keeps type new) (is_honest : IsTrue type.honest) (inside : b < old.place.blocks) where
    begin-refused : (block : ℕ) (bytes : Data) (given : Refusal) → RefusesBegin type old new block bytes given → KeepsDurable type.model b old new
    begin-refused block bytes given (BeginCause cause is) = same is
    begin-refused block bytes given (BeginFault is fails) = fails_in_begin-durable type old new b was_free is_honest block bytes fails

    read-refused : (block : ℕ) (was bytes : List ℕ) (given : Refusal) → RefusesRead type old new block was bytes given → KeepsDurable type.model b old new
    read-refused block was bytes given (ReadCause cause is stays) = same is
    read-refused block was bytes given (ReadFault is fails) = fails_in_read-durable type old new b was_free is_honest _ (block_of []) (fails_in_read_run-last type old new block (blocks_of bytes) fails)

    copy-refused : (leg most from : ℕ) (given : Refusal) → RefusesCopy type old new leg most from given → KeepsDurable type.model b old new
    copy-refused leg most from given (CopyCause cause is) = same is
    copy-refused leg most from given (CopyFault is fails) = fails_in_copy-durable type old new b was_free is_honest leg (fails_in_copy_run-one type old new leg most k fails)

    sync-refused : (leg : ℕ) (given : Refusal) → RefusesSync type old new leg given → KeepsDurable type.model b old new
    sync-refused leg given (SyncCause cause is) = same is
    sync-refused leg given (SyncFault is fails) = fails_in_sync-durable type old new b was_free k is_honest inside leg fails

    copied : (leg most from moved : ℕ) → MovesRun type old new leg most from moved → KeepsDurable type.model b old new
    copied leg most from moved moves = ⊎_elim (λ read. copies_read_run-durable type old new b was_free is_honest leg most read.reads) (λ write. copies_write_run-durable type old new b was_free k leg most write.writes) moves

    -- each step that begins no write of the block keeps what is durable of it
    pub step-durable : (step : Step L) (answer : Answer L) → LeavesBlock b step answer → StepOf type step answer old new → KeepsDurable type.model b old new
    step-durable (Begin block bytes) (Begun ticket) leaves is = begun-durable type old new block ticket b was_free bytes is_honest leaves is
    step-durable (Begin block bytes) (LegLost gone handed) leaves is = loses_in_begin-durable type old new b was_free k kn is_honest inside block bytes gone is.0
    step-durable (Begin block bytes) (Refused cause handed) leaves is = begin-refused block bytes cause is.0
    step-durable (Push ticket leg) (Pushed count) leaves is = pushes_run-durable type old new b was_free is_honest ticket leg is.0
    step-durable (Push ticket leg) (Complete number) leaves is = pushes_run-durable type old new b was_free is_honest ticket leg is.0
    step-durable (Push ticket leg) (LegLost gone handed) leaves is = loses_in_push_run-durable type old new b was_free k kn is_honest inside ticket leg is.0.1
    step-durable (Push ticket leg) Halted leaves is = halts_run-durable type old new b was_free is_honest ticket leg is
    step-durable (Push ticket leg) (Refused cause handed) leaves is = same is.2
    step-durable (Claim ticket) (Written written) leaves is = claims_run-durable type old new b was_free ticket written is
    step-durable (Claim ticket) (Refused cause handed) leaves is = same is.2
    step-durable (Read block room) (Value value) leaves is = finds_run-durable type old new b was_free is_honest block (blocks_of value.bytes) value.names is.0
    step-durable (Read block room) (LegLost gone handed) leaves is = loses_in_read-durable type old new b was_free k kn is_honest inside _ gone (block_of []) (loses_in_read_run-last type old new block (blocks_of is.0) gone is.1)
    step-durable (Read block room) (Refused cause handed) leaves is = read-refused block room is.0 cause is.1
    step-durable (Fail leg) Failed leaves is = goes_out-durable type old new b was_free k kn is_honest inside leg is.0
    step-durable (Fail leg) (MasterChanged master) leaves is = goes_out-durable type old new b was_free k kn is_honest inside leg is.0
    step-durable (Fail leg) (Refused cause handed) leaves is = same is.2
    step-durable (Attach leg) (Joining blocks) leaves is = attaches-durable type old new b was_free k leg is.0
    step-durable (Attach leg) (Refused cause handed) leaves is = same is.2
    step-durable (Return leg marks) (Joining blocks) leaves is = returns-durable type old new b was_free k leg marks is.0
    step-durable (Return leg marks) (Refused cause handed) leaves is = same is.2
    step-durable (Replace leg part) (Joining blocks) leaves is = replaces-durable type old new b was_free k leg part is.0
    step-durable (Replace leg part) (Refused cause handed) leaves is = same is.2
    step-durable (Copy leg most from) (Copied moved blocks) leaves is = copied leg most from moved is.0
    step-durable (Copy leg most from) NothingLeft leaves is = same is.1
    step-durable (Copy leg most from) (LegLost gone handed) leaves is = loses_in_copy_run-durable type old new b was_free k kn is_honest inside leg gone most is.0
    step-durable (Copy leg most from) (Refused cause handed) leaves is = copy-refused leg most from cause is.0
    step-durable (Promote leg) InSync leaves is = promotes-durable type old new b was_free k is_honest inside leg kn is
    step-durable (Promote leg) (LegLost gone handed) leaves is = loses_in_promote-durable type old new b was_free k kn is_honest inside leg is.0.1
    step-durable (Promote leg) (Refused cause handed) leaves is = same is.2
    step-durable (Sync leg) Synced leaves is = synchronizes-durable type old new b was_free k is_honest inside leg is
    step-durable (Sync leg) (LegLost gone handed) leaves is = loses_in_sync-durable type old new b was_free k kn is_honest inside leg is.0.1
    step-durable (Sync leg) (Refused cause handed) leaves is = sync-refused leg cause is.0
    step-durable (Flush leg) Synced leaves is = synchronizes-durable type old new b was_free k is_honest inside leg is
    step-durable (Flush leg) (LegLost gone handed) leaves is = loses_in_flush-durable type old new b was_free k kn is_honest inside leg is.0.1
    step-durable (Flush leg) (Refused cause handed) leaves is = sync-refused leg cause is.0
    step-durable step answer leaves is = absurd is

    -- a sync that is refused as AlreadyOut changes nothing, and its leg is out
    refused-out : (leg : ℕ) → RefusesSync type old new leg AlreadyOut → DurableAt type.model new leg b
    refused-out leg (SyncCause cause is) =
        let out : leg_state leg old ≡ Out = out-state (leg_state leg old) (out-bits old.stopped (is_out (leg_state leg old)) cause) in
        out-durable type new leg b (ap (λ (s : StripeState L). leg_state leg s) is ∙ out)
    refused-out leg (SyncFault is fails) = absurd (let clash : AlreadyOut ≡ Fault = is in cc)

    -- a step that synced the leg makes durable what it holds
    pub step-makes : (step : Step L) (answer : Answer L) (j : ℕ) → SyncsLeg j step answer → StepOf type step answer old new → DurableAt type.model new j b
    step-makes (Sync leg) Synced j synced is = subst (λ (i : ℕ). DurableAt type.model new i b) synced (synchronizes-makes type old new b was_free k is_honest inside leg is)
    step-makes (Sync leg) (LegLost gone handed) j synced is = subst (λ (i : ℕ). DurableAt type.model new i b) synced (loses_in_sync-makes type old new b was_free k kn is_honest inside leg is.0.1)
    step-makes (Sync leg) (Refused AlreadyOut handed) j synced is = subst (λ (i : ℕ). DurableAt type.model new i b) synced (refused-out leg is.0)
    step-makes (Flush leg) Synced j synced is = subst (λ (i : ℕ). DurableAt type.model new i b) synced (synchronizes-makes type old new b was_free k is_honest inside leg is)
    step-makes (Flush leg) (LegLost gone handed) j synced is = subst (λ (i : ℕ). DurableAt type.model new i b) synced (loses_in_flush-makes type old new b was_free k kn is_honest inside leg is.0.1)
    step-makes (Flush leg) (Refused AlreadyOut handed) j synced is = subst (λ (i : ℕ). DurableAt type.model new i b) synced (refused-out leg is.0)
    step-makes step answer j synced is = absurd synced

module _ {L : Type 0} (type : LegType L) (b j : ℕ) (is_honest : IsTrue type.honest) where
  -- one step more of a list: what is known of the stripe after it
  record Behind (step : Step L) (answer : Answer L) (steps : List (Step L)) (old mid : StripeState L) : Type 0 where
    keeps : Keeps type mid
    asked : AllAsked type.model mid steps
    inside : b < mid.place.blocks
    durable : KeepsDurable type.model b old mid

  behind : (step : Step L) (answer : Answer L) (steps : List (Step L)) (old mid : StripeState L) → busy_on b old.records ≡ None → Keeps type old → b < old.place.blocks
      → AllAsked type.model old (step ∷ steps) → LeavesBlock b step answer → StepOf type step answer old mid → Behind step answer steps old mid
  behind step answer steps old mid free k inside asked leaves is =
      let shape = step-shape type step answer old mid is in
      let kn = step-keeps type step answer old mid k asked.0 is in
      record {
        keeps = kn;
        asked = all_asked-later type.model steps old mid shape asked.1;
        inside = rw shape.place inside;
        durable = step-durable type old mid b free k kn is_honest inside step answer leaves is;
      }

  -- what a leg holds durably stays over all of the steps
  runs-durable : (steps : List (Step L)) (answers : List (Answer L)) (old new : StripeState L) → busy_on b old.records ≡ None → Keeps type old → b < old.place.blocks
      → AllAsked type.model old steps → NoneBegins b steps answers → Runs type old steps answers new → DurableAt type.model old j b → DurableAt type.model new j b
  runs-durable [] [] old new free k inside asked leaves runs held = subst (λ (s : StripeState L). DurableAt type.model s j b) (sym runs) held
  runs-durable (step ∷ steps) (answer ∷ answers) old new free k inside asked leaves runs held =
      let on = behind step answer steps old runs.0 free k inside asked leaves.0 runs.1 in
      runs-durable steps answers runs.0 new on.durable.free on.keeps on.inside on.asked leaves.1 runs.2 (on.durable.durable j held)
  runs-durable [] (answer ∷ answers) old new free k inside asked leaves runs held = absurd runs
  runs-durable (step ∷ steps) [] old new free k inside asked leaves runs held = absurd runs

  -- and is made so by a sync among them
  runs-synced : (steps : List (Step L)) (answers : List (Answer L)) (old new : StripeState L) → busy_on b old.records ≡ None → Keeps type old → b < old.place.blocks
      → AllAsked type.model old steps → NoneBegins b steps answers → Runs type old steps answers new → HasSynced j steps answers → DurableAt type.model new j b
  runs-synced (step ∷ steps) (answer ∷ answers) old new free k inside asked leaves runs synced =
      let on = behind step answer steps old runs.0 free k inside asked leaves.0 runs.1 in
      ⊎_elim
      (λ now. runs-durable steps answers runs.0 new on.durable.free on.keeps on.inside on.asked leaves.1 runs.2 (step-makes type old runs.0 b free k on.keeps is_honest inside step answer j now runs.1))
      (λ later. runs-synced steps answers runs.0 new on.durable.free on.keeps on.inside on.asked leaves.1 runs.2 later)
      synced
  runs-synced [] answers old new free k inside asked leaves runs synced = absurd synced
  runs-synced (step ∷ steps) [] old new free k inside asked leaves runs synced = absurd synced

-- over all of the steps
runs-end : {L : Type 0} (type : LegType L) (steps : List (Step L)) (answers : List (Answer L)) (old new : StripeState L) → Keeps type old → AllAsked type.model old steps → Runs type old steps answers new → Keeps type new × (length new.legs ≡ length old.legs)
runs-end type [] [] old new k asked runs = (subst (λ (s : StripeState _). Keeps type s) (sym runs) k, ap (λ (s : StripeState _). length s.legs) runs)
runs-end type (step ∷ steps) (answer ∷ answers) old new k asked runs =
    let shape = step-shape type step answer old runs.0 runs.1 in
    let more = runs-end type steps answers runs.0 new (step-keeps type step answer old runs.0 k asked.0 runs.1) (all_asked-later type.model steps old runs.0 shape asked.1) runs.2 in
    (more.0, more.1 ∙ shape.legs)
runs-end type [] (answer ∷ answers) old new k asked runs = absurd runs
runs-end type (step ∷ steps) [] old new k asked runs = absurd runs

-- a leg that is in sync after a flush is one that the flush has synced
pub runs-flushed : {L : Type 0} (type : LegType L) (steps : List (Step L)) (answers : List (Answer L)) (old new : StripeState L) → Keeps type old → AllAsked type.model old steps → Runs type old steps answers new
    → IsTrue type.honest → Flushes type.model steps answers old new
runs-flushed type steps answers old new k asked runs is_honest flush leg block inside free leaves in_sync =
    let end = runs-end type steps answers old new k asked runs in
    let there : leg < length old.legs = omega (arith, end.1, in_sync_inside type.model new end.0.legs leg in_sync) in
    runs-synced type block leg is_honest steps answers old new free k inside asked leaves runs (flush leg there) in_sync
