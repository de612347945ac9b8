-- A leg that joins and stays joining: each step that copies to it is one leg call fewer to make, and no other step changes how many there are.
use Rattle.std.proofs.Common.{◌≡◌, ◌≢◌, ⊎_elim, ℕ, ◌+◌, ◌*◌, ◌-◌, ◌<◌, ◌≤◌, ◌==◌, length, cond, true, false, inl, inr, None, Some, slice_set, List, [], ◌∷◌, get_or, refl, sym, ap, ◌∙◌, subst, arith}
use Rattle.std.proofs.lemmas.Bool.Decides.{eqb_tells}
use Rattle.nm_choice.specs.declared.leg_state.LegState.{LegState}
use Rattle.nm_choice.specs.declared.leg_state.LegState.TheVariants as state
use Rattle.nm_choice.specs.declared.leg_state.LegState.TheVariants.{Out}
use Rattle.nm_fanout.specs.declared.block_data.Data.{Data}
use Rattle.nm_fanout.specs.declared.write_record.Record.{Record}
use Rattle.nm_leg.specs.Leg.{LegType, block_of, blocks_of}
use Rattle.nm_rules.specs.declared.refusal.Refusal.{Refusal}
use Rattle.nm_rules.specs.Attach.{attach_cause}
use Rattle.nm_rules.specs.Copy.{chunk_copied}
use Rattle.nm_rules.specs.Invariant.{Keeps}
use Rattle.nm_rules.specs.Joining.{KeepsWork}
use Rattle.nm_rules.specs.Lost.{lost, lost_all}
use Rattle.nm_rules.specs.RunCopy.{after_copy_write_run, next_blocks}
use Rattle.nm_rules.specs.RunPush.{after_push_run, run_landed, run_lands, run_reached}
use Rattle.nm_rules.specs.Runs.{of_run}
use Rattle.nm_rules.specs.State.{Chunk, StripeState, chunk_buffered, is_out, left, leg_state, table, with_table, work}
use Rattle.nm_rules.proofs.AttachLemmas.{may_attach, set-other}
use Rattle.nm_rules.proofs.ElectLemmas.{gone-other}
use Rattle.nm_rules.proofs.JoiningEndLemmas.{nothing-behind, nothing-promotes, nothing-refused, nothing-left}
use Rattle.nm_rules.proofs.JoiningLemmas.{fields-work, lost-parts}
use Rattle.nm_rules.proofs.JoiningStepLemmas.{loses_in_begin-work, fails_in_begin-work, loses_in_read-work, fails_in_read-work, goes_out-work, attaches-work, replaces-work, returns-work}
use Rattle.nm_rules.proofs.JoiningStepLemmas.{fails_in_copy-work, promotes-work, loses_in_promote-work, synchronizes-work, loses_in_flush-work, loses_in_sync-work, fails_in_sync-work}
use Rattle.nm_rules.proofs.RunCopyLemmas.{fails_in_copy_run-one}
use Rattle.nm_rules.proofs.RunJoiningLemmas.{claims_run-work, copies_read_run-work, copies_write_run-work, loses_in_copy_run-work, finds_run-work, halts_run-work, loses_in_push_run-work, pushes_run-work}
use Rattle.nm_rules.proofs.RunReadLemmas.{fails_in_read_run-last, loses_in_read_run-last}
use Rattle.nm_store.specs.Copying.{MovesRun}
use Rattle.nm_stripe.specs.declared.answer.Answer.{Answer}
use Rattle.nm_stripe.specs.declared.answer.Answer.TheVariants.{Begun, Pushed, Complete, Halted, Written, Value, Failed, MasterChanged, Joining, Copied, InSync, Synced, LegLost, Refused}
use Rattle.nm_stripe.specs.declared.answer.Answer.TheVariants.{Nothing as NothingLeft}
use Rattle.nm_stripe.specs.declared.step.Step.{Step}
use Rattle.nm_stripe.specs.declared.step.Step.TheVariants.{Begin, Push, Claim, Read, Fail, Attach, Return, Replace, Copy, Promote, Sync, Flush}
use Rattle.nm_stripe.specs.Bound.{copies, copied_count, StaysBehind, StaysJoining, IsBounded, IsCopied}
use Rattle.nm_stripe.specs.Begin.{RefusesBegin, ForCause as BeginCause, ForFault as BeginFault}
use Rattle.nm_stripe.specs.Copy.{RefusesCopy, ForCause as CopyCause, ForFault as CopyFault}
use Rattle.nm_stripe.specs.Read.{RefusesRead, ForCause as ReadCause, ForFault as ReadFault}
use Rattle.nm_stripe.specs.Run.{StepOf, AllAsked, MayBeAsked, Runs}
use Rattle.nm_stripe.specs.Sync.{RefusesSync, ForCause as SyncCause, ForFault as SyncFault}
use Rattle.nm_stripe.proofs.BegunLemmas.{begun-states, begun-work}
use Rattle.nm_stripe.proofs.CopyLemmas.{moved-run}
use Rattle.nm_stripe.proofs.RunLemmas.{step-shape, all_asked-later}
use Rattle.nm_stripe.proofs.StepLemmas.{step-keeps}

-- nothing is left to copy to a joining leg
pub copied-is : {L : Type 0} (type : LegType L) (s : StripeState L) (leg : ℕ) → Keeps type s → left leg s ≡ 0 → leg_state leg s ≡ state.Joining → IsCopied leg s
copied-is type s leg k none joins = record {
  nowhere = nothing-behind type s leg k joins none;
  promotes = λ runs. nothing-promotes type s leg k joins none runs;
  refused = λ from refusal is. nothing-refused type s leg refusal k joins none is;
  nothing = λ from runs steady. nothing-left type s leg k joins none runs steady;
}

-- a push changes no leg's state, nor does a step of a copy
push-states : {L : Type 0} (old : StripeState L) (legs : List L) (rs : List Record) (leg : ℕ) → (after_push_run old legs rs leg).states ≡ old.states
push-states old legs rs leg =
    elim (run_lands leg rs old) as (λ b. (cond b (run_landed old legs rs leg) (run_reached old legs rs leg)).states ≡ old.states) [ true ↦ refl | false ↦ refl ]

written-states : {L : Type 0} (old : StripeState L) (legs : List L) (chunk : Chunk) (count : ℕ) → (after_copy_write_run old legs chunk count).states ≡ old.states
written-states old legs chunk count =
    elim (chunk.written + count == chunk.length) as (λ b. (cond b (let s : StripeState _ = record (with_table (chunk_copied chunk.length (table old)) old) { legs = legs; chunk = None } in s)
    (let s : StripeState _ = record old { legs = legs; chunk = Some (record chunk { written = chunk.written + count }) } in s)).states ≡ old.states) [ true ↦ refl | false ↦ refl ]

module _ {L : Type 0} (type : LegType L) (old new : StripeState L) (j : ℕ) (joined : leg_state j old ≡ state.Joining) where
  -- the leg joins where its state is as it was
  still : new.states ≡ old.states → leg_state j new ≡ state.Joining
  still states = ap (λ (xs : List LegState). get_or xs j Out) states ∙ joined

  -- or where another went out
  still-lost : (legs : List L) (gone : ℕ) → gone ≢ j → new ≡ lost gone (record old { legs = legs }) → leg_state j new ≡ state.Joining
  still-lost legs gone ne after =
      ap (λ (s : StripeState L). leg_state j s) after ∙ ap (λ (xs : List LegState). get_or xs j Out) (lost-parts gone (record old { legs = legs })).states ∙ gone-other old.states gone j (λ e. ne (sym e)) ∙ joined

  still-lost_all : (gone : ℕ) → gone ≢ j → new ≡ lost_all gone (record old { legs = new.legs }) → leg_state j new ≡ state.Joining
  still-lost_all gone ne after =
      ap (λ (s : StripeState L). leg_state j s) after ∙ ap (λ (xs : List LegState). get_or xs j Out) (lost-parts gone (record old { legs = new.legs })).states ∙ gone-other old.states gone j (λ e. ne (sym e)) ∙ joined

  -- a leg that may be attached is another one
  attached-ne : (leg : ℕ) → attach_cause old leg ≡ None → j ≢ leg
  attached-ne leg none e =
      let out : is_out (leg_state j old) ≡ true = subst (λ (i : ℕ). is_out (leg_state i old) ≡ true) (sym e) (may_attach old leg none).out in
      let attached : is_out (leg_state j old) ≡ false = ap (λ (s : LegState). is_out s) joined in
      let clash : true ≡ false = sym out ∙ attached in
      cc

  still-set : (leg : ℕ) (to : LegState) → j ≢ leg → new.states ≡ slice_set old.states leg to → leg_state j new ≡ state.Joining
  still-set leg to ne states = ap (λ (xs : List LegState). get_or xs j Out) states ∙ set-other old.states leg j to Out ne ∙ joined

  -- a step that copies nothing to the leg
  uncounted : KeepsWork j old new → work j new + 0 ≡ work j old
  uncounted w = plus-none (work j new) (work j old) w.work_same
    where
      plus-none : (a b : ℕ) → a ≡ b → a + 0 ≡ b
      plus-none a b e = omega (arith, e)

  same-states : new ≡ old → leg_state j new ≡ state.Joining
  same-states is = ap (λ (s : StripeState L). leg_state j s) is ∙ joined

  same-work : new ≡ old → KeepsWork j old new
  same-work is = fields-work j old new (ap (λ (s : StripeState L). s.place) is) (ap (λ (s : StripeState L). s.flags) is) (ap (λ (s : StripeState L). s.copy) is) (ap (λ (s : StripeState L). s.chunk) is)

  begin-refused : (block : ℕ) (bytes : Data) (given : Refusal) → RefusesBegin type old new block bytes given → (leg_state j new ≡ state.Joining) × KeepsWork j old new
  begin-refused block bytes given (BeginCause cause is) = (same-states is, same-work is)
  begin-refused block bytes given (BeginFault is fails) = (ap (λ (s : StripeState L). leg_state j s) fails.after ∙ joined, fails_in_begin-work j old new type block bytes fails)

  read-refused : (block : ℕ) (was bytes : List ℕ) (given : Refusal) → RefusesRead type old new block was bytes given → (leg_state j new ≡ state.Joining) × KeepsWork j old new
  read-refused block was bytes given (ReadCause cause is stays) = (same-states is, same-work is)
  read-refused block was bytes given (ReadFault is fails) =
      (ap (λ (s : StripeState L). leg_state j s) fails.after ∙ joined, fails_in_read-work j old new type _ (block_of []) (fails_in_read_run-last type old new block (blocks_of bytes) fails))

  copy-refused : (leg most from : ℕ) (given : Refusal) → Keeps type old → RefusesCopy type old new leg most from given → (leg_state j new ≡ state.Joining) × KeepsWork j old new
  copy-refused leg most from given k (CopyCause cause is) = (same-states is, same-work is)
  copy-refused leg most from given k (CopyFault is fails) =
      (ap (λ (s : StripeState L). leg_state j s) fails.after ∙ joined, fails_in_copy-work j old new type leg (fails_in_copy_run-one type old new leg most k fails))

  sync-refused : (leg : ℕ) (given : Refusal) → RefusesSync type old new leg given → (leg_state j new ≡ state.Joining) × KeepsWork j old new
  sync-refused leg given (SyncCause cause is) = (same-states is, same-work is)
  sync-refused leg given (SyncFault is fails) = (ap (λ (s : StripeState L). leg_state j s) fails.after ∙ joined, fails_in_sync-work j old new type leg fails)

  -- a step of a copy, of this leg or another
  copied-states : (leg most from moved : ℕ) → MovesRun type old new leg most from moved → leg_state j new ≡ state.Joining
  copied-states leg most from moved moves = ⊎_elim
      (λ read. ap (λ (s : StripeState L). leg_state j s) read.reads.after ∙ joined)
      (λ write. still (ap (λ (s : StripeState L). s.states) write.writes.after ∙ written-states old new.legs write.writes.chunk (length (next_blocks most write.writes.chunk))))
      moves

  copied-less : (most from moved : ℕ) → Keeps type old → 0 < most → MovesRun type old new j most from moved → work j new + moved ≡ work j old
  copied-less most from moved k some moves = (moved-run type old new j most from k some moved moves).work_less

  copied-work : (leg most from moved : ℕ) → Keeps type old → j ≢ leg → MovesRun type old new leg most from moved → KeepsWork j old new
  copied-work leg most from moved k ne moves = ⊎_elim (λ read. copies_read_run-work type old new j leg most k ne read.reads) (λ write. copies_write_run-work type old new j leg most ne write.writes) moves

  copied-counts : (leg most from moved : ℕ) → Keeps type old → 0 < most → MovesRun type old new leg most from moved → work j new + cond (leg == j) moved 0 ≡ work j old
  copied-counts leg most from moved k some moves =
      elim (eqb_tells leg j) [
        | inl w ↦ rw w.0 (copied-less most from moved k some (subst (λ (i : ℕ). MovesRun type old new i most from moved) w.1 moves))
        | inr w ↦ rw w.0 (uncounted (copied-work leg most from moved k (λ e. w.1 (sym e)) moves))
      ]

  -- a step that is not counted
  quiet : (leg_state j new ≡ state.Joining) × KeepsWork j old new → (leg_state j new ≡ state.Joining) × (work j new + 0 ≡ work j old)
  quiet both = (both.0, uncounted both.1)

  lost-quiet : (leg_state j new ≡ state.Joining) → ((leg_state j new ≡ state.Joining) → KeepsWork j old new) → (leg_state j new ≡ state.Joining) × (work j new + 0 ≡ work j old)
  lost-quiet joins kept = (joins, uncounted (kept joins))

  pub steps-bound : (step : Step L) (answer : Answer L) → Keeps type old → MayBeAsked type.model old step → StaysBehind j step answer → StepOf type step answer old new → (leg_state j new ≡ state.Joining) × (work j new + copies j step answer ≡ work j old)
  steps-bound (Begin block bytes) (Begun ticket) k asked stays is = quiet (still (begun-states type old new block ticket bytes is), begun-work type old new block ticket j bytes k joined is)
  steps-bound (Begin block bytes) (LegLost gone handed) k asked stays is =
      lost-quiet (still-lost new.legs old.master (λ e. stays (is.0.names ∙ e)) is.0.after) (λ joins. loses_in_begin-work j old new type block bytes gone joins is.0)
  steps-bound (Begin block bytes) (Refused cause handed) k asked stays is = quiet (begin-refused block bytes cause is.0)
  steps-bound (Push ticket leg) (Pushed count) k asked stays is = quiet (still (ap (λ (s : StripeState L). s.states) is.0.after ∙ push-states old new.legs (of_run ticket old.records) leg), pushes_run-work type old new j ticket leg is.0)
  steps-bound (Push ticket leg) (Complete number) k asked stays is = quiet (still (ap (λ (s : StripeState L). s.states) is.0.after ∙ push-states old new.legs (of_run ticket old.records) leg), pushes_run-work type old new j ticket leg is.0)
  steps-bound (Push ticket leg) (LegLost gone handed) k asked stays is =
      lost-quiet (still-lost new.legs leg (λ e. stays (is.0.0 ∙ e)) is.0.1.after) (λ joins. loses_in_push_run-work type old new j ticket leg joins is.0.1)
  steps-bound (Push ticket leg) Halted k asked stays is = quiet (ap (λ (s : StripeState L). leg_state j s) is.after ∙ joined, halts_run-work type old new j ticket leg is)
  steps-bound (Push ticket leg) (Refused cause handed) k asked stays is = quiet (same-states is.2, same-work is.2)
  steps-bound (Claim ticket) (Written written) k asked stays is = quiet (ap (λ (s : StripeState L). leg_state j s) is.after ∙ joined, claims_run-work type old new j ticket written is)
  steps-bound (Claim ticket) (Refused cause handed) k asked stays is = quiet (same-states is.2, same-work is.2)
  steps-bound (Read block room) (Value value) k asked stays is = quiet (ap (λ (s : StripeState L). leg_state j s) is.0.after ∙ joined, finds_run-work type old new j block (blocks_of value.bytes) value.names is.0)
  steps-bound (Read block room) (LegLost gone handed) k asked stays is =
      lost-quiet (still-lost new.legs gone stays is.1.after) (λ joins. loses_in_read-work j old new type _ gone (block_of []) joins (loses_in_read_run-last type old new block (blocks_of is.0) gone is.1))
  steps-bound (Read block room) (Refused cause handed) k asked stays is = quiet (read-refused block room is.0 cause is.1)
  steps-bound (Fail leg) Failed k asked stays is = lost-quiet (still-lost old.legs leg stays is.0.after) (λ joins. goes_out-work j old new leg joins is.0)
  steps-bound (Fail leg) (MasterChanged master) k asked stays is = lost-quiet (still-lost old.legs leg stays is.0.after) (λ joins. goes_out-work j old new leg joins is.0)
  steps-bound (Fail leg) (Refused cause handed) k asked stays is = quiet (same-states is.2, same-work is.2)
  steps-bound (Attach leg) (Joining blocks) k asked stays is =
      quiet (still-set leg state.Joining (attached-ne leg is.0.no_cause) (ap (λ (s : StripeState L). s.states) is.0.after), attaches-work j old new leg joined is.0)
  steps-bound (Attach leg) (Refused cause handed) k asked stays is = quiet (same-states is.2, same-work is.2)
  steps-bound (Return leg marks) (Joining blocks) k asked stays is =
      quiet (still-set leg state.Joining (attached-ne leg is.0.no_cause) (ap (λ (s : StripeState L). s.states) is.0.after), returns-work j old new leg type.model marks joined is.0)
  steps-bound (Return leg marks) (Refused cause handed) k asked stays is = quiet (same-states is.2, same-work is.2)
  steps-bound (Replace leg part) (Joining blocks) k asked stays is =
      quiet (still-set leg state.Joining (attached-ne leg is.0.no_cause) (ap (λ (s : StripeState L). s.states) is.0.after), replaces-work j old new leg part joined is.0)
  steps-bound (Replace leg part) (Refused cause handed) k asked stays is = quiet (same-states is.2, same-work is.2)
  steps-bound (Copy leg most from) (Copied moved blocks) k asked stays is = (copied-states leg most from moved is.0, copied-counts leg most from moved k asked.1 is.0)
  steps-bound (Copy leg most from) NothingLeft k asked stays is = quiet (same-states is.1, same-work is.1)
  steps-bound (Copy leg most from) (LegLost gone handed) k asked stays is =
      lost-quiet (still-lost new.legs gone stays is.0.after) (λ joins. loses_in_copy_run-work type old new j leg gone most joins is.0)
  steps-bound (Copy leg most from) (Refused cause handed) k asked stays is = quiet (copy-refused leg most from cause k is.0)
  steps-bound (Promote leg) InSync k asked stays is =
      quiet (still-set leg state.InSync (λ e. stays (sym e)) (ap (λ (s : StripeState L). s.states) is.after), promotes-work j old new type leg is)
  steps-bound (Promote leg) (LegLost gone handed) k asked stays is =
      lost-quiet (still-lost_all leg (λ e. stays (is.0.0 ∙ e)) is.0.1.after) (λ joins. loses_in_promote-work j old new type leg joins is.0.1)
  steps-bound (Promote leg) (Refused cause handed) k asked stays is = quiet (same-states is.2, same-work is.2)
  steps-bound (Sync leg) Synced k asked stays is = quiet (ap (λ (s : StripeState L). leg_state j s) is.after ∙ joined, synchronizes-work j old new type leg is)
  steps-bound (Sync leg) (LegLost gone handed) k asked stays is =
      lost-quiet (still-lost_all leg (λ e. stays (is.0.0 ∙ e)) is.0.1.after) (λ joins. loses_in_sync-work j old new type leg joins is.0.1)
  steps-bound (Sync leg) (Refused cause handed) k asked stays is = quiet (sync-refused leg cause is.0)
  steps-bound (Flush leg) Synced k asked stays is = quiet (ap (λ (s : StripeState L). leg_state j s) is.after ∙ joined, synchronizes-work j old new type leg is)
  steps-bound (Flush leg) (LegLost gone handed) k asked stays is =
      lost-quiet (still-lost new.legs leg (λ e. stays (is.0.0 ∙ e)) is.0.1.after) (λ joins. loses_in_flush-work j old new type leg joins is.0.1)
  steps-bound (Flush leg) (Refused cause handed) k asked stays is = quiet (sync-refused leg cause is.0)
  steps-bound step answer k asked stays is = absurd is

-- over all of the steps
runs-counts : {L : Type 0} (type : LegType L) (j : ℕ) (steps : List (Step L)) (answers : List (Answer L)) (old new : StripeState L)
    → Keeps type old → AllAsked type.model old steps → Runs type old steps answers new → leg_state j old ≡ state.Joining → StaysJoining j steps answers
    → (leg_state j new ≡ state.Joining) × (work j new + copied_count j steps answers ≡ work j old)
runs-counts type j [] [] old new k asked runs joined stays =
    (ap (λ (s : StripeState _). leg_state j s) runs ∙ joined, plus-none (work j new) (work j old) (ap (λ (s : StripeState _). work j s) runs))
  where
    plus-none : (a b : ℕ) → a ≡ b → a + 0 ≡ b
    plus-none a b e = omega (arith, e)
runs-counts type j (step ∷ steps) (answer ∷ answers) old new k asked runs joined stays =
    let mid = runs.0 in
    let one = steps-bound type old mid j joined step answer k asked.0 stays.0 runs.1 in
    let later = all_asked-later type.model steps old mid (step-shape type step answer old mid runs.1) asked.1 in
    let more = runs-counts type j steps answers mid new (step-keeps type step answer old mid k asked.0 runs.1) later runs.2 one.0 stays.1 in
    (more.0, chain (work j new) (work j mid) (work j old) (copies j step answer) (copied_count j steps answers) one.1 more.1)
  where
    chain : (n m o a b : ℕ) → m + a ≡ o → n + b ≡ m → n + (a + b) ≡ o
    chain n m o a b one more = omega (arith, one, more)
runs-counts type j [] (answer ∷ answers) old new k asked runs joined stays = absurd runs
runs-counts type j (step ∷ steps) [] old new k asked runs joined stays = absurd runs

pub runs-bound : {L : Type 0} (type : LegType L) (steps : List (Step L)) (answers : List (Answer L)) (old new : StripeState L) (j : ℕ)
    → Keeps type old → AllAsked type.model old steps → Runs type old steps answers new → leg_state j old ≡ state.Joining → StaysJoining j steps answers → IsBounded j steps answers old new
runs-bound type steps answers old new j k asked runs joined stays =
    let both = runs-counts type j steps answers old new k asked runs joined stays in
    record { joining = both.0; counts = both.1; most = at-most (work j new) (work j old) (copied_count j steps answers) (2 * left j old) both.1 (less (2 * left j old) (chunk_buffered j old.copy old.chunk) (work j old) refl) }
  where
    at-most : (n o c most : ℕ) → n + c ≡ o → o ≤ most → c ≤ most
    at-most n o c most counts below = omega (arith, counts, below)

    less : (a b o : ℕ) → o ≡ a - b → o ≤ a
    less a b o is = omega (arith, is)
