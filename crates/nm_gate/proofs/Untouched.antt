-- Blocks that no record of a write is of: only a claim takes a record away.
use Rattle.std.proofs.Common.{◌≡◌, ◌≢◌, ⊎_elim, ℕ, ◌+◌, ◌==◌, ◌&&◌, true, false, List, [], ◌∷◌, ◌++◌, length, None, Some, is_none, refl, ap, ◌∙◌, subst, cond}
use Rattle.nm_fanout.specs.declared.block_data.Data.{Data}
use Rattle.nm_fanout.specs.declared.block_data.Data.TheVariants.{Cut, Zero, Part, ZeroPart}
use Rattle.nm_fanout.specs.declared.write_record.Record.{Record}
use Rattle.nm_fanout.specs.Record.{is_under_way, with_entry, without_leg}
use Rattle.nm_fanout.specs.Records.{busy_on, changed, landed, landed_all, left_by, reached}
use Rattle.nm_leg.specs.Leg.{LegType}
use Rattle.nm_rules.specs.declared.refusal.Refusal.{Refusal}
use Rattle.nm_rules.specs.Copy.{chunk_copied}
use Rattle.nm_rules.specs.Lost.{failed_over, lost, lost_all, settled, without_leg_of}
use Rattle.nm_rules.specs.RunCopy.{after_copy_write_run, next_blocks}
use Rattle.nm_rules.specs.RunPush.{after_push_run, land_each, reach_each, run_landed, run_lands, run_reached}
use Rattle.nm_rules.specs.Runs.{of_run}
use Rattle.nm_rules.specs.State.{Chunk, StripeState, next_number, table, with_table}
use Rattle.nm_store.specs.Copying.{MovesRun}
use Rattle.nm_stripe.specs.declared.answer.Answer.{Answer}
use Rattle.nm_stripe.specs.declared.answer.Answer.TheVariants.{Begun, Pushed, Complete, Halted, Value, Failed, MasterChanged, Joining, Copied, InSync, Synced, LegLost, Refused}
use Rattle.nm_stripe.specs.declared.answer.Answer.TheVariants.{Nothing as NothingLeft}
use Rattle.nm_stripe.specs.declared.step.Step.{Step}
use Rattle.nm_stripe.specs.declared.step.Step.TheVariants.{Begin, Push, Claim, Read, Fail, Attach, Return, Replace, Copy, Promote, Sync, Flush}
use Rattle.nm_stripe.specs.Begin.{BeginsWith, RefusesBegin, ForCause as BeginCause, ForFault as BeginFault}
use Rattle.nm_stripe.specs.Copy.{RefusesCopy, ForCause as CopyCause, ForFault as CopyFault}
use Rattle.nm_stripe.specs.Read.{RefusesRead, ForCause as ReadCause, ForFault as ReadFault}
use Rattle.nm_stripe.specs.Run.{NoneHalted, StepOf}
use Rattle.nm_stripe.specs.Sync.{RefusesSync, ForCause as SyncCause, ForFault as SyncFault}
use Rattle.nm_rules.proofs.RecordLemmas.{same}
use Rattle.nm_gate.specs.Held.{NoneOn}

-- so no write is under way there
pub none-busy : (b : ℕ) (rs : List Record) → NoneOn b rs → busy_on b rs ≡ None
none-busy b [] none = refl
none-busy b (r ∷ rs) none =
    (elim (r.block == b) as (λ v. (r.block == b) ≡ v → cond (v && is_under_way r) (Some r) (busy_on b rs) ≡ None) [
      | true ↦ λ is. absurd (none.0 (same r.block b is))
      | false ↦ λ is. none-busy b rs none.1
    ]) refl

-- a change that keeps the blocks
none-changed : (f : Record → Record) → ((r : Record) → (f r).block ≡ r.block) → (b t : ℕ) (rs : List Record) → NoneOn b (changed f t rs) → NoneOn b rs
none-changed f keeps b t [] none = tt
none-changed f keeps b t (r ∷ rs) none =
    (elim (r.ticket == t) as (λ v. NoneOn b (cond v (f r) r ∷ changed f t rs) → NoneOn b (r ∷ rs)) [
      | true ↦ λ n. (λ e. n.0 (keeps r ∙ e), none-changed f keeps b t rs n.1)
      | false ↦ λ n. (n.0, none-changed f keeps b t rs n.1)
    ]) none

none-left_by : (leg b : ℕ) (rs : List Record) → NoneOn b (left_by leg rs) → NoneOn b rs
none-left_by leg b [] none = tt
none-left_by leg b (r ∷ rs) none = (none.0, none-left_by leg b rs none.1)

none-landed_all : (next b : ℕ) (rs : List Record) → NoneOn b (landed_all next rs) → NoneOn b rs
none-landed_all next b [] none = tt
none-landed_all next b (r ∷ rs) none =
    (elim (is_none r.entry) as (λ v. NoneOn b (cond v (with_entry next r ∷ landed_all (next + 1) rs) (r ∷ landed_all next rs)) → NoneOn b (r ∷ rs)) [
      | true ↦ λ n. (n.0, none-landed_all (next + 1) b rs n.1)
      | false ↦ λ n. (n.0, none-landed_all next b rs n.1)
    ]) none

none-front : (b : ℕ) (rs ys : List Record) → NoneOn b (rs ++ ys) → NoneOn b rs
none-front b [] ys none = tt
none-front b (r ∷ rs) ys none = (none.0, none-front b rs ys none.1)

none-reached : (b t leg : ℕ) (rs : List Record) → NoneOn b (reached t leg rs) → NoneOn b rs
none-reached b t leg rs none = none-changed (without_leg leg) (λ r. refl) b t rs none

none-landed : (b t next : ℕ) (rs : List Record) → NoneOn b (landed t next rs) → NoneOn b rs
none-landed b t next rs none = none-changed (with_entry next) (λ r. refl) b t rs none

none-reach_each : (leg b : ℕ) (rs records : List Record) → NoneOn b (reach_each leg rs records) → NoneOn b records
none-reach_each leg b [] records none = none
none-reach_each leg b (r ∷ rs) records none = none-reached b r.ticket leg records (none-reach_each leg b rs (reached r.ticket leg records) none)

none-land_each : (leg b next : ℕ) (rs records : List Record) → NoneOn b (land_each leg next rs records) → NoneOn b records
none-land_each leg b next [] records none = none
none-land_each leg b next (r ∷ rs) records none =
    none-reached b r.ticket leg records
    (none-landed b r.ticket next (reached r.ticket leg records) (none-land_each leg b (next + 1) rs (landed r.ticket next (reached r.ticket leg records)) none))

module _ {L : Type 0} (b : ℕ) where
  none-push : (old : StripeState L) (legs : List L) (rs : List Record) (leg : ℕ) → NoneOn b (after_push_run old legs rs leg).records → NoneOn b old.records
  none-push old legs rs leg none =
      (elim (run_lands leg rs old) as (λ v. NoneOn b (cond v (run_landed old legs rs leg) (run_reached old legs rs leg)).records → NoneOn b old.records) [
        | true ↦ λ n. none-land_each leg b (next_number old) rs old.records n
        | false ↦ λ n. none-reach_each leg b rs old.records n
      ]) none

  none-lost : (leg : ℕ) (old : StripeState L) → NoneOn b (lost leg old).records → NoneOn b old.records
  none-lost leg old none =
      (elim (leg == old.master) as (λ v. NoneOn b (settled (cond v (failed_over (without_leg_of leg old)) (without_leg_of leg old))).records → NoneOn b old.records) [
        | true ↦ λ n. none-left_by leg b old.records (none-landed_all (next_number old) b (left_by leg old.records) n)
        | false ↦ λ n. none-left_by leg b old.records n
      ]) none

  none-written : (old : StripeState L) (legs : List L) (chunk : Chunk) (count : ℕ) → NoneOn b (after_copy_write_run old legs chunk count).records → NoneOn b old.records
  none-written old legs chunk count none =
      (elim (chunk.written + count == chunk.length) as (λ v. NoneOn b (cond v (let s : StripeState L = record (with_table (chunk_copied chunk.length (table old)) old) { legs = legs; chunk = None } in s)
      (let s : StripeState L = record old { legs = legs; chunk = Some (record chunk { written = chunk.written + count }) } in s)).records → NoneOn b old.records) [
        | true ↦ λ n. n
        | false ↦ λ n. n
      ]) none

module _ {L : Type 0} (type : LegType L) (old new : StripeState L) (b : ℕ) (none : NoneOn b new.records) where
  as-was : new.records ≡ old.records → NoneOn b old.records
  as-was is = subst (λ (rs : List Record). NoneOn b rs) is none

  stays : new ≡ old → NoneOn b old.records
  stays is = as-was (ap (λ (s : StripeState L). s.records) is)

  lost-was : (leg : ℕ) (legs : List L) → new ≡ lost leg (record old { legs = legs }) → NoneOn b old.records
  lost-was leg legs is = none-lost b leg (record old { legs = legs }) (subst (λ (s : StripeState L). NoneOn b s.records) is none)

  lost_all-was : (leg : ℕ) → new ≡ lost_all leg (record old { legs = new.legs }) → NoneOn b old.records
  lost_all-was leg is = none-lost b leg (record old { legs = new.legs }) (subst (λ (s : StripeState L). NoneOn b s.records) is none)

  begin-refused : (block : ℕ) (bytes : Data) (given : Refusal) → RefusesBegin type old new block bytes given → NoneOn b old.records
  begin-refused block bytes given (BeginCause cause is) = stays is
  begin-refused block bytes given (BeginFault is fails) = as-was (ap (λ (s : StripeState L). s.records) fails.after)

  read-refused : (block : ℕ) (was bytes : List ℕ) (given : Refusal) → RefusesRead type old new block was bytes given → NoneOn b old.records
  read-refused block was bytes given (ReadCause cause is same) = stays is
  read-refused block was bytes given (ReadFault is fails) = as-was (ap (λ (s : StripeState L). s.records) fails.after)

  copy-refused : (leg most from : ℕ) (given : Refusal) → RefusesCopy type old new leg most from given → NoneOn b old.records
  copy-refused leg most from given (CopyCause cause is) = stays is
  copy-refused leg most from given (CopyFault is fails) = as-was (ap (λ (s : StripeState L). s.records) fails.after)

  sync-refused : (leg : ℕ) (given : Refusal) → RefusesSync type old new leg given → NoneOn b old.records
  sync-refused leg given (SyncCause cause is) = stays is
  sync-refused leg given (SyncFault is fails) = as-was (ap (λ (s : StripeState L). s.records) fails.after)

  copied : (leg most from moved : ℕ) → MovesRun type old new leg most from moved → NoneOn b old.records
  copied leg most from moved moves = ⊎_elim
      (λ read. as-was (ap (λ (s : StripeState L). s.records) read.reads.after))
      (λ write.
      let w = write.writes in
      none-written b old new.legs w.chunk (length (next_blocks most w.chunk)) (subst (λ (s : StripeState L). NoneOn b s.records) w.after none))
      moves

  begins : (block : ℕ) (bytes : Data) (ticket : ℕ) → BeginsWith type old new block bytes ticket → NoneOn b old.records
  begins block (Cut cut) ticket c = none-front b old.records _ (subst (λ (s : StripeState L). NoneOn b s.records) c.after none)
  begins block (Zero count) ticket c = none-front b old.records _ (subst (λ (s : StripeState L). NoneOn b s.records) c.after none)
  begins block (Part from bytes) ticket c = none-front b old.records _ (subst (λ (s : StripeState L). NoneOn b s.records) c.after none)
  begins block (ZeroPart from len) ticket c = none-front b old.records _ (subst (λ (s : StripeState L). NoneOn b s.records) c.after none)

  pushed : (ticket leg : ℕ) → new ≡ after_push_run old new.legs (of_run ticket old.records) leg → NoneOn b old.records
  pushed ticket leg is = none-push b old new.legs (of_run ticket old.records) leg (subst (λ (s : StripeState L). NoneOn b s.records) is none)

  pub step-none : (step : Step L) (answer : Answer L) → ((ticket : ℕ) → step ≢ Claim ticket) → NoneHalted (answer ∷ []) → StepOf type step answer old new → NoneOn b old.records
  step-none (Begin block bytes) (Begun ticket) other goes is = begins block bytes ticket is
  step-none (Begin block bytes) (LegLost gone handed) other goes is = lost-was old.master new.legs is.0.after
  step-none (Begin block bytes) (Refused cause handed) other goes is = begin-refused block bytes cause is.0
  step-none (Push ticket leg) (Pushed count) other goes is = pushed ticket leg is.0.after
  step-none (Push ticket leg) (Complete number) other goes is = pushed ticket leg is.0.after
  step-none (Push ticket leg) (LegLost gone handed) other goes is = lost-was leg new.legs is.0.1.after
  step-none (Push ticket leg) Halted other goes is = absurd goes
  step-none (Push ticket leg) (Refused cause handed) other goes is = stays is.2
  step-none (Claim ticket) answer other goes is = absurd (other ticket refl)
  step-none (Read block room) (Value value) other goes is = as-was (ap (λ (s : StripeState L). s.records) is.0.after)
  step-none (Read block room) (LegLost gone handed) other goes is = lost-was gone new.legs is.1.after
  step-none (Read block room) (Refused cause handed) other goes is = read-refused block room is.0 cause is.1
  step-none (Fail leg) Failed other goes is = lost-was leg old.legs is.0.after
  step-none (Fail leg) (MasterChanged master) other goes is = lost-was leg old.legs is.0.after
  step-none (Fail leg) (Refused cause handed) other goes is = stays is.2
  step-none (Attach leg) (Joining blocks) other goes is = as-was (ap (λ (s : StripeState L). s.records) is.0.after)
  step-none (Return leg marks) (Joining blocks) other goes is = as-was (ap (λ (s : StripeState L). s.records) is.0.after)
  step-none (Attach leg) (Refused cause handed) other goes is = stays is.2
  step-none (Return leg marks) (Refused cause handed) other goes is = stays is.2
  step-none (Replace leg part) (Joining blocks) other goes is = as-was (ap (λ (s : StripeState L). s.records) is.0.after)
  step-none (Replace leg part) (Refused cause handed) other goes is = stays is.2
  step-none (Copy leg most from) (Copied moved blocks) other goes is = copied leg most from moved is.0
  step-none (Copy leg most from) NothingLeft other goes is = stays is.1
  step-none (Copy leg most from) (LegLost gone handed) other goes is = lost-was gone new.legs is.0.after
  step-none (Copy leg most from) (Refused cause handed) other goes is = copy-refused leg most from cause is.0
  step-none (Promote leg) InSync other goes is = as-was (ap (λ (s : StripeState L). s.records) is.after)
  step-none (Promote leg) (LegLost gone handed) other goes is = lost_all-was leg is.0.1.after
  step-none (Promote leg) (Refused cause handed) other goes is = stays is.2
  step-none (Sync leg) Synced other goes is = as-was (ap (λ (s : StripeState L). s.records) is.after)
  step-none (Sync leg) (LegLost gone handed) other goes is = lost_all-was leg is.0.1.after
  step-none (Sync leg) (Refused cause handed) other goes is = sync-refused leg cause is.0
  step-none (Flush leg) Synced other goes is = as-was (ap (λ (s : StripeState L). s.records) is.after)
  step-none (Flush leg) (LegLost gone handed) other goes is = lost-was leg new.legs is.0.1.after
  step-none (Flush leg) (Refused cause handed) other goes is = sync-refused leg cause is.0
  step-none step answer other goes is = absurd is
