-- Only a begin adds a record of a block.
use Rattle.std.proofs.Common.{◌≡◌, ◌≢◌, ⊎_elim, inl, inr, ℕ, ◌+◌, ◌==◌, Bool, true, false, not, List, [], ◌∷◌, ◌++◌, length, arith, None, Some, is_none, refl, sym, ap, ◌∙◌, subst, cond}
use Rattle.nm_fanout.proofs.Laying.{length-each}
use Rattle.nm_fanout.specs.declared.block_data.Data.{Data}
use Rattle.nm_fanout.specs.declared.block_data.Data.TheVariants.{Cut, Zero, Part, ZeroPart}
use Rattle.nm_fanout.specs.declared.record_data.RecordData.{RecordData}
use Rattle.nm_fanout.specs.declared.record_data.RecordData.TheVariants as kept
use Rattle.nm_fanout.specs.declared.write_record.Record.{Record}
use Rattle.nm_fanout.specs.Data.{data_blocks}
use Rattle.nm_fanout.specs.Record.{with_entry, without_leg}
use Rattle.nm_fanout.specs.RecordData.{blocks_in}
use Rattle.nm_fanout.specs.Records.{changed, landed, landed_all, left_by, reached, with_new, without, without_each}
use Rattle.nm_fanout.specs.Runs.{each_block}
use Rattle.nm_leg.specs.Leg.{IsOutside, LegType}
use Rattle.nm_rules.specs.declared.refusal.Refusal.{Refusal}
use Rattle.nm_rules.specs.Begin.{Begins}
use Rattle.nm_rules.specs.Copy.{chunk_copied}
use Rattle.nm_rules.specs.Lost.{failed_over, lost, lost_all, settled, without_leg_of}
use Rattle.nm_rules.specs.RunBegin.{BeginsRun, begun_each}
use Rattle.nm_rules.specs.RunCopy.{after_copy_write_run, next_blocks}
use Rattle.nm_rules.specs.RunPush.{after_push_run, land_each, reach_each, run_landed, run_lands, run_reached}
use Rattle.nm_rules.specs.Runs.{of_run}
use Rattle.nm_rules.specs.State.{Chunk, StripeState, next_number, table, with_table}
use Rattle.nm_store.specs.Copying.{MovesRun}
use Rattle.nm_stripe.specs.declared.answer.Answer.{Answer}
use Rattle.nm_stripe.specs.declared.answer.Answer.TheVariants.{Begun, Pushed, Complete, Halted, Written, Value, Failed, MasterChanged, Joining, Copied, InSync, Synced, LegLost, Refused}
use Rattle.nm_stripe.specs.declared.answer.Answer.TheVariants.{Nothing as NothingLeft}
use Rattle.nm_stripe.specs.declared.step.Step.{Step}
use Rattle.nm_stripe.specs.declared.step.Step.TheVariants.{Begin, Push, Claim, Read, Fail, Attach, Return, Replace, Copy, Promote, Sync, Flush}
use Rattle.nm_stripe.specs.Begin.{BeginsWith, RefusesBegin, ForCause as BeginCause, ForFault as BeginFault}
use Rattle.nm_stripe.specs.Copy.{RefusesCopy, ForCause as CopyCause, ForFault as CopyFault}
use Rattle.nm_stripe.specs.Flush.{LeavesBlock}
use Rattle.nm_stripe.specs.Read.{RefusesRead, ForCause as ReadCause, ForFault as ReadFault}
use Rattle.nm_stripe.specs.Run.{NoneHalted, StepOf}
use Rattle.nm_stripe.specs.Sync.{RefusesSync, ForCause as SyncCause, ForFault as SyncFault}
use Rattle.nm_gate.specs.Held.{NoneOn}

-- a change that keeps the blocks
still-changed : (f : Record → Record) → ((r : Record) → (f r).block ≡ r.block) → (b t : ℕ) (rs : List Record) → NoneOn b rs → NoneOn b (changed f t rs)
still-changed f keeps b t [] none = tt
still-changed f keeps b t (r ∷ rs) none =
    elim (r.ticket == t) as (λ v. NoneOn b (cond v (f r) r ∷ changed f t rs)) [
      | true ↦ (λ e. none.0 (sym (keeps r) ∙ e), still-changed f keeps b t rs none.1)
      | false ↦ (none.0, still-changed f keeps b t rs none.1)
    ]

still-left_by : (leg b : ℕ) (rs : List Record) → NoneOn b rs → NoneOn b (left_by leg rs)
still-left_by leg b [] none = tt
still-left_by leg b (r ∷ rs) none = (none.0, still-left_by leg b rs none.1)

still-landed_all : (next b : ℕ) (rs : List Record) → NoneOn b rs → NoneOn b (landed_all next rs)
still-landed_all next b [] none = tt
still-landed_all next b (r ∷ rs) none =
    elim (is_none r.entry) as (λ v. NoneOn b (cond v (with_entry next r ∷ landed_all (next + 1) rs) (r ∷ landed_all next rs))) [
      | true ↦ (none.0, still-landed_all (next + 1) b rs none.1)
      | false ↦ (none.0, still-landed_all next b rs none.1)
    ]

still-without : (t b : ℕ) (rs : List Record) → NoneOn b rs → NoneOn b (without t rs)
still-without t b [] none = tt
still-without t b (r ∷ rs) none =
    elim (r.ticket == t) as (λ v. NoneOn b (cond (not v) (r ∷ without t rs) (without t rs))) [
      | true ↦ still-without t b rs none.1
      | false ↦ (none.0, still-without t b rs none.1)
    ]

still-append : (b : ℕ) (rs qs : List Record) → NoneOn b rs → NoneOn b qs → NoneOn b (rs ++ qs)
still-append b [] qs none more = more
still-append b (r ∷ rs) qs none more = (none.0, still-append b rs qs none.1 more)

still-with_new : (b : ℕ) (rs : List Record) (r : Record) → r.block ≢ b → NoneOn b rs → NoneOn b (with_new r rs)
still-with_new b rs r other none = still-append b rs (r ∷ []) none (other, tt)

-- the records of a run that begins on other blocks
none-begun : (b run ticket block : ℕ) (owed : List Bool) (ds : List RecordData) → IsOutside block (length ds) b → NoneOn b (begun_each run ticket block owed ds)
none-begun b run ticket block owed [] out = tt
none-begun b run ticket block owed (d ∷ ds) out =
    let rest : IsOutside (block + 1) (length ds) b = ⊎_elim (λ low. inl (omega (arith, low))) (λ high. inr (omega (arith, high))) out in
    let other : block ≢ b = ⊎_elim (λ low. λ e. omega (arith, low, e)) (λ high. λ e. omega (arith, high, e)) out in
    (other, none-begun b run (ticket + 1) (block + 1) owed ds rest)

-- a block outside one block is another
other-block : (block b : ℕ) → IsOutside block 1 b → block ≢ b
other-block block b out = ⊎_elim (λ low. λ e. omega (arith, low, e)) (λ high. λ e. omega (arith, high, e)) out

still-reached : (b t leg : ℕ) (rs : List Record) → NoneOn b rs → NoneOn b (reached t leg rs)
still-reached b t leg rs none = still-changed (without_leg leg) (λ r. refl) b t rs none

still-reach_each : (leg b : ℕ) (rs records : List Record) → NoneOn b records → NoneOn b (reach_each leg rs records)
still-reach_each leg b [] records none = none
still-reach_each leg b (r ∷ rs) records none = still-reach_each leg b rs (reached r.ticket leg records) (still-reached b r.ticket leg records none)

still-land_each : (leg b next : ℕ) (rs records : List Record) → NoneOn b records → NoneOn b (land_each leg next rs records)
still-land_each leg b next [] records none = none
still-land_each leg b next (r ∷ rs) records none =
    still-land_each leg b (next + 1) rs (landed r.ticket next (reached r.ticket leg records))
    (still-changed (with_entry next) (λ q. refl) b r.ticket (reached r.ticket leg records) (still-reached b r.ticket leg records none))

still-without_each : (b : ℕ) (rs records : List Record) → NoneOn b records → NoneOn b (without_each rs records)
still-without_each b [] records none = none
still-without_each b (r ∷ rs) records none = still-without_each b rs (without r.ticket records) (still-without r.ticket b records none)

module _ {L : Type 0} (b : ℕ) where
  still-push : (old : StripeState L) (legs : List L) (rs : List Record) (leg : ℕ) → NoneOn b old.records → NoneOn b (after_push_run old legs rs leg).records
  still-push old legs rs leg none =
      elim (run_lands leg rs old) as (λ v. NoneOn b (cond v (run_landed old legs rs leg) (run_reached old legs rs leg)).records) [
        | true ↦ still-land_each leg b (next_number old) rs old.records none
        | false ↦ still-reach_each leg b rs old.records none
      ]

  still-lost : (leg : ℕ) (old : StripeState L) → NoneOn b old.records → NoneOn b (lost leg old).records
  still-lost leg old none =
      elim (leg == old.master) as (λ v. NoneOn b (settled (cond v (failed_over (without_leg_of leg old)) (without_leg_of leg old))).records) [
        | true ↦ still-landed_all (next_number old) b (left_by leg old.records) (still-left_by leg b old.records none)
        | false ↦ still-left_by leg b old.records none
      ]

  still-written : (old : StripeState L) (legs : List L) (chunk : Chunk) (count : ℕ) → NoneOn b old.records → NoneOn b (after_copy_write_run old legs chunk count).records
  still-written old legs chunk count none =
      elim (chunk.written + count == chunk.length) as (λ v. NoneOn b (cond v (let s : StripeState L = record (with_table (chunk_copied chunk.length (table old)) old) { legs = legs; chunk = None } in s)
      (let s : StripeState L = record old { legs = legs; chunk = Some (record chunk { written = chunk.written + count }) } in s)).records) [
        | true ↦ none
        | false ↦ none
      ]

module _ {L : Type 0} (type : LegType L) (old new : StripeState L) (b : ℕ) (none : NoneOn b old.records) where
  as-was : new.records ≡ old.records → NoneOn b new.records
  as-was is = subst (λ (rs : List Record). NoneOn b rs) (sym is) none

  becomes : (s : StripeState L) → NoneOn b s.records → new ≡ s → NoneOn b new.records
  becomes s is_none is = subst (λ (x : StripeState L). NoneOn b x.records) (sym is) is_none

  stays : new ≡ old → NoneOn b new.records
  stays is = as-was (ap (λ (s : StripeState L). s.records) is)

  lost-now : (leg : ℕ) (legs : List L) → new ≡ lost leg (record old { legs = legs }) → NoneOn b new.records
  lost-now leg legs is = becomes (lost leg (record old { legs = legs })) (still-lost b leg (record old { legs = legs }) none) is

  lost_all-now : (leg : ℕ) → new ≡ lost_all leg (record old { legs = new.legs }) → NoneOn b new.records
  lost_all-now leg is = becomes (lost_all leg (record old { legs = new.legs })) (still-lost b leg (record old { legs = new.legs }) none) is

  begin-refused : (block : ℕ) (bytes : Data) (given : Refusal) → RefusesBegin type old new block bytes given → NoneOn b new.records
  begin-refused block bytes given (BeginCause cause is) = stays is
  begin-refused block bytes given (BeginFault is fails) = as-was (ap (λ (s : StripeState L). s.records) fails.after)

  read-refused : (block : ℕ) (was bytes : List ℕ) (given : Refusal) → RefusesRead type old new block was bytes given → NoneOn b new.records
  read-refused block was bytes given (ReadCause cause is same) = stays is
  read-refused block was bytes given (ReadFault is fails) = as-was (ap (λ (s : StripeState L). s.records) fails.after)

  copy-refused : (leg most from : ℕ) (given : Refusal) → RefusesCopy type old new leg most from given → NoneOn b new.records
  copy-refused leg most from given (CopyCause cause is) = stays is
  copy-refused leg most from given (CopyFault is fails) = as-was (ap (λ (s : StripeState L). s.records) fails.after)

  sync-refused : (leg : ℕ) (given : Refusal) → RefusesSync type old new leg given → NoneOn b new.records
  sync-refused leg given (SyncCause cause is) = stays is
  sync-refused leg given (SyncFault is fails) = as-was (ap (λ (s : StripeState L). s.records) fails.after)

  copied : (leg most from moved : ℕ) → MovesRun type old new leg most from moved → NoneOn b new.records
  copied leg most from moved moves = ⊎_elim
      (λ read. as-was (ap (λ (s : StripeState L). s.records) read.reads.after))
      (λ write.
      let w = write.writes in
      becomes (after_copy_write_run old new.legs w.chunk (length (next_blocks most w.chunk))) (still-written b old new.legs w.chunk (length (next_blocks most w.chunk)) none) w.after)
      moves

  run-begins : (block : ℕ) (d : RecordData) (ticket : ℕ) → IsOutside block (blocks_in d) b → BeginsRun old new block (each_block d) ticket → NoneOn b new.records
  run-begins block d ticket out c =
      subst (λ (s : StripeState L). NoneOn b s.records) (sym c.after)
      (still-append b old.records _ none (none-begun b old.tickets old.tickets block _ (each_block d) (subst (λ (n : ℕ). IsOutside block n b) (sym (length-each d)) out)))

  part-begins : (block : ℕ) (bytes : Data) (ticket : ℕ) → block ≢ b → Begins type old new block bytes ticket → NoneOn b new.records
  part-begins block bytes ticket other c =
      subst (λ (s : StripeState L). NoneOn b s.records) (sym c.after) (still-with_new b old.records _ other none)

  begins : (block : ℕ) (bytes : Data) (ticket : ℕ) → IsOutside block (data_blocks bytes) b → BeginsWith type old new block bytes ticket → NoneOn b new.records
  begins block (Cut cut) ticket out c = run-begins block (kept.Cut cut) ticket out c
  begins block (Zero count) ticket out c = run-begins block (kept.Zero count) ticket out c
  begins block (Part from bytes) ticket out c = part-begins block (Part from bytes) ticket (other-block block b out) c
  begins block (ZeroPart from len) ticket out c = part-begins block (ZeroPart from len) ticket (other-block block b out) c

  pushed : (ticket leg : ℕ) → new ≡ after_push_run old new.legs (of_run ticket old.records) leg → NoneOn b new.records
  pushed ticket leg is = becomes (after_push_run old new.legs (of_run ticket old.records) leg) (still-push b old new.legs (of_run ticket old.records) leg none) is

  pub step-still : (step : Step L) (answer : Answer L) → LeavesBlock b step answer → NoneHalted (answer ∷ []) → StepOf type step answer old new → NoneOn b new.records
  step-still (Begin block bytes) (Begun ticket) leaves goes is = begins block bytes ticket leaves is
  step-still (Begin block bytes) (LegLost gone handed) leaves goes is = lost-now old.master new.legs is.0.after
  step-still (Begin block bytes) (Refused cause handed) leaves goes is = begin-refused block bytes cause is.0
  step-still (Push ticket leg) (Pushed count) leaves goes is = pushed ticket leg is.0.after
  step-still (Push ticket leg) (Complete number) leaves goes is = pushed ticket leg is.0.after
  step-still (Push ticket leg) (LegLost gone handed) leaves goes is = lost-now leg new.legs is.0.1.after
  step-still (Push ticket leg) Halted leaves goes is = absurd goes
  step-still (Push ticket leg) (Refused cause handed) leaves goes is = stays is.2
  step-still (Claim ticket) (Written written) leaves goes is = subst (λ (s : StripeState L). NoneOn b s.records) (sym is.after) (still-without_each b (of_run ticket old.records) old.records none)
  step-still (Claim ticket) (Refused cause handed) leaves goes is = stays is.2
  step-still (Read block room) (Value value) leaves goes is = as-was (ap (λ (s : StripeState L). s.records) is.0.after)
  step-still (Read block room) (LegLost gone handed) leaves goes is = lost-now gone new.legs is.1.after
  step-still (Read block room) (Refused cause handed) leaves goes is = read-refused block room is.0 cause is.1
  step-still (Fail leg) Failed leaves goes is = lost-now leg old.legs is.0.after
  step-still (Fail leg) (MasterChanged master) leaves goes is = lost-now leg old.legs is.0.after
  step-still (Fail leg) (Refused cause handed) leaves goes is = stays is.2
  step-still (Attach leg) (Joining blocks) leaves goes is = as-was (ap (λ (s : StripeState L). s.records) is.0.after)
  step-still (Return leg marks) (Joining blocks) leaves goes is = as-was (ap (λ (s : StripeState L). s.records) is.0.after)
  step-still (Attach leg) (Refused cause handed) leaves goes is = stays is.2
  step-still (Return leg marks) (Refused cause handed) leaves goes is = stays is.2
  step-still (Replace leg part) (Joining blocks) leaves goes is = as-was (ap (λ (s : StripeState L). s.records) is.0.after)
  step-still (Replace leg part) (Refused cause handed) leaves goes is = stays is.2
  step-still (Copy leg most from) (Copied moved blocks) leaves goes is = copied leg most from moved is.0
  step-still (Copy leg most from) NothingLeft leaves goes is = stays is.1
  step-still (Copy leg most from) (LegLost gone handed) leaves goes is = lost-now gone new.legs is.0.after
  step-still (Copy leg most from) (Refused cause handed) leaves goes is = copy-refused leg most from cause is.0
  step-still (Promote leg) InSync leaves goes is = as-was (ap (λ (s : StripeState L). s.records) is.after)
  step-still (Promote leg) (LegLost gone handed) leaves goes is = lost_all-now leg is.0.1.after
  step-still (Promote leg) (Refused cause handed) leaves goes is = stays is.2
  step-still (Sync leg) Synced leaves goes is = as-was (ap (λ (s : StripeState L). s.records) is.after)
  step-still (Sync leg) (LegLost gone handed) leaves goes is = lost_all-now leg is.0.1.after
  step-still (Sync leg) (Refused cause handed) leaves goes is = sync-refused leg cause is.0
  step-still (Flush leg) Synced leaves goes is = as-was (ap (λ (s : StripeState L). s.records) is.after)
  step-still (Flush leg) (LegLost gone handed) leaves goes is = lost-now leg new.legs is.0.1.after
  step-still (Flush leg) (Refused cause handed) leaves goes is = sync-refused leg cause is.0
  step-still step answer leaves goes is = absurd is
