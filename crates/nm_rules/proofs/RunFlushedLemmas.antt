-- Each step on a run leaves what is durable at each block that it does not write.
use Rattle.std.proofs.Common.{◌≡◌, ◌≢◌, ⊎_elim, inl, inr, ℕ, ◌+◌, ◌<◌, ◌==◌, Bool, true, false, IsTrue, List, [], ◌∷◌, length, None, Some, refl, sym, ap, ◌∙◌, subst, arith, slice_get, cond}
use Rattle.std.proofs.lemmas.Bool.{cases_lt}
use Rattle.nm_replay.specs.declared.block.Block.{Block}
use Rattle.nm_choice.specs.declared.leg_state.LegState.TheVariants.{InSync, Joining}
use Rattle.nm_fanout.proofs.Leaving.{without_leg-settles}
use Rattle.nm_fanout.proofs.Owed.{owes-under_way}
use Rattle.nm_fanout.proofs.Writers.{Settles, busy_on-changed_none, busy_on-without_none}
use Rattle.nm_fanout.specs.declared.record_data.RecordData.{RecordData}
use Rattle.nm_fanout.specs.declared.write_record.Record.{Record}
use Rattle.nm_fanout.specs.Record.{begun, with_entry, without_leg}
use Rattle.nm_fanout.specs.Records.{busy_on, landed, reached, without}
use Rattle.nm_leg.specs.Leg.{IsOutside, LegType}
use Rattle.nm_leg.specs.LegCalls.{ChangesLeg}
use Rattle.nm_regions.specs.Table.{targets}
use Rattle.nm_rules.specs.Array.{contents_of}
use Rattle.nm_rules.specs.Copy.{chunk_copied}
use Rattle.nm_rules.specs.Flushed.{KeepsDurable, durable_of}
use Rattle.nm_rules.specs.Invariant.{Keeps}
use Rattle.nm_rules.specs.RunBegin.{BeginsRun, begun_each}
use Rattle.nm_rules.specs.RunClaim.{ClaimsRun}
use Rattle.nm_rules.specs.RunCopy.{CopiesReadRun, CopiesWriteRun, LosesInCopyRun, after_copy_write_run, next_blocks}
use Rattle.nm_rules.specs.RunPush.{CallsToPushRun, HaltsInPushRun, LosesInPushRun, PushesRun, after_push_run, land_each, reach_each, run_landed, run_lands, run_reached, written_by}
use Rattle.nm_rules.specs.RunRead.{FindsRun}
use Rattle.nm_rules.specs.Runs.{AreOwed, EntryNames, of_run}
use Rattle.nm_fanout.specs.Records.{without_each}
use Rattle.nm_rules.specs.State.{Chunk, StripeState, leg_state, next_number, table, with_table}
use Rattle.nm_rules.proofs.CopyLemmas.{may_copy, ready-on}
use Rattle.nm_rules.proofs.DurableLegLemmas.{calls-durable_after, calls-durable_before, calls-durable_other}
use Rattle.nm_rules.proofs.FlushedLemmas.{no-call, same-durable}
use Rattle.nm_rules.proofs.FlushedLostLemmas.{called-durable, parts-of}
use Rattle.nm_rules.proofs.LegLemmas.{calls-after, calls-before, calls-other}
use Rattle.nm_rules.proofs.RecordLemmas.{busy_none, one_or_two}
use Rattle.nm_rules.proofs.RunBeginSteps.{busy-append, busy-other}
use Rattle.nm_rules.proofs.RunPushLemmas.{may_push_run}
use Rattle.nm_rules.proofs.RunPushSteps.{length-written_by}

-- a block that is not busy is none of a run's that owes a leg
run-outside : (rs records : List Record) (ticket block leg b : ℕ) → AreOwed ticket block leg rs records → busy_on b records ≡ None → IsOutside block (length rs) b
run-outside [] records ticket block leg b are free = ⊎_elim (λ low. inl low) (λ high. inr (omega (arith, high))) (cases_lt b block)
run-outside (r ∷ rs) records ticket block leg b are free =
    let rest : IsOutside (block + 1) (length rs) b = run-outside rs records (ticket + 1) (block + 1) leg b are.4 free in
    let other : r.block ≢ b = λ is. busy_none b r.ticket records r free are.2 is (owes-under_way leg r are.3) in
    ⊎_elim (λ low. ⊎_elim (λ under. inl under) (λ from. let same : r.block ≡ b = omega (arith, are.1, low, from) in absurd (other same)) (cases_lt b block)) (λ high. inr (omega (arith, high))) rest

landing-settles : (number : ℕ) → Settles (with_entry number)
landing-settles number = record { block = λ r. refl; idle = λ r over. over }

-- nor does it become busy as they reach the leg
free-reached : (leg b : ℕ) (rs records : List Record) → busy_on b records ≡ None → busy_on b (reach_each leg rs records) ≡ None
free-reached leg b [] records free = free
free-reached leg b (r ∷ rs) records free = free-reached leg b rs (reached r.ticket leg records) (busy_on-changed_none (without_leg leg) (without_leg-settles leg) r.ticket b records free)

free-landed : (leg b next : ℕ) (rs records : List Record) → busy_on b records ≡ None → busy_on b (land_each leg next rs records) ≡ None
free-landed leg b next [] records free = free
free-landed leg b next (r ∷ rs) records free =
    free-landed leg b (next + 1) rs (landed r.ticket next (reached r.ticket leg records))
    (busy_on-changed_none (with_entry next) (landing-settles next) r.ticket b (reached r.ticket leg records) (busy_on-changed_none (without_leg leg) (without_leg-settles leg) r.ticket b records free))

-- nor as they are claimed
free-claimed : (b : ℕ) (rs records : List Record) → busy_on b records ≡ None → busy_on b (without_each rs records) ≡ None
free-claimed b [] records free = free
free-claimed b (r ∷ rs) records free = free-claimed b rs (without r.ticket records) (busy_on-without_none r.ticket b records free)

-- nor as others begin
free-begun : (b run ticket block : ℕ) (owed : List Bool) (ds : List RecordData) → IsOutside block (length ds) b → busy_on b (begun_each run ticket block owed ds) ≡ None
free-begun b run ticket block owed [] out = refl
free-begun b run ticket block owed (d ∷ ds) out =
    let rest : IsOutside (block + 1) (length ds) b = ⊎_elim (λ low. inl (omega (arith, low))) (λ high. inr (omega (arith, high))) out in
    let other : block ≢ b = ⊎_elim (λ low. λ e. omega (arith, low, e)) (λ high. λ e. omega (arith, high, e)) out in
    busy-other b (begun run ticket block d owed) (begun_each run (ticket + 1) (block + 1) owed ds) other (free-begun b run (ticket + 1) (block + 1) owed ds rest)

-- a step leaves the block free, the master and the states
record Parts {L : Type 0} (b : ℕ) (old new : StripeState L) : Type 0 where
  free : busy_on b new.records ≡ None
  master : new.master ≡ old.master
  states : new.states ≡ old.states

push-parts : {L : Type 0} (b : ℕ) (old : StripeState L) (legs : List L) (rs : List Record) (leg : ℕ) → busy_on b old.records ≡ None → Parts b old (after_push_run old legs rs leg)
push-parts b old legs rs leg free =
    elim (run_lands leg rs old) as (λ v. Parts b old (cond v (run_landed old legs rs leg) (run_reached old legs rs leg))) [
      | true ↦ record { free = free-landed leg b (next_number old) rs old.records free; master = refl; states = refl }
      | false ↦ record { free = free-reached leg b rs old.records free; master = refl; states = refl }
    ]

write-parts : {L : Type 0} (b : ℕ) (old : StripeState L) (legs : List L) (chunk : Chunk) (count : ℕ) → busy_on b old.records ≡ None → Parts b old (after_copy_write_run old legs chunk count)
write-parts {L} b old legs chunk count free =
    elim (chunk.written + count == chunk.length) as (λ v. Parts b old (cond v (let s : StripeState L = record (with_table (chunk_copied chunk.length (table old)) old) { legs = legs; chunk = None } in s)
    (let s : StripeState L = record old { legs = legs; chunk = Some (record chunk { written = chunk.written + count }) } in s))) [
      | true ↦ record { free = free; master = refl; states = refl }
      | false ↦ record { free = free; master = refl; states = refl }
    ]

module _ {L : Type 0} (type : LegType L) (old new : StripeState L) (b : ℕ) (was_free : busy_on b old.records ≡ None) where
  parts-of_new : {after : StripeState L} → new ≡ after → Parts b old after → Parts b old new
  parts-of_new is parts = subst (λ (s : StripeState L). Parts b old s) (sym is) parts

  -- a step that calls no leg
  pub claims_run-durable : (ticket : ℕ) (answer : EntryNames) → ClaimsRun old new ticket answer → KeepsDurable type.model b old new
  claims_run-durable ticket answer c =
      no-call type old new b was_free (ap (λ (s : StripeState L). busy_on b s.records) c.after ∙ free-claimed b (of_run ticket old.records) old.records was_free)
      (ap (λ (s : StripeState L). s.master) c.after) (ap (λ (s : StripeState L). s.states) c.after) (ap (λ (s : StripeState L). s.legs) c.after)

  pub begins_run-durable : (block : ℕ) (ds : List RecordData) (ticket : ℕ) → IsOutside block (length ds) b → BeginsRun old new block ds ticket → KeepsDurable type.model b old new
  begins_run-durable block ds ticket out c =
      no-call type old new b was_free
      (ap (λ (s : StripeState L). busy_on b s.records) c.after
      ∙ busy-append b old.records (begun_each old.tickets old.tickets block (targets block (table old)) ds) was_free (free-begun b old.tickets old.tickets block (targets block (table old)) ds out))
      (ap (λ (s : StripeState L). s.master) c.after) (ap (λ (s : StripeState L). s.states) c.after) (ap (λ (s : StripeState L). s.legs) c.after)

  module _ (is_honest : IsTrue type.honest) where
    -- a call after which the leg has at this block what it had
    called-same : (leg : ℕ) (before after : L) → ChangesLeg type.model leg old.legs new.legs before after
        → slice_get (type.model after).contents b ≡ slice_get (type.model before).contents b → slice_get (type.model after).durable b ≡ slice_get (type.model before).durable b
        → Parts b old new → KeepsDurable type.model b old new
    called-same leg before after change contents durable parts =
        same-durable type old new b was_free parts.free parts.master parts.states
        (⊎_elim
        (λ is. subst (λ (i : ℕ). slice_get (contents_of type.model new.legs i) b ≡ slice_get (contents_of type.model old.legs i) b) (sym is)
        (ap (λ xs. slice_get xs b) (calls-after type.model old.legs new.legs leg before after change) ∙ contents
        ∙ ap (λ xs. slice_get xs b) (sym (calls-before type.model old.legs new.legs leg before after change))))
        (λ ne. ap (λ xs. slice_get xs b) (calls-other type.model old.legs new.legs leg old.master before after change ne))
        (one_or_two old.master leg))
        (λ j in_sync. ⊎_elim
        (λ is. subst (λ (i : ℕ). slice_get (durable_of type.model new.legs i) b ≡ slice_get (durable_of type.model old.legs i) b) (sym is)
        (ap (λ xs. slice_get xs b) (calls-durable_after type.model old.legs new.legs leg before after change) ∙ durable
        ∙ ap (λ xs. slice_get xs b) (sym (calls-durable_before type.model old.legs new.legs leg before after change))))
        (λ ne. ap (λ xs. slice_get xs b) (calls-durable_other type.model old.legs new.legs leg j before after change ne))
        (one_or_two j leg))

    -- a push, whether its call went well or not, writes none but blocks that are busy
    push-out : (succeeded : Bool) (ticket leg : ℕ) (c : CallsToPushRun type succeeded old new.legs ticket leg) → IsOutside c.block (length (written_by (of_run ticket old.records))) b
    push-out succeeded ticket leg c =
        subst (λ (n : ℕ). IsOutside c.block n b) (sym (length-written_by (of_run ticket old.records))) (run-outside (of_run ticket old.records) old.records ticket c.block leg b c.are was_free)

    push-called : (succeeded : Bool) (ticket leg : ℕ) → CallsToPushRun type succeeded old new.legs ticket leg → Parts b old new → KeepsDurable type.model b old new
    push-called succeeded ticket leg c parts =
        let w = c.writes in
        let out = push-out succeeded ticket leg c in
        called-same leg w.before w.after w.change (w.writes.others is_honest b out) (w.writes.durable_others is_honest b out) parts

    pub pushes_run-durable : (ticket leg : ℕ) → PushesRun type old new ticket leg → KeepsDurable type.model b old new
    pushes_run-durable ticket leg p = push-called true ticket leg p.called (parts-of_new p.after (push-parts b old new.legs (of_run ticket old.records) leg was_free))

    -- also where the stripe stops
    pub halts_run-durable : (ticket leg : ℕ) → HaltsInPushRun type old new ticket leg → KeepsDurable type.model b old new
    halts_run-durable ticket leg h = push-called false ticket leg h.called (parts-of_new h.after (record { free = was_free; master = refl; states = refl }))

    -- a read
    pub finds_run-durable : (block : ℕ) (bs : List Block) (names : EntryNames) → FindsRun type old new block bs names → KeepsDurable type.model b old new
    finds_run-durable block bs names f =
        let r = f.called.reads in
        called-same f.leg r.before r.after r.change (ap (λ xs. slice_get xs b) (r.reads.contents is_honest)) (ap (λ xs. slice_get xs b) (r.reads.durable is_honest))
        (parts-of_new f.after (record { free = was_free; master = refl; states = refl }))

    -- a copy's read of the master
    pub copies_read_run-durable : {from : ℕ} (leg most : ℕ) → CopiesReadRun type old new leg most from → KeepsDurable type.model b old new
    copies_read_run-durable leg most c =
        let r = c.called.reads in
        called-same old.master r.before r.after r.change (ap (λ xs. slice_get xs b) (r.reads.contents is_honest)) (ap (λ xs. slice_get xs b) (r.reads.durable is_honest))
        (parts-of_new c.after (record { free = was_free; master = refl; states = refl }))

  module _ (k : Keeps type old) where
    -- a copy writes to a leg that is joining, so neither to the master nor to any leg in sync
    pub copies_write_run-durable : {from : ℕ} (leg most : ℕ) → CopiesWriteRun type old new leg most from → KeepsDurable type.model b old new
    copies_write_run-durable leg most c =
        let w = c.called.writes in
        let joins = (ready-on type old leg c.copy c.chunk k c.on).is_copy.joining in
        let other : (j : ℕ) → leg_state j old ≡ InSync → j ≢ c.copy.leg = λ j in_sync e.
        let here : leg_state c.copy.leg old ≡ InSync = subst (λ (i : ℕ). leg_state i old ≡ InSync) e in_sync in
        let clash : InSync ≡ Joining = sym here ∙ joins in
        cc in
        let parts = parts-of_new c.after (write-parts b old new.legs c.chunk (length (next_blocks most c.chunk)) was_free) in
        same-durable type old new b was_free parts.free parts.master parts.states
        (ap (λ xs. slice_get xs b) (calls-other type.model old.legs new.legs c.copy.leg old.master w.before w.after w.change (other old.master k.legs.master)))
        (λ j before. ap (λ xs. slice_get xs b) (calls-durable_other type.model old.legs new.legs c.copy.leg j w.before w.after w.change (other j before)))

    -- a leg that goes out, as the call of a run failed
    module _ (kn : Keeps type new) (is_honest : IsTrue type.honest) (inside : b < old.place.blocks) where
      pub loses_in_push_run-durable : (ticket leg : ℕ) → LosesInPushRun type old new ticket leg → KeepsDurable type.model b old new
      loses_in_push_run-durable ticket leg l =
          let w = l.called.writes in
          called-durable type old new b was_free k kn is_honest inside leg w.before w.after w.change (may_push_run old ticket leg l.called.no_cause).runs
          (parts-of type old new b was_free k kn is_honest inside leg new.legs l.after)

      pub loses_in_copy_run-durable : {from : ℕ} (leg gone most : ℕ) → LosesInCopyRun type old new leg gone most from → KeepsDurable type.model b old new
      loses_in_copy_run-durable leg gone most l =
          let runs = (may_copy old leg l.on.no_cause).runs in
          let parts = parts-of type old new b was_free k kn is_honest inside gone new.legs l.after in
          let leg_is : l.copy.leg ≡ leg = (ready-on type old leg l.copy l.chunk k l.on).leg_is in
          ⊎_elim
          (λ read. called-durable type old new b was_free k kn is_honest inside gone read.1.reads.before read.1.reads.after
          (subst (λ (i : ℕ). ChangesLeg type.model i old.legs new.legs read.1.reads.before read.1.reads.after) (sym read.0) read.1.reads.change) runs parts)
          (λ write. called-durable type old new b was_free k kn is_honest inside gone write.1.writes.before write.1.writes.after
          (subst (λ (i : ℕ). ChangesLeg type.model i old.legs new.legs write.1.writes.before write.1.writes.after) (leg_is ∙ sym write.0) write.1.writes.change) runs parts)
          l.called
