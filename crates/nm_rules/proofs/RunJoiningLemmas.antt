-- Each step on a run keeps the stripe's shape, and leaves as much to copy to a joining leg, but for the
-- steps of the leg's own copy.
use Rattle.std.proofs.Common.{◌≡◌, ◌≢◌, ⊎_elim, ℕ, ◌+◌, ◌==◌, true, false, List, length, map, None, Some, refl, sym, ap, ◌∙◌, subst, cond, get_or}
use Rattle.std.proofs.lemmas.Option.{same_Some}
use Rattle.nm_replay.specs.declared.block.Block.{Block}
use Rattle.nm_choice.specs.declared.leg_state.LegState.TheVariants.{Joining}
use Rattle.nm_fanout.specs.declared.record_data.RecordData.{RecordData}
use Rattle.nm_fanout.specs.declared.write_record.Record.{Record}
use Rattle.nm_leg.specs.Leg.{LegType}
use Rattle.nm_regions.specs.declared.copy_place.CopyPlace.{CopyPlace}
use Rattle.nm_regions.specs.LegFlags.{LegRegions, marked_if_out, no_leg}
use Rattle.nm_regions.specs.Table.{leg_at, region_of}
use Rattle.nm_rules.specs.Copy.{chunk_copied}
use Rattle.nm_rules.specs.Invariant.{Keeps}
use Rattle.nm_rules.specs.Joining.{KeepsWork}
use Rattle.nm_rules.specs.RunBegin.{BeginsRun, after_begin_run}
use Rattle.nm_rules.specs.RunClaim.{ClaimsRun}
use Rattle.nm_rules.specs.RunCopy.{CopiesReadRun, CopiesWriteRun, LosesInCopyRun, after_copy_read_run, after_copy_write_run, next_blocks}
use Rattle.nm_rules.specs.RunPush.{HaltsInPushRun, LosesInPushRun, PushesRun, after_push_run, run_landed, run_lands, run_reached}
use Rattle.nm_rules.specs.RunRead.{FindsRun}
use Rattle.nm_rules.specs.Runs.{EntryNames, of_run}
use Rattle.nm_rules.specs.Shape.{SameShape}
use Rattle.nm_rules.specs.State.{Chunk, StripeState, leg_state, table, with_table}
use Rattle.nm_rules.proofs.CopyLemmas.{ready-on}
use Rattle.nm_rules.proofs.JoiningLemmas.{Others, others-work, parts-work}
use Rattle.nm_rules.proofs.JoiningStepLemmas.{chunk-other, goes-others, lost-step, same-parts}
use Rattle.nm_rules.proofs.LegLemmas.{calls-length}
use Rattle.nm_rules.proofs.MarkLemmas.{mark-leg, mark-stays}
use Rattle.nm_rules.proofs.ShapeLemmas.{lost-shape}
use Rattle.nm_rules.proofs.StateLemmas.{joining_attached}

-- what a push changes is neither a region nor the copy
push-work : {L : Type 0} (j : ℕ) (old : StripeState L) (legs : List L) (rs : List Record) (leg : ℕ) → KeepsWork j old (after_push_run old legs rs leg)
push-work j old legs rs leg =
    elim (run_lands leg rs old) as (λ v. KeepsWork j old (cond v (run_landed old legs rs leg) (run_reached old legs rs leg))) [
      | true ↦ record { left_same = refl; work_same = refl }
      | false ↦ record { left_same = refl; work_same = refl }
    ]

push-place : {L : Type 0} (old : StripeState L) (legs : List L) (rs : List Record) (leg : ℕ) → (after_push_run old legs rs leg).place ≡ old.place
push-place old legs rs leg =
    elim (run_lands leg rs old) as (λ v. (cond v (run_landed old legs rs leg) (run_reached old legs rs leg)).place ≡ old.place) [ true ↦ refl | false ↦ refl ]

-- a copy's write, of a copy to another leg
written-work : {L : Type 0} (j : ℕ) (old : StripeState L) (legs : List L) (chunk : Chunk) (count : ℕ) → Others j old.copy → KeepsWork j old (after_copy_write_run old legs chunk count)
written-work {L} j old legs chunk count other =
    elim (chunk.written + count == chunk.length) as (λ b. KeepsWork j old (cond b (let s : StripeState L = record (with_table (chunk_copied chunk.length (table old)) old) { legs = legs; chunk = None } in s)
    (let s : StripeState L = record old { legs = legs; chunk = Some (record chunk { written = chunk.written + count }) } in s))) [
      | true ↦
          let on = chunk-other j chunk.length (table old) other in
          others-work j old (let s : StripeState L = record (with_table (chunk_copied chunk.length (table old)) old) { legs = legs; chunk = None } in s) refl (ap (λ (l : LegRegions). l.behind) on.0) other on.1
      | false ↦ others-work j old (let s : StripeState L = record old { legs = legs; chunk = Some (record chunk { written = chunk.written + count }) } in s) refl refl other other
    ]

copied-place : {L : Type 0} (old : StripeState L) (legs : List L) (chunk : Chunk) (count : ℕ) → (after_copy_write_run old legs chunk count).place ≡ old.place
copied-place {L} old legs chunk count =
    elim (chunk.written + count == chunk.length) as (λ b. (cond b (let s : StripeState L = record (with_table (chunk_copied chunk.length (table old)) old) { legs = legs; chunk = None } in s)
    (let s : StripeState L = record old { legs = legs; chunk = Some (record chunk { written = chunk.written + count }) } in s)).place ≡ old.place) [ true ↦ refl | false ↦ refl ]

module _ {L : Type 0} (type : LegType L) (old new : StripeState L) where
  -- the shape stays
  pub begins_run-shape : (block : ℕ) (ds : List RecordData) (ticket : ℕ) → BeginsRun old new block ds ticket → SameShape old new
  begins_run-shape block ds ticket b = record { place = ap (λ (s : StripeState L). s.place) b.after; legs = ap (λ (s : StripeState L). length s.legs) b.after }

  pub claims_run-shape : (ticket : ℕ) (answer : EntryNames) → ClaimsRun old new ticket answer → SameShape old new
  claims_run-shape ticket answer c = record { place = ap (λ (s : StripeState L). s.place) c.after; legs = ap (λ (s : StripeState L). length s.legs) c.after }

  pub pushes_run-shape : (ticket leg : ℕ) → PushesRun type old new ticket leg → SameShape old new
  pushes_run-shape ticket leg p =
      let w = p.called.writes in
      record { place = ap (λ (s : StripeState L). s.place) p.after ∙ push-place old new.legs (of_run ticket old.records) leg; legs = calls-length type.model old.legs new.legs leg w.before w.after w.change }

  pub halts_run-shape : (ticket leg : ℕ) → HaltsInPushRun type old new ticket leg → SameShape old new
  halts_run-shape ticket leg h =
      let w = h.called.writes in
      record { place = ap (λ (s : StripeState L). s.place) h.after; legs = calls-length type.model old.legs new.legs leg w.before w.after w.change }

  pub loses_in_push_run-shape : (ticket leg : ℕ) → LosesInPushRun type old new ticket leg → SameShape old new
  loses_in_push_run-shape ticket leg l =
      let w = l.called.writes in
      lost-shape type old new leg (calls-length type.model old.legs new.legs leg w.before w.after w.change) l.after

  pub finds_run-shape : (block : ℕ) (bs : List Block) (names : EntryNames) → FindsRun type old new block bs names → SameShape old new
  finds_run-shape block bs names f =
      let r = f.called.reads in
      record { place = ap (λ (s : StripeState L). s.place) f.after; legs = calls-length type.model old.legs new.legs f.leg r.before r.after r.change }

  pub copies_read_run-shape : {from : ℕ} (leg most : ℕ) → CopiesReadRun type old new leg most from → SameShape old new
  copies_read_run-shape leg most c =
      let r = c.called.reads in
      record { place = ap (λ (s : StripeState L). s.place) c.after; legs = calls-length type.model old.legs new.legs old.master r.before r.after r.change }

  pub copies_write_run-shape : {from : ℕ} (leg most : ℕ) → CopiesWriteRun type old new leg most from → SameShape old new
  copies_write_run-shape leg most c =
      let w = c.called.writes in
      record { place = ap (λ (s : StripeState L). s.place) c.after ∙ copied-place old new.legs c.chunk (length (next_blocks most c.chunk)); legs = calls-length type.model old.legs new.legs c.copy.leg w.before w.after w.change }

  pub loses_in_copy_run-shape : {from : ℕ} (leg gone most : ℕ) → LosesInCopyRun type old new leg gone most from → SameShape old new
  loses_in_copy_run-shape leg gone most l =
      lost-shape type old new gone
      (⊎_elim (λ read. calls-length type.model old.legs new.legs old.master read.1.reads.before read.1.reads.after read.1.reads.change)
      (λ write. calls-length type.model old.legs new.legs l.copy.leg write.1.writes.before write.1.writes.after write.1.writes.change) l.called) l.after

  -- what is left to copy to the leg j stays
  module _ (j : ℕ) where
    pub begins_run-work : (block : ℕ) (ds : List RecordData) (ticket : ℕ) → Keeps type old → leg_state j old ≡ Joining → BeginsRun old new block ds ticket → KeepsWork j old new
    begins_run-work block ds ticket k joins b =
        let region : ℕ = region_of block (table old) in
        let same_flag : get_or (map (marked_if_out region) old.flags) j no_leg ≡ leg_at j (table old) =
        mark-leg region j old.flags ∙ mark-stays region (leg_at j (table old)) (joining_attached type.model old k.legs j joins) in
        subst (λ (s : StripeState L). KeepsWork j old s) (sym b.after) (parts-work j old (after_begin_run old block ds) refl (ap (λ (l : LegRegions). l.behind) same_flag) refl refl refl)

    pub claims_run-work : (ticket : ℕ) (answer : EntryNames) → ClaimsRun old new ticket answer → KeepsWork j old new
    claims_run-work ticket answer c = same-parts j old new c.after refl refl refl refl

    pub pushes_run-work : (ticket leg : ℕ) → PushesRun type old new ticket leg → KeepsWork j old new
    pushes_run-work ticket leg p = subst (λ (s : StripeState L). KeepsWork j old s) (sym p.after) (push-work j old new.legs (of_run ticket old.records) leg)

    pub halts_run-work : (ticket leg : ℕ) → HaltsInPushRun type old new ticket leg → KeepsWork j old new
    halts_run-work ticket leg h = same-parts j old new h.after refl refl refl refl

    pub loses_in_push_run-work : (ticket leg : ℕ) → leg_state j new ≡ Joining → LosesInPushRun type old new ticket leg → KeepsWork j old new
    loses_in_push_run-work ticket leg joins l = lost-step j old new new.legs leg joins l.after

    pub finds_run-work : (block : ℕ) (bs : List Block) (names : EntryNames) → FindsRun type old new block bs names → KeepsWork j old new
    finds_run-work block bs names f = same-parts j old new f.after refl refl refl refl

    -- a step of the copy of another leg
    pub copies_read_run-work : {from : ℕ} (leg most : ℕ) → Keeps type old → j ≢ leg → CopiesReadRun type old new leg most from → KeepsWork j old new
    copies_read_run-work leg most k ne c =
        let leg_is : c.copy.leg ≡ leg = (ready-on type old leg c.copy c.chunk k c.on).leg_is in
        subst (λ (s : StripeState L). KeepsWork j old s) (sym c.after)
        (others-work j old (after_copy_read_run old new.legs c.copy c.chunk c.found) refl refl (goes-others j old new leg c.copy c.chunk ne c.on) (λ d is e. ne (sym e ∙ ap (λ (x : CopyPlace). x.leg) (sym (same_Some c.copy d is)) ∙ leg_is)))

    pub copies_write_run-work : {from : ℕ} (leg most : ℕ) → j ≢ leg → CopiesWriteRun type old new leg most from → KeepsWork j old new
    copies_write_run-work leg most ne c =
        subst (λ (s : StripeState L). KeepsWork j old s) (sym c.after) (written-work j old new.legs c.chunk (length (next_blocks most c.chunk)) (goes-others j old new leg c.copy c.chunk ne c.on))

    pub loses_in_copy_run-work : {from : ℕ} (leg gone most : ℕ) → leg_state j new ≡ Joining → LosesInCopyRun type old new leg gone most from → KeepsWork j old new
    loses_in_copy_run-work leg gone most joins l = lost-step j old new new.legs gone joins l.after
