-- A step of a copy over several blocks: what it keeps, how much less is left, and what it leaves in one
-- piece. One whose read failed is a failed read of one block.
use Rattle.std.proofs.Common.{◌≡◌, ⊎_elim, inl, ℕ, zero, suc, ◌+◌, ◌-◌, ◌*◌, ◌/◌, ◌<◌, ◌≤◌, ◌==◌, true, false, IsTrue, List, [], ◌∷◌, append_assoc, drop, length, length-drop, length-take-le, map, min, take, None, Some, refl, sym, ap, ◌∙◌, subst, arith, cond, slice_get}
use Rattle.std.proofs.lemmas.Bool.Decides.{nat_tests}
use Rattle.std.proofs.lemmas.Nat.{div-mul-add}
use Rattle.nm_replay.specs.declared.block.Block.{Block}
use Rattle.nm_choice.specs.declared.leg_state.LegState.{LegState}
use Rattle.nm_leg.specs.Leg.{HoldsRun, Leg, LegType, block_of}
use Rattle.nm_regions.specs.declared.copy_place.CopyPlace.{CopyPlace}
use Rattle.nm_regions.specs.LegFlags.{is_behind}
use Rattle.nm_regions.specs.Table.{leg_at}
use Rattle.nm_rules.specs.Acts.{IsExplainedStep}
use Rattle.nm_rules.specs.Copy.{FailsInCopy, GoesOn, LosesInCopy, after_copy_read, chunk_copied}
use Rattle.nm_rules.specs.Invariant.{Keeps}
use Rattle.nm_rules.specs.RunCalls.{ReadsRunAt, WritesRunAt}
use Rattle.nm_rules.specs.RunCopy.{CallsToCopyReadRun, CallsToCopyWriteRun, CopiesReadRun, CopiesWriteRun, FailsInCopyRun, LosesInCopyRun, after_copy_read_run, after_copy_write_run, next_blocks}
use Rattle.nm_rules.specs.State.{Chunk, StripeState, copy_start, is_out, leg_state, table, with_table}
use Rattle.nm_rules.proofs.CopyLemmas.{Ready, may_copy, ready-on}
use Rattle.nm_rules.proofs.DirtyLemmas.{dirty-marks}
use Rattle.nm_rules.proofs.HeldLemmas.{acts-seen, held_type, keeps-seen, seen, seen-keeps}
use Rattle.nm_rules.proofs.LosesLemmas.{run-loses}
use Rattle.nm_rules.proofs.LostLemmas.{Loses, lost-acts, lost-keeps}
use Rattle.nm_rules.proofs.LostStepLemmas.{copy_lost-acts, copy_lost-keeps}
use Rattle.nm_rules.proofs.OutLemmas.{LosesLeg}
use Rattle.nm_rules.proofs.RunCallLemmas.{failed-read}
use Rattle.nm_rules.proofs.RunCopiedSteps.{copy_write_each, further, run-written, seen-write_each, written_on}
use Rattle.nm_rules.proofs.RunCopySteps.{RunCopied, copy_read_each, longer, run-copied}
use Rattle.nm_rules.proofs.RunLegLemmas.{writes-seen}
use Rattle.nm_rules.proofs.StateLemmas.{attached_inside}

-- a read of each block in order leaves what one of all leaves
read-form : {L : Type 0} (legs : List L) (copy : CopyPlace) (bs : List Block) (b : Block) (old : StripeState L) (chunk : Chunk) → copy_read_each old legs copy chunk (b ∷ bs) ≡ after_copy_read_run old legs copy chunk (b ∷ bs)
read-form legs copy [] b old chunk = refl
read-form {L} legs copy (c ∷ cs) b old chunk =
    read-form legs copy cs c (after_copy_read old legs copy chunk b) (longer chunk b)
    ∙ ap (λ (xs : List Block). let s : StripeState L = record old { legs = legs; copy = Some copy; chunk = Some (record chunk { blocks = xs }) } in s) (append_assoc chunk.blocks (b ∷ []) (c ∷ cs))

-- the stripe once the chunk is written up to here
abbrev written_to : {L : Type 0} → StripeState L → List L → Chunk → ℕ → StripeState L
written_to old legs chunk n =
    cond (n == chunk.length) (record (with_table (chunk_copied chunk.length (table old)) old) { legs = legs; chunk = None })
    (record old { legs = legs; chunk = Some (record chunk { written = n }) })

-- so does a write of each
write-form : {L : Type 0} (legs : List L) (bs : List Block) (b : Block) (old : StripeState L) (chunk : Chunk) → copy_write_each old legs chunk (b ∷ bs) ≡ after_copy_write_run old legs chunk (length (b ∷ bs))
write-form legs [] b old chunk = refl
write-form legs (c ∷ cs) b old chunk =
    let e : chunk.written + 1 + length (c ∷ cs) ≡ chunk.written + length (b ∷ (c ∷ cs)) = omega arith in
    write-form legs cs c (written_on old legs chunk) (further chunk) ∙ ap (λ (n : ℕ). written_to old legs chunk n) e

-- blocks that are taken of a list stand there
held-taken : (at n : ℕ) (xs : List Block) → HoldsRun at (take n (drop at xs)) xs
held-taken at n xs = from at n (drop at xs) (λ i. slice_get-drop at i xs)
  where
    slice_get-drop : (at i : ℕ) (xs : List Block) → slice_get xs (at + i) ≡ slice_get (drop at xs) i
    slice_get-drop zero i xs = ap (λ (n : ℕ). slice_get xs n) (let e : 0 + i ≡ i = omega arith in e)
    slice_get-drop (suc at) i [] = refl
    slice_get-drop (suc at) i (x ∷ xs) = ap (λ (n : ℕ). slice_get (x ∷ xs) n) (let e : suc at + i ≡ suc (at + i) = omega arith in e) ∙ slice_get-drop at i xs

    from : (at n : ℕ) (ys : List Block) → ((i : ℕ) → slice_get xs (at + i) ≡ slice_get ys i) → HoldsRun at (take n ys) xs
    from at zero ys same = tt
    from at (suc n) [] same = tt
    from at (suc n) (y ∷ ys) same = (
      ap (λ (k : ℕ). slice_get xs k) (let e : at ≡ at + 0 = omega arith in e) ∙ same 0,
      from (at + 1) n ys (λ i. ap (λ (k : ℕ). slice_get xs k) (let e : at + 1 + i ≡ at + suc i = omega arith in e) ∙ same (suc i)),
    )

module _ {L : Type 0} (type : LegType L) (old new : StripeState L) (leg most : ℕ) (k : Keeps type old) (some : 0 < most) where
  -- a step that read blocks
  pub copies_read_run : {from : ℕ} (c : CopiesReadRun type old new leg most from) → RunCopied type old new leg (length c.found)
  copies_read_run c = each c.found (omega (arith, some, short, c.called.count)) (omega (arith, short, c.called.count)) c.called.reads c.after
    where
      short : length c.chunk.blocks < c.chunk.length
      short = grind (arith, nat_tests, c.called.not_filled)

      each : (bs : List Block) → 0 < length bs → length c.chunk.blocks + length bs ≤ c.chunk.length
          → ReadsRunAt type true old.master (copy_start old.place.region c.copy + length c.chunk.blocks) bs old.legs new.legs
          → new ≡ after_copy_read_run old new.legs c.copy c.chunk bs → RunCopied type old new leg (length bs)
      each [] some room reads after = absurd (let e : ⊥ = omega (arith, some) in e)
      each (b ∷ bs) some room reads after =
          subst (λ (s : StripeState L). RunCopied type old s leg (length (b ∷ bs))) (read-form new.legs c.copy bs b old c.chunk ∙ sym after)
          (run-copied type leg c.copy b bs old new.legs c.chunk k c.on room reads)

  -- a step that wrote blocks
  module _ {from : ℕ} (c : CopiesWriteRun type old new leg most from) where
    abbrev bs : List Block
    bs = next_blocks most c.chunk

    known : Ready type old leg c.copy c.chunk
    known = ready-on type old leg c.copy c.chunk k c.on

    -- all that are asked for are there
    long : length bs ≡ min most (c.chunk.length - c.chunk.written)
    long =
        let full : c.chunk.length ≤ length c.chunk.blocks = grind (arith, nat_tests, c.called.filled) in
        length-take-le (min most (c.chunk.length - c.chunk.written)) (drop c.chunk.written c.chunk.blocks) (omega (arith, full, length-drop c.chunk.written c.chunk.blocks))

    -- as the legs are seen, the copy goes on too
    on-seen : GoesOn (seen type.model old) leg from c.copy c.chunk
    on-seen = record { no_cause = c.on.no_cause; somewhere = c.on.somewhere; no_more_cause = c.on.no_more_cause; copy_is = c.on.copy_is; chunk_is = c.on.chunk_is }

    each : (cs : List Block) → 0 < length cs → c.chunk.written + length cs ≤ c.chunk.length → HoldsRun c.chunk.written cs c.chunk.blocks
        → WritesRunAt type true c.copy.leg (copy_start old.place.region c.copy + c.chunk.written) cs old.legs new.legs
        → new ≡ after_copy_write_run old new.legs c.chunk (length cs) → RunCopied type old new leg (length cs)
    each [] some room held writes after = absurd (let e : ⊥ = omega (arith, some) in e)
    each (b ∷ cs) some room held writes after =
        let run = run-written type.honest leg c.copy cs b (seen type.model old) (map type.model new.legs) c.chunk (seen-keeps type old k) on-seen c.called.filled held room
        (writes-seen type true c.copy.leg (copy_start old.place.region c.copy + c.chunk.written) (b ∷ cs) old.legs new.legs writes) in
        let is : seen type.model new ≡ copy_write_each (seen type.model old) (map type.model new.legs) c.chunk (b ∷ cs) =
        ap (λ (s : StripeState L). seen type.model s) (after ∙ sym (write-form new.legs cs b old c.chunk)) ∙ seen-write_each type.model new.legs (b ∷ cs) old c.chunk in
        let there = subst (λ (s : StripeState Leg). RunCopied (held_type type.honest) (seen type.model old) s leg (length (b ∷ cs))) (sym is) run in
        record {
          keeps = keeps-seen type new there.keeps;
          acts = λ is_honest. acts-seen type.model old new [] (there.acts is_honest);
          work_less = there.work_less;
        }

    pub copies_write_run : RunCopied type old new leg (length bs)
    copies_write_run =
        each bs (omega (arith, some, long, known.more)) (omega (arith, long, known.more)) (held-taken c.chunk.written (min most (c.chunk.length - c.chunk.written)) c.chunk.blocks)
        c.called.writes c.after

take-most : (n : ℕ) (xs : List Block) → length (take n xs) ≤ n
take-most zero xs = omega arith
take-most (suc n) [] = omega arith
take-most (suc n) (x ∷ xs) = omega (arith, take-most n xs)

-- one block, of no use
any_block : Block
any_block = block_of []

module _ {L : Type 0} (type : LegType L) (old new : StripeState L) (leg most : ℕ) (k : Keeps type old) where
  -- a step whose read failed is one of a single block
  read-lost : {from : ℕ} (gone : ℕ) (l : LosesInCopyRun type old new leg gone most from) → gone ≡ old.master → CallsToCopyReadRun type false old new.legs l.copy l.chunk most l.found → LosesInCopy type old new leg gone from
  read-lost gone l is c = record {
    copy = l.copy;
    chunk = l.chunk;
    bytes = any_block;
    on = l.on;
    called = inl (
      is,
      record {
        not_filled = c.not_filled;
        reads = failed-read type old.master (copy_start old.place.region l.copy + length l.chunk.blocks) (copy_start old.place.region l.copy + length l.chunk.blocks) any_block l.found old.legs new.legs c.reads;
      },
    );
    not_last = l.not_last;
    after = l.after;
  }

  -- also where the master was the last leg in sync
  pub fails_in_copy_run-one : {from : ℕ} → FailsInCopyRun type old new leg most from → FailsInCopy type old new leg from
  fails_in_copy_run-one f = record {
    copy = f.copy;
    chunk = f.chunk;
    bytes = any_block;
    on = f.on;
    called = record {
      not_filled = f.called.not_filled;
      reads = failed-read type old.master (copy_start old.place.region f.copy + length f.chunk.blocks) (copy_start old.place.region f.copy + length f.chunk.blocks) any_block f.found old.legs new.legs f.called.reads;
    };
    last = f.last;
    after = f.after;
  }

  -- a step whose write failed: its blocks lie in the region that is copied, which is behind
  write-loses : (copy : CopyPlace) (chunk : Chunk) → Ready type old leg copy chunk → CallsToCopyWriteRun type false old new.legs copy chunk most → LosesLeg type old new.legs copy.leg
  write-loses copy chunk r c =
      let at : ℕ = copy_start old.place.region copy + chunk.written in
      let attached : is_out (leg_state copy.leg old) ≡ false = ap (λ (s : LegState). is_out s) r.is_copy.joining in
      let marks = dirty-marks type.model old copy.leg k.legs k.records (attached_inside type.model old k.legs copy.leg attached) in
      let behind : is_behind copy.region (leg_at copy.leg (table old)) ≡ true = r.is_copy.behind in
      let few : length (next_blocks most chunk) ≤ chunk.length - chunk.written = omega (arith, take-most (min most (chunk.length - chunk.written)) (drop chunk.written chunk.blocks)) in
      run-loses type false old new.legs copy.leg at (next_blocks most chunk)
      (λ b low high.
      let place : ℕ = b - copy.region * old.place.region in
      let in_region : place < old.place.region = omega (arith, low, high, few, r.more, r.long) in
      let is : b ≡ copy.region * old.place.region + place = omega (arith, low) in
      let region_is : b / old.place.region ≡ copy.region = ap (λ (n : ℕ). n / old.place.region) is ∙ div-mul-add copy.region old.place.region place in_region in
      marks.behind (b / old.place.region) (subst (λ (n : ℕ). is_behind n (leg_at copy.leg (table old)) ≡ true) (sym region_is) behind))
      c.writes

  module _ {from : ℕ} (gone : ℕ) (l : LosesInCopyRun type old new leg gone most from) where
    known-of : Ready type old leg l.copy l.chunk
    known-of = ready-on type old leg l.copy l.chunk k l.on

    write-lost : gone ≡ leg → CallsToCopyWriteRun type false old new.legs l.copy l.chunk most → Loses type old new.legs gone
    write-lost is c = record {
      keeps = k;
      runs = (may_copy old leg l.on.no_cause).runs;
      attached = subst (λ (j : ℕ). is_out (leg_state j old) ≡ false) (sym is) (ap (λ (s : LegState). is_out s) (may_copy old leg l.on.no_cause).joining);
      not_last = l.not_last;
      loses = subst (λ (j : ℕ). LosesLeg type old new.legs j) (known-of.leg_is ∙ sym is) (write-loses l.copy l.chunk known-of c);
    }

    pub copy_run_lost-keeps : Keeps type new
    copy_run_lost-keeps =
        ⊎_elim
        (λ read. copy_lost-keeps type old new k leg gone (read-lost gone l read.0 read.1))
        (λ write. subst (λ (s : StripeState L). Keeps type s) (sym l.after) (lost-keeps type old new.legs gone (write-lost write.0 write.1)))
        l.called

    pub copy_run_lost-acts : IsTrue type.honest → IsExplainedStep type.model [] old new
    copy_run_lost-acts is_honest =
        ⊎_elim
        (λ read. copy_lost-acts type old new k leg gone (read-lost gone l read.0 read.1) is_honest)
        (λ write. subst (λ (s : StripeState L). IsExplainedStep type.model [] old s) (sym l.after) (lost-acts type old new.legs gone (write-lost write.0 write.1) is_honest))
        l.called
