-- A write of several blocks of a chunk is a write of each of them, in order.
use Rattle.std.proofs.Common.{◌≡◌, ℕ, suc, ◌+◌, ◌<◌, ◌≤◌, ◌==◌, Bool, true, false, List, [], ◌∷◌, length, map, Option, None, Some, refl, sym, ap, subst, arith, cond, nat_lt, ne_eqb}
use Rattle.std.specs.Option.{option_or}
use Rattle.nm_replay.specs.declared.block.Block.{Block}
use Rattle.nm_leg.specs.Leg.{HoldsRun, Leg, LegType}
use Rattle.nm_regions.specs.declared.copy_place.CopyPlace.{CopyPlace}
use Rattle.nm_rules.specs.declared.refusal.Refusal.{Refusal}
use Rattle.nm_rules.specs.Copy.{CallsToCopyWrite, CopiesWrite, GoesOn, after_copy_write, chunk_copied, copy_more_rows}
use Rattle.nm_rules.specs.Invariant.{Keeps}
use Rattle.nm_rules.specs.RunCalls.{WritesRunAt}
use Rattle.nm_rules.proofs.HeldLemmas.{held_type, seen}
use Rattle.nm_rules.specs.State.{Chunk, StripeState, copy_start, table, with_table}
use Rattle.nm_rules.proofs.ActsLemmas.{acts-append}
use Rattle.nm_rules.proofs.CauseLemmas.{none_holds}
use Rattle.nm_rules.proofs.CopySteps.{copies-write-acts, copies-write-keeps}
use Rattle.nm_rules.proofs.RunCopySteps.{RunCopied}
use Rattle.nm_rules.proofs.RunLegLemmas.{first-writes_at, mid_legs, last-writes_at, rest-writes_at}
use Rattle.nm_rules.proofs.WorkLemmas.{copies-write-work}

abbrev pub further : Chunk → Chunk
further chunk = record chunk { written = chunk.written + 1 }

-- the stripe once the chunk's next block was written, and others follow
abbrev pub written_on : {L : Type 0} → StripeState L → List L → Chunk → StripeState L
written_on old legs chunk = record old { legs = legs; chunk = Some (further chunk) }

-- the stripe after each of these blocks of a chunk was written to the copy's leg, in order
abbrev pub copy_write_each : {L : Type 0} → StripeState L → List L → Chunk → List Block → StripeState L
copy_write_each old legs chunk [] = old
copy_write_each old legs chunk (b ∷ []) = after_copy_write old legs chunk
copy_write_each old legs chunk (b ∷ (c ∷ bs)) =
    copy_write_each (written_on old legs chunk) legs (further chunk) (c ∷ bs)

-- a write leaves the legs that its call left
written-legs : {L : Type 0} (old : StripeState L) (legs : List L) (chunk : Chunk) → (after_copy_write old legs chunk).legs ≡ legs
written-legs {L} old legs chunk =
    elim (chunk.written + 1 == chunk.length) as (λ v. (whole v).legs ≡ legs) [ true ↦ refl | false ↦ refl ]
  where
    whole : Bool → StripeState L
    whole v = cond v (record (with_table (chunk_copied chunk.length (table old)) old) { legs = legs; chunk = None }) (record old { legs = legs; chunk = Some (further chunk) })

-- where it is not the chunk's last, the chunk stays open
not-last : {L : Type 0} (old : StripeState L) (legs : List L) (chunk : Chunk) → chunk.written + 1 < chunk.length → after_copy_write old legs chunk ≡ written_on old legs chunk
not-last old legs chunk more =
    let other : (chunk.written + 1 == chunk.length) ≡ false = ne_eqb (chunk.written + 1) chunk.length (λ e. omega (arith, e, more)) in
    ap (λ (v : Bool). cond v (record (with_table (chunk_copied chunk.length (table old)) old) { legs = legs; chunk = None }) (record old { legs = legs; chunk = Some (further chunk) })) other

-- and its copy goes on
goes-further : {L : Type 0} {from : ℕ} (old : StripeState L) (legs : List L) (leg : ℕ) (copy : CopyPlace) (chunk : Chunk) → GoesOn old leg from copy chunk → GoesOn (written_on old legs chunk) leg from copy (further chunk)
goes-further {L} {from} old legs leg copy chunk on =
    let rows = none_holds (copy_more_rows old leg from) on.no_more_cause in
    record {
      no_cause = on.no_cause;
      somewhere = on.somewhere;
      no_more_cause = ap (λ (o : Option Refusal). option_or o None) rows.0;
      copy_is = on.copy_is;
      chunk_is = refl;
    }

module _ (honest : Bool) (leg : ℕ) (copy : CopyPlace) where
  abbrev T : LegType Leg
  T = held_type honest

  abbrev here : StripeState Leg → Chunk → ℕ
  here s chunk = copy_start s.place.region copy + chunk.written

  pub run-written : {from : ℕ} (bs : List Block) (b : Block) (s : StripeState Leg) (legs : List Leg) (chunk : Chunk) → Keeps T s → GoesOn s leg from copy chunk → nat_lt (length chunk.blocks) chunk.length ≡ false
      → HoldsRun chunk.written (b ∷ bs) chunk.blocks → chunk.written + suc (length bs) ≤ chunk.length → WritesRunAt T true copy.leg (here s chunk) (b ∷ bs) s.legs legs
      → RunCopied T s (copy_write_each s legs chunk (b ∷ bs)) leg (suc (length bs))
  run-written {from} [] b s legs chunk k on filled next room w =
      let new : StripeState Leg = after_copy_write s legs chunk in
      let called : CallsToCopyWrite T true s legs copy chunk b = record { filled = filled; next = next.0; writes = last-writes_at honest copy.leg (here s chunk) b s.legs legs w } in
      let same : new.legs ≡ legs = written-legs s legs chunk in
      let c : CopiesWrite T s new leg from = record {
        copy = copy;
        chunk = chunk;
        bytes = b;
        on = on;
        called = subst (λ (ls : List Leg). CallsToCopyWrite T true s ls copy chunk b) (sym same) called;
        after = ap (λ (ls : List Leg). after_copy_write s ls chunk) (sym same);
      } in
      record { keeps = copies-write-keeps T s new leg k c; acts = λ is_honest. copies-write-acts T s new leg k c; work_less = (copies-write-work T s new leg k c).work_less }
  run-written {from} (d ∷ bs) b s legs chunk k on filled next room w =
      let mid : List Leg = mid_legs honest copy.leg (here s chunk) b (d ∷ bs) s.legs legs w in
      let new : StripeState Leg = written_on s mid chunk in
      let c : CopiesWrite T s new leg from = record {
        copy = copy;
        chunk = chunk;
        bytes = b;
        on = on;
        called = record { filled = filled; next = next.0; writes = first-writes_at honest copy.leg (here s chunk) b (d ∷ bs) s.legs legs w };
        after = sym (not-last s mid chunk (omega (arith, room)));
      } in
      let e : here s chunk + 1 ≡ copy_start s.place.region copy + (chunk.written + 1) = omega arith in
      let rest = run-written bs d new legs (further chunk) (copies-write-keeps T s new leg k c) (goes-further s mid leg copy chunk on) filled next.1 (omega (arith, room))
      (subst (λ (at : ℕ). WritesRunAt T true copy.leg at (d ∷ bs) mid legs) e (rest-writes_at honest copy.leg (here s chunk) b (d ∷ bs) s.legs legs w)) in
      let one = copies-write-work T s new leg k c in
      again bs d s mid legs chunk (record {
        keeps = rest.keeps;
        acts = λ is_honest. acts-append T.model s new (copy_write_each new legs (further chunk) (d ∷ bs)) [] [] (copies-write-acts T s new leg k c) (rest.acts is_honest);
        work_less = omega (arith, rest.work_less, one.work_less);
      })
    where
      -- the legs in the middle are not seen at the end
      again : (bs : List Block) (d : Block) (s : StripeState Leg) (mid legs : List Leg) (chunk : Chunk)
          → RunCopied T s (copy_write_each (written_on s mid chunk) legs (further chunk) (d ∷ bs)) leg (suc (length (d ∷ bs)))
          → RunCopied T s (copy_write_each (written_on s legs chunk) legs (further chunk) (d ∷ bs)) leg (suc (length (d ∷ bs)))
      again [] d s mid legs chunk run = run
      again (x ∷ bs) d s mid legs chunk run = run

-- what the legs hold is seen after the writes as the writes of what they hold
pub seen-write_each : {L : Type 0} (model : L → Leg) (legs : List L) (bs : List Block) (old : StripeState L) (chunk : Chunk) → seen model (copy_write_each old legs chunk bs) ≡ copy_write_each (seen model old) (map model legs) chunk bs
seen-write_each model legs [] old chunk = refl
seen-write_each {L} model legs (b ∷ []) old chunk =
    let whole : Bool → StripeState L = λ v. cond v (record (with_table (chunk_copied chunk.length (table old)) old) { legs = legs; chunk = None }) (record old { legs = legs; chunk = Some (further chunk) }) in
    let held : Bool → StripeState Leg = λ v. cond v (record (with_table (chunk_copied chunk.length (table old)) (seen model old)) { legs = map model legs; chunk = None }) (record (seen model old) { legs = map model legs; chunk = Some (further chunk) }) in
    elim (chunk.written + 1 == chunk.length) as (λ v. seen model (whole v) ≡ held v) [ true ↦ refl | false ↦ refl ]
seen-write_each model legs (b ∷ (c ∷ bs)) old chunk = seen-write_each model legs (c ∷ bs) (written_on old legs chunk) (further chunk)
