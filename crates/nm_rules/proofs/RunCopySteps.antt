-- A read of several blocks of a chunk is a read of each of them, in order.
use Rattle.std.proofs.Common.{◌≡◌, ℕ, suc, ◌+◌, ◌<◌, ◌≤◌, ◌==◌, ◌||◌, Bool, true, not, IsTrue, List, [], ◌∷◌, ◌++◌, length, length-append, None, Some, is_some, refl, sym, ap, ◌∙◌, subst, arith, slice_get, slice_set, eq-eqb}
use Rattle.std.proofs.lemmas.Bool.Decides.{nat_tests}
use Rattle.std.proofs.lemmas.List.{set-set}
use Rattle.std.proofs.lemmas.Option.{slice_get_within}
use Rattle.nm_replay.specs.declared.block.Block.{Block}
use Rattle.nm_replay.specs.Array.{Array}
use Rattle.nm_replay.proofs.Arrays.{slice_get-set_same}
use Rattle.nm_leg.specs.Leg.{HoldsRun, LegType}
use Rattle.nm_rules.specs.BlockCalls.{ReadsBlockAt}
use Rattle.nm_regions.specs.declared.copy_place.CopyPlace.{CopyPlace}
use Rattle.nm_regions.specs.Table.{next_behind}
use Rattle.std.specs.Option.{option_or}
use Rattle.nm_rules.specs.declared.refusal.Refusal.TheVariants.{OtherCopy}
use Rattle.nm_rules.specs.Acts.{Acts}
use Rattle.nm_rules.specs.Cause.{when}
use Rattle.nm_rules.specs.Copy.{CopiesRead, GoesOn, after_copy_read}
use Rattle.nm_rules.specs.Invariant.{Keeps}
use Rattle.nm_rules.specs.RunCalls.{ReadsRunAt}
use Rattle.nm_rules.specs.State.{Chunk, StripeState, copy_start, table, work}
use Rattle.nm_rules.proofs.ActsLemmas.{acts-append, acts-none}
use Rattle.nm_rules.proofs.CopySteps.{copies-read-acts, copies-read-keeps, goes-ready}
use Rattle.nm_rules.proofs.RunCallLemmas.{first-read}
use Rattle.nm_rules.proofs.RunReadSteps.{AtRest, reads-rest}
use Rattle.nm_rules.proofs.WorkLemmas.{copies-read-work}

-- the stripe after each of these blocks of a chunk was read from the master, in order
abbrev pub copy_read_each : {L : Type 0} → StripeState L → List L → CopyPlace → Chunk → List Block → StripeState L
copy_read_each old legs copy chunk [] = old
copy_read_each old legs copy chunk (b ∷ bs) =
    copy_read_each (after_copy_read old legs copy chunk b) legs copy
    (record chunk { blocks = chunk.blocks ++ b ∷ [] }) bs

some_turn : 0 < 840
some_turn = omega arith

abbrev pub longer : Chunk → Block → Chunk
longer chunk b = record chunk { blocks = chunk.blocks ++ b ∷ [] }

-- once a chunk is open its copy goes on, with the next block
goes-next : {L : Type 0} {from : ℕ} (type : LegType L) (old : StripeState L) (legs : List L) (leg : ℕ) (copy : CopyPlace) (chunk : Chunk) (b : Block) → Keeps type old → GoesOn old leg from copy chunk → GoesOn (after_copy_read old legs copy chunk b) leg from copy (longer chunk b)
goes-next {L} {from} type old legs leg copy chunk b k on =
    let ready = goes-ready type old leg copy chunk k on in
    let own : (copy.leg == leg) ≡ true = eq-eqb copy.leg leg ready.leg_is in
    record {
      no_cause = on.no_cause;
      somewhere = ap (λ (v : Bool). v || is_some (next_behind leg from (table old))) own;
      no_more_cause = ap (λ (v : Bool). option_or (when (not v) (OtherCopy copy.leg)) None) own;
      copy_is = refl;
      chunk_is = refl;
    }

-- what reads of several blocks of a chunk leave
pub record RunCopied {L : Type 0} (type : LegType L) (old new : StripeState L) (leg count : ℕ) : Type 0 where
  pub keeps : Keeps type new
  pub acts : IsTrue type.honest → Acts type.model old new []
  pub work_less : work leg new + count ≡ work leg old

module _ {L : Type 0} (type : LegType L) (leg : ℕ) (copy : CopyPlace) where
  abbrev here : StripeState L → Chunk → ℕ
  here s chunk = copy_start s.place.region copy + length chunk.blocks

  -- a block that is read, and then the others
  then-rest : {from : ℕ} (s : StripeState L) (legs : List L) (chunk : Chunk) (b : Block) (bs : List Block) → Keeps type s → GoesOn s leg from copy chunk → length chunk.blocks + suc (length bs) ≤ chunk.length
      → ReadsBlockAt type true s.master (here s chunk) s.legs legs b
      → (Keeps type (after_copy_read s legs copy chunk b) → RunCopied type (after_copy_read s legs copy chunk b) (copy_read_each s legs copy chunk (b ∷ bs)) leg (length bs))
      → RunCopied type s (copy_read_each s legs copy chunk (b ∷ bs)) leg (suc (length bs))
  then-rest {from} s legs chunk b bs k on room reads go =
      let short : length chunk.blocks < chunk.length = omega (arith, room) in
      let c : CopiesRead type s (after_copy_read s legs copy chunk b) leg from = record {
        copy = copy;
        chunk = chunk;
        bytes = b;
        on = on;
        called = record { not_filled = grind (arith, nat_tests); reads = reads };
        after = refl;
      } in
      let rest = go (copies-read-keeps type s (after_copy_read s legs copy chunk b) leg k c) in
      let one = copies-read-work type s (after_copy_read s legs copy chunk b) leg k c in
      record {
        keeps = rest.keeps;
        acts = λ is_honest. acts-append type.model s (after_copy_read s legs copy chunk b) (copy_read_each s legs copy chunk (b ∷ bs)) [] [] (copies-read-acts type s (after_copy_read s legs copy chunk b) leg k c is_honest) (rest.acts is_honest);
        work_less = omega (arith, rest.work_less, one.work_less);
      }

  -- the next block's place
  place-next : (s : StripeState L) (chunk : Chunk) (b : Block) → here s chunk + 1 ≡ here s (longer chunk b)
  place-next s chunk b = omega (arith, length-append chunk.blocks (b ∷ []))

  rest-copied : {from : ℕ} (bs : List Block) (s : StripeState L) (chunk : Chunk) → Keeps type s → GoesOn s leg from copy chunk → length chunk.blocks + length bs ≤ chunk.length → AtRest type s.master 0 some_turn (here s chunk) bs s.legs
      → RunCopied type s (copy_read_each s s.legs copy chunk bs) leg (length bs)
  rest-copied [] s chunk k on room r = record { keeps = k; acts = λ is_honest. acts-none type.model s k.numbers.most; work_less = omega arith }
  rest-copied (b ∷ bs) s chunk k on room r =
      then-rest s s.legs chunk b bs k on room (reads-rest type s.master 0 some_turn (here s chunk) b bs s.legs r)
      (λ keeps. rest-copied bs (after_copy_read s s.legs copy chunk b) (longer chunk b) keeps (goes-next type s s.legs leg copy chunk b k on) (omega (arith, room, length-append chunk.blocks (b ∷ [])))
      (subst (λ (at : ℕ). AtRest type s.master 0 some_turn at bs s.legs) (place-next s chunk b)
      (record { after = r.after; now = r.now; same = r.same; holds = λ is_honest. (r.holds is_honest).1 })))

  -- the master is called once for all of them
  pub run-copied : {from : ℕ} (b : Block) (bs : List Block) (s : StripeState L) (legs : List L) (chunk : Chunk) → Keeps type s → GoesOn s leg from copy chunk → length chunk.blocks + suc (length bs) ≤ chunk.length
      → ReadsRunAt type true s.master (here s chunk) (b ∷ bs) s.legs legs
      → RunCopied type s (copy_read_each s legs copy chunk (b ∷ bs)) leg (suc (length bs))
  run-copied b bs s legs chunk k on room w =
      let first = first-read type true s.master (here s chunk) b bs s.legs legs w in
      let now : slice_get legs s.master ≡ Some w.after = ap (λ (ls : List L). slice_get ls s.master) w.change.others ∙ slice_get-set_same s.legs s.master w.after (slice_get_within s.legs s.master w.before w.change.was) in
      let same : legs ≡ slice_set legs s.master w.after = w.change.others ∙ sym (set-set s.legs s.master w.after w.after) ∙ ap (λ (ls : List L). slice_set ls s.master w.after) (sym w.change.others) in
      then-rest s legs chunk b bs k on room first
      (λ keeps. rest-copied bs (after_copy_read s legs copy chunk b) (longer chunk b) keeps (goes-next type s legs leg copy chunk b k on) (omega (arith, room, length-append chunk.blocks (b ∷ [])))
      (subst (λ (at : ℕ). AtRest type s.master 0 some_turn at bs legs) (place-next s chunk b)
      (record { after = w.after; now = now; same = same; holds = λ is_honest. subst (λ (zs : Array). HoldsRun (here s chunk + 1) bs zs) (sym (w.reads.contents is_honest)) (w.reads.found is_honest refl).1 })))
