-- What the calls for a run do to a medium as a call of the leg that it keeps.
use Rattle.std.proofs.Common.{◌≡◌, ⊎_elim, ℕ, ◌+◌, ◌%◌, ◌^◌, ◌<◌, ◌≤◌, Bool, true, false, IsTrue, IsFalse, List, length, refl, ap, sym, ◌∙◌, subst, arith, inl, inr, Result, Ok, slice_get}
use Rattle.std.specs.Prelude.{Some}
use Rattle.nm_replay.proofs.Arrays.{same_by_slice_get}
use Rattle.nm_leg.specs.Leg.{block_of, blocks_in, blocks_of, CallsLeg, cut_into, IsOutside, Leg, ReadsLeg, set_run, SyncsLeg, WritesLeg}
use Rattle.nm_leg.proofs.RunLemmas.{get-cut_into, holds-cut, length-cut_into, set_run-inside, set_run-outside, where_is}
use Rattle.nm_geometry.specs.Geometry.{Geometry, IsGeometry, stripe_blocks}
use Rattle.nm_file_leg.specs.Medium.{Held, window, SyncsMedium, Kept}
use Rattle.nm_file_leg.specs.Blocks.{first_byte, bytes_at, blocks_from, leg_on, length-blocks_from, same_length}
use Rattle.nm_file_leg.specs.Runs.{run_places, OwnsRun, IsApart, ReadsRun, WritesRun}
use Rattle.nm_file_leg.specs.FileLeg.{OwnsBlocks, KeepsBlocks, FileRules}
use Rattle.nm_file_leg.specs.Remembered.{Remembered}
use Rattle.nm_file_leg.proofs.BlockLemmas.{get-blocks_from, same-get, same-blocks, bytes-same}
use Rattle.nm_file_leg.proofs.PlaceLemmas.{blocks-apart}

-- a call that succeeds counts no fault
pub calls-succeeded : (s : ℕ) (p : Geometry) (f : ℕ) (old new : Held) → CallsLeg true (leg_on old s p f) (leg_on new s p f)
calls-succeeded s p f old new = record {
  contents_length = same_length s p (stripe_blocks s p) new.contents old.contents;
  durable_length = same_length s p (stripe_blocks s p) new.durable old.durable;
  faults = refl;
  fault_moves = λ q. absurd (let e : ⊥ = cc in e);
}

-- a call that fails counts one
pub calls-failed : (s : ℕ) (p : Geometry) (f g : ℕ) (old new : Held) → g ≡ (f + 1) % 2 ^ 64 → CallsLeg false (leg_on old s p f) (leg_on new s p g)
calls-failed s p f g old new counted = record {
  contents_length = same_length s p (stripe_blocks s p) new.contents old.contents;
  durable_length = same_length s p (stripe_blocks s p) new.durable old.durable;
  faults = counted;
  fault_moves = λ q. λ same. let e : ⊥ = omega (arith, counted, same) in e;
}

-- a run was read
pub reads-run : (honest succeeded : Bool) (s : ℕ) (p : Geometry) (f at : ℕ) (old new : Held) (filled : List ℕ)
    → IsTrue succeeded → at + blocks_in filled ≤ stripe_blocks s p → (IsTrue honest → OwnsBlocks old s p) → ReadsRun honest succeeded (run_places s p at) old new filled
    → ReadsLeg honest true at (leg_on old s p f) (leg_on new s p f) filled
reads-run honest succeeded s p f at old new filled done inside owns reads = record {
  calls = calls-succeeded s p f old new;
  found = λ is_honest _.
      let all : OwnsRun old (run_places s p at) (blocks_in filled) = λ i low. owns is_honest (at + i) (omega (arith, low, inside)) in
      holds-cut (blocks_in filled) at filled (blocks_from s p 0 (stripe_blocks s p) old.contents) (λ i below.
      let e : 0 + (at + i) ≡ at + i = omega arith in
      get-blocks_from s p 0 (stripe_blocks s p) (at + i) old.contents (omega (arith, below, inside)) ∙ ap (λ (k : ℕ). Some (block_of (bytes_at s p k old.contents))) e
      ∙ ap (λ (b : List ℕ). Some (block_of b)) (reads.found is_honest done all i below));
  contents = λ is_honest. ap (λ (h : Held). blocks_from s p 0 (stripe_blocks s p) h.contents) (reads.same is_honest);
  durable = λ is_honest. ap (λ (h : Held). blocks_from s p 0 (stripe_blocks s p) h.durable) (reads.same is_honest);
}

-- a read failed
pub reads-failed : (honest succeeded : Bool) (s : ℕ) (p : Geometry) (f g at : ℕ) (old new : Held) (filled : List ℕ)
    → g ≡ (f + 1) % 2 ^ 64 → ReadsRun honest succeeded (run_places s p at) old new filled
    → ReadsLeg honest false at (leg_on old s p f) (leg_on new s p g) filled
reads-failed honest succeeded s p f g at old new filled counted reads = record {
  calls = calls-failed s p f g old new counted;
  found = λ _ q. absurd (let e : ⊥ = cc in e);
  contents = λ is_honest. ap (λ (h : Held). blocks_from s p 0 (stripe_blocks s p) h.contents) (reads.same is_honest);
  durable = λ is_honest. ap (λ (h : Held). blocks_from s p 0 (stripe_blocks s p) h.durable) (reads.same is_honest);
}

module _ (honest succeeded : Bool) (s : ℕ) (p : Geometry) (at : ℕ) (bytes : List ℕ) (old new : Held)
    (bounds : IsGeometry p) (own : s < p.stripes) (writes : WritesRun honest succeeded (run_places s p at) bytes old new) where
  -- every other block lies apart from the run
  pub run-apart : (k : ℕ) → IsOutside at (blocks_in bytes) k → IsApart (run_places s p at) (blocks_in bytes) (first_byte s p k) 512
  run-apart k out i low = blocks-apart s p (at + i) k bounds own (λ same. ⊎_elim (λ under. omega (arith, under, same)) (λ over. omega (arith, over, same, low)) out)

  -- a write leaves the bytes of every other block
  others-contents : IsTrue honest → (k : ℕ) → IsOutside at (blocks_in bytes) k → slice_get (blocks_from s p 0 (stripe_blocks s p) new.contents) k ≡ slice_get (blocks_from s p 0 (stripe_blocks s p) old.contents) k
  others-contents is_honest k out = same-get s p 0 (stripe_blocks s p) k new.contents old.contents (λ (low : k < stripe_blocks s p).
      let e : k ≡ 0 + k = omega arith in
      subst (λ (i : ℕ). bytes_at s p i new.contents ≡ bytes_at s p i old.contents) e (writes.others is_honest _ 512 (omega arith) (run-apart k out)))

  others-durable : IsTrue honest → (k : ℕ) → IsOutside at (blocks_in bytes) k → slice_get (blocks_from s p 0 (stripe_blocks s p) new.durable) k ≡ slice_get (blocks_from s p 0 (stripe_blocks s p) old.durable) k
  others-durable is_honest k out = same-get s p 0 (stripe_blocks s p) k new.durable old.durable (λ (low : k < stripe_blocks s p).
      let e : k ≡ 0 + k = omega arith in
      subst (λ (i : ℕ). bytes_at s p i new.durable ≡ bytes_at s p i old.durable) e (writes.durable_others is_honest _ 512 (omega arith) (run-apart k out)))

  -- a run was written
  pub writes-run : (f : ℕ) → IsTrue succeeded → at + blocks_in bytes ≤ stripe_blocks s p → (IsTrue honest → OwnsBlocks old s p) → WritesLeg honest true at bytes (leg_on old s p f) (leg_on new s p f)
  writes-run f done inside owns = record {
    calls = calls-succeeded s p f old new;
    written = λ is_honest _.
        let n = stripe_blocks s p in
        let all : OwnsRun old (run_places s p at) (blocks_in bytes) = λ i low. owns is_honest (at + i) (omega (arith, low, inside)) in
        let count : length (cut_into (blocks_in bytes) bytes) ≡ blocks_in bytes = length-cut_into (blocks_in bytes) bytes in
        let long : length (blocks_from s p 0 n old.contents) ≡ n = length-blocks_from s p 0 n old.contents in
        same_by_slice_get _ _ (λ k.
        elim (where_is at (blocks_in bytes) k) as (λ _. slice_get (blocks_from s p 0 n new.contents) k ≡ slice_get (set_run at (blocks_of bytes) (blocks_from s p 0 n old.contents)) k) [
          | inl inner ↦
              let i : ℕ = inner.0 in
              let e : 0 + (at + i) ≡ at + i = omega arith in
              ap (λ (j : ℕ). slice_get (blocks_from s p 0 n new.contents) j) (sym inner.2)
              ∙ get-blocks_from s p 0 n (at + i) new.contents (omega (arith, inner.1, inside)) ∙ ap (λ (j : ℕ). Some (block_of (bytes_at s p j new.contents))) e
              ∙ ap (λ (b : List ℕ). Some (block_of b)) (writes.written is_honest done all i inner.1)
              ∙ sym (get-cut_into (blocks_in bytes) i bytes inner.1)
              ∙ sym (set_run-inside at i (blocks_of bytes) (blocks_from s p 0 n old.contents) (omega (arith, inner.1, count)) (omega (arith, count, long, inside)))
              ∙ ap (λ (j : ℕ). slice_get (set_run at (blocks_of bytes) (blocks_from s p 0 n old.contents)) j) inner.2
          | inr out ↦
              others-contents is_honest k out
              ∙ sym (set_run-outside at k (blocks_of bytes) (blocks_from s p 0 n old.contents) (subst (λ (m : ℕ). IsOutside at m k) (sym count) out))
        ]);
    others = others-contents;
    durable_others = others-durable;
  }

  -- a write failed
  pub writes-failed : (f g : ℕ) → g ≡ (f + 1) % 2 ^ 64 → WritesLeg honest false at bytes (leg_on old s p f) (leg_on new s p g)
  writes-failed f g counted = record {
    calls = calls-failed s p f g old new counted;
    written = λ _ q. absurd (let e : ⊥ = cc in e);
    others = others-contents;
    durable_others = others-durable;
  }

-- nothing was written since the last sync that succeeded, so all is durable without a call
pub syncs-quiet : (honest : Bool) (s : ℕ) (p : Geometry) (f : ℕ) (memory : Remembered) (dirty : Bool) (held : Held) → IsFalse dirty → FileRules honest held s p memory dirty
    → SyncsLeg honest true (leg_on held s p f) (leg_on held s p f)
syncs-quiet honest s p f memory dirty held undirty rules = record {
  calls = calls-succeeded s p f held held;
  durable = λ is_honest _. same-blocks s p (stripe_blocks s p) held.durable held.contents (rules.synced is_honest undirty);
  contents = λ _. refl;
  durable_kept = λ _ k _. refl;
}

-- what was durable stays so
pub durable-kept : {E : Type 0} (honest : Bool) (s : ℕ) (p : Geometry) (k : ℕ) (result : Result (Unit {0}) E) (old new : Held) → SyncsMedium honest result old new → IsTrue honest
    → slice_get (blocks_from s p 0 (stripe_blocks s p) old.durable) k ≡ slice_get (blocks_from s p 0 (stripe_blocks s p) old.contents) k
    → slice_get (blocks_from s p 0 (stripe_blocks s p) new.durable) k ≡ slice_get (blocks_from s p 0 (stripe_blocks s p) old.durable) k
durable-kept honest s p k result old new syncs is_honest was =
    same-get s p 0 (stripe_blocks s p) k new.durable old.durable (λ (low : k < stripe_blocks s p).
    let e : 0 + k ≡ k = omega arith in
    subst (λ (i : ℕ). bytes_at s p i new.durable ≡ bytes_at s p i old.durable) (sym e)
    (syncs.durable_kept is_honest _ _ (bytes-same s p (stripe_blocks s p) k old.durable old.contents low was)))

-- the medium was synced, and every block was kept
pub syncs-medium : {E : Type 0} (honest : Bool) (s : ℕ) (p : Geometry) (f : ℕ) (result : Result (Unit {0}) E) (old new : Held)
    → (IsTrue honest → KeepsBlocks old s p (stripe_blocks s p)) → result ≡ Ok tt → SyncsMedium honest result old new
    → SyncsLeg honest true (leg_on old s p f) (leg_on new s p f)
syncs-medium honest s p f result old new keeps done syncs = record {
  calls = calls-succeeded s p f old new;
  durable = λ is_honest _. same-blocks s p (stripe_blocks s p) new.durable old.contents (λ k below.
      let all : (from many : ℕ) → Kept old from many → window from many new.durable ≡ window from many old.contents = rw done at (syncs.durable is_honest) in
      all _ _ (keeps is_honest k below));
  contents = λ is_honest. ap (λ (b : List ℕ). blocks_from s p 0 (stripe_blocks s p) b) (syncs.contents is_honest);
  durable_kept = λ is_honest k was. durable-kept honest s p k result old new syncs is_honest was;
}

-- the medium's sync failed
pub syncs-failed : {E : Type 0} (honest : Bool) (s : ℕ) (p : Geometry) (f g : ℕ) (result : Result (Unit {0}) E) (old new : Held)
    → g ≡ (f + 1) % 2 ^ 64 → SyncsMedium honest result old new
    → SyncsLeg honest false (leg_on old s p f) (leg_on new s p g)
syncs-failed honest s p f g result old new counted syncs = record {
  calls = calls-failed s p f g old new counted;
  durable = λ _ q. absurd (let e : ⊥ = cc in e);
  contents = λ is_honest. ap (λ (b : List ℕ). blocks_from s p 0 (stripe_blocks s p) b) (syncs.contents is_honest);
  durable_kept = λ is_honest k was. durable-kept honest s p k result old new syncs is_honest was;
}

-- what a call does is done whatever is marked
calls-marked : {succeeded : Bool} {old new : Leg} {before after : List Bool} → CallsLeg succeeded old new → CallsLeg succeeded (record old { unsynced = before }) (record new { unsynced = after })
calls-marked calls = record { contents_length = calls.contents_length; durable_length = calls.durable_length; faults = calls.faults; fault_moves = calls.fault_moves }

pub reads-marked : {honest succeeded : Bool} {at : ℕ} {bytes : List ℕ} {old new : Leg} {before after : List Bool}
    → ReadsLeg honest succeeded at old new bytes → ReadsLeg honest succeeded at (record old { unsynced = before }) (record new { unsynced = after }) bytes
reads-marked reads = record { calls = calls-marked reads.calls; found = reads.found; contents = reads.contents; durable = reads.durable }

pub writes-marked : {honest succeeded : Bool} {at : ℕ} {bytes : List ℕ} {old new : Leg} {before after : List Bool}
    → WritesLeg honest succeeded at bytes old new → WritesLeg honest succeeded at bytes (record old { unsynced = before }) (record new { unsynced = after })
writes-marked writes = record { calls = calls-marked writes.calls; written = writes.written; others = writes.others; durable_others = writes.durable_others }

pub syncs-marked : {honest succeeded : Bool} {old new : Leg} {before after : List Bool}
    → SyncsLeg honest succeeded old new → SyncsLeg honest succeeded (record old { unsynced = before }) (record new { unsynced = after })
syncs-marked syncs = record { calls = calls-marked syncs.calls; durable = syncs.durable; contents = syncs.contents; durable_kept = syncs.durable_kept }
