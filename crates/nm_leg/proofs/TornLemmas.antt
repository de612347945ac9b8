-- A write of a run that failed halfway changes no other block.
use Rattle.std.proofs.Common.{Bool, ◌≡◌, ◌≢◌, ⊎_elim, inl, inr, ℕ, ◌+◌, ◌*◌, ◌/◌, ◌%◌, ◌^◌, ◌<◌, true, false, List, length, length-set, drop, refl, ap, ◌∙◌, arith, slice_get}
use Rattle.std.proofs.lemmas.List.{length-take-le}
use Rattle.nm_replay.specs.declared.block.Block.{Block}
use Rattle.nm_replay.specs.Array.{Array}
use Rattle.nm_replay.proofs.Arrays.{slice_get-set_other}
use Rattle.nm_leg.specs.Leg.{IsOutside, IsRun, WritesLeg, blocks_in, blocks_of, set_run}
use Rattle.nm_leg.specs.TestLegs.{half_of, torn_at, torn_block, torn_run}
use Rattle.nm_leg.proofs.RunLemmas.{length-cut_into, length-set_run, set_run-outside}

-- the second half begins in a block of the run
pub half-inside : (bytes : List ℕ) → 0 < length bytes → length bytes ≡ 512 * blocks_in bytes → blocks_in (half_of bytes) < blocks_in bytes
half-inside bytes some whole =
    let long : length (half_of bytes) ≡ length bytes / 2 = length-take-le (length bytes / 2) bytes (omega arith) in
    omega (arith, long, some, whole)

count : (bytes : List ℕ) → length (blocks_of bytes) ≡ blocks_in bytes
count bytes = length-cut_into (blocks_in bytes) bytes

-- the whole blocks of the first half are put, and the one where it ends is as it was
pub torn-before : (at : ℕ) (bytes : List ℕ) (xs : Array) → slice_get (set_run at (blocks_of (half_of bytes)) xs) (torn_at at bytes) ≡ slice_get xs (torn_at at bytes)
torn-before at bytes xs = set_run-outside at (torn_at at bytes) (blocks_of (half_of bytes)) xs (inr (omega (arith, count (half_of bytes))))

module _ (at blocks : ℕ) (bytes : List ℕ) (was : Block) (xs : Array) (run : IsRun at blocks bytes) where
  torn-long : length (torn_run at bytes was xs) ≡ length xs
  torn-long =
      length-set (set_run at (blocks_of (half_of bytes)) xs) (torn_at at bytes) (torn_block (drop (512 * blocks_in (half_of bytes)) (half_of bytes)) was)
      ∙ length-set_run at (blocks_of (half_of bytes)) xs

  torn-others : (k : ℕ) → IsOutside at (blocks_in bytes) k → slice_get (torn_run at bytes was xs) k ≡ slice_get xs k
  torn-others k out =
      let inside : blocks_in (half_of bytes) < blocks_in bytes = half-inside bytes run.some run.whole in
      let other : torn_at at bytes ≢ k = ⊎_elim (λ low. λ e. omega (arith, low, e)) (λ high. λ e. omega (arith, high, e, inside)) out in
      let outside : IsOutside at (length (blocks_of (half_of bytes))) k = ⊎_elim (λ low. inl low) (λ high. inr (omega (arith, high, inside, count (half_of bytes)))) out in
      slice_get-set_other (set_run at (blocks_of (half_of bytes)) xs) (torn_at at bytes) k (torn_block (drop (512 * blocks_in (half_of bytes)) (half_of bytes)) was) other
      ∙ set_run-outside at k (blocks_of (half_of bytes)) xs outside

  -- so the write failed as a leg's may
  pub torn-writes : {us vs : List Bool} (ys : Array) (faults : ℕ) → (faults + 1) % 2 ^ 64 ≢ faults → ys ≡ torn_run at bytes was xs
      → WritesLeg true false at bytes (record { contents = xs; durable = xs; unsynced = us; faults = faults }) (record { contents = ys; durable = ys; unsynced = vs; faults = (faults + 1) % 2 ^ 64 })
  torn-writes ys faults moves is =
      let long : length ys ≡ length xs = ap (λ (zs : Array). length zs) is ∙ torn-long in
      let others : (k : ℕ) → IsOutside at (blocks_in bytes) k → slice_get ys k ≡ slice_get xs k =
      λ k out. ap (λ (zs : Array). slice_get zs k) is ∙ torn-others k out in
      record {
        calls = record { contents_length = long; durable_length = long; faults = refl; fault_moves = λ failed. moves };
        written = λ is_honest done. absurd (let e : ⊥ = cc in e);
        others = λ is_honest k out. others k out;
        durable_others = λ is_honest k out. others k out;
      }
