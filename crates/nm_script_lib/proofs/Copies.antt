-- Blocks that are copied one after the other.
use Rattle.std.proofs.Common.{◌≡◌, ◌≢◌, ⊎_elim, ℕ, ◌+◌, ◌<◌, ◌≤◌, length, length-set, slice_set, Some, sym, ap, subst, ◌∙◌, arith}
use Rattle.std.specs.List.{slice_get}
use Rattle.std.proofs.lemmas.Bool.{cases_lt}
use Rattle.std.proofs.lemmas.Option.{slice_get_past}
use Rattle.nm_replay.specs.declared.block.Block.{Block}
use Rattle.nm_replay.specs.Array.{Array}
use Rattle.nm_replay.proofs.Arrays.{same_by_slice_get, slice_get-set_same, slice_get-set_other}

-- the first so many blocks are those of another array, which is as long
pub record CopiedBelow (n : ℕ) (from into : Array) : Type 0 where
  pub long : length into ≡ length from
  pub below : (k : ℕ) → k < n → slice_get into k ≡ slice_get from k

pub none-copied : (from into : Array) → length into ≡ length from → CopiedBelow 0 from into
none-copied from into long = record { long = long; below = λ k low. absurd (omega (arith, low)) }

pub one-copied : (n : ℕ) (from old new : Array) (block : Block) → n < length from → slice_get from n ≡ Some block →
    CopiedBelow n from old → new ≡ slice_set old n block → CopiedBelow (n + 1) from new
one-copied n from old new block inside there so_far is = record {
  long = ap (λ (xs : Array). length xs) is ∙ length-set old n block ∙ so_far.long;
  below = λ k low. ⊎_elim
      (λ before.
      let other : n ≢ k = λ e. omega (arith, e, before) in
      ap (λ (xs : Array). slice_get xs k) is ∙ slice_get-set_other old n k block other ∙ so_far.below k before)
      (λ last.
      let here : n ≡ k = omega (arith, low, last) in
      subst (λ (i : ℕ). slice_get new i ≡ slice_get from i) here
      (ap (λ (xs : Array). slice_get xs n) is ∙ slice_get-set_same old n block (omega (arith, inside, so_far.long)) ∙ sym there))
      (cases_lt k n);
}

pub all-copied : (n : ℕ) (from into : Array) → length from ≤ n → CopiedBelow n from into → into ≡ from
all-copied n from into all copied = same_by_slice_get into from (λ k. ⊎_elim
    (λ inside. copied.below k (omega (arith, inside, all)))
    (λ past. slice_get_past into k (omega (arith, past, copied.long)) ∙ sym (slice_get_past from k past))
    (cases_lt k (length from)))
