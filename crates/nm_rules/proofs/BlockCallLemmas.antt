-- A call of a leg for a run of one block is a call for that block.
use Rattle.std.proofs.Common.{◌≡◌, ◌≢◌, ⊎_elim, inl, inr, ℕ, ◌/◌, Bool, List, [], ◌∷◌, length, ap, ◌∙◌, arith}
use Rattle.std.proofs.lemmas.Bool.{cases_lt}
use Rattle.std.proofs.lemmas.List.{take_all}
use Rattle.nm_replay.specs.declared.block.Block.{Block}
use Rattle.nm_leg.specs.Leg.{IsOutside, Leg, LegType, WritesLeg, block_of, blocks_in, blocks_of, cut_into, set_run}
use Rattle.nm_leg.specs.LegCalls.{WritesLegAt}
use Rattle.nm_rules.specs.BlockCalls.{WritesBlock, WritesBlockAt}

-- 512 bytes are one block
one-in : (bytes : List ℕ) → length bytes ≡ 512 → blocks_in bytes ≡ 1
one-in bytes whole = ap (λ (n : ℕ). n / 512) whole

one-of : (bytes : List ℕ) → length bytes ≡ 512 → blocks_of bytes ≡ block_of bytes ∷ []
one-of bytes whole =
    ap (λ (n : ℕ). cut_into n bytes) (one-in bytes whole)
    ∙ ap (λ (xs : List ℕ). block_of xs ∷ []) (take_all 512 bytes (omega (arith, whole)))

-- each other block is outside of it
one-outside : (bytes : List ℕ) → length bytes ≡ 512 → (at k : ℕ) → k ≢ at → IsOutside at (blocks_in bytes) k
one-outside bytes whole at k other =
    ⊎_elim (λ low. inl low) (λ high. inr (omega (arith, high, other, one-in bytes whole))) (cases_lt k at)

module _ (honest succeeded : Bool) (at : ℕ) (bytes : List ℕ) (old new : Leg) (whole : length bytes ≡ 512) where
  -- and a write writes it
  pub one-writes : WritesLeg honest succeeded at bytes old new → WritesBlock honest succeeded at bytes old new
  one-writes w = record {
    calls = w.calls;
    written = λ is_honest done. w.written is_honest done ∙ ap (λ (bs : List Block). set_run at bs old.contents) (one-of bytes whole);
    others = λ is_honest k other. w.others is_honest k (one-outside bytes whole at k other);
    durable_others = λ is_honest k other. w.durable_others is_honest k (one-outside bytes whole at k other);
  }

module _ {L : Type 0} (type : LegType L) (succeeded : Bool) (place at : ℕ) (bytes : List ℕ) (old new : List L) (whole : length bytes ≡ 512) where
  pub one-writes_at : WritesLegAt type succeeded place at bytes old new → WritesBlockAt type succeeded place at bytes old new
  one-writes_at w = record { before = w.before; after = w.after; change = w.change; writes = one-writes type.honest succeeded at bytes (type.model w.before) (type.model w.after) whole w.writes }
