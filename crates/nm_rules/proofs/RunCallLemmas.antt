-- A call of a leg for a run of bytes is a call for the run's blocks.
use Rattle.std.proofs.Common.{◌≡◌, ℕ, zero, suc, Bool, false, List, ◌∷◌, length, drop, refl, ap, subst}
use Rattle.nm_replay.specs.declared.block.Block.{Block}
use Rattle.nm_leg.specs.Leg.{IsOutside, Leg, LegType, ReadsLeg, WritesLeg, blocks_in, blocks_of, cut_into}
use Rattle.nm_leg.specs.LegCalls.{ReadsLegAt, WritesLegAt}
use Rattle.nm_rules.specs.BlockCalls.{ReadsBlockAt}
use Rattle.nm_rules.specs.RunCalls.{ReadsRun, ReadsRunAt, WritesRun, WritesRunAt}

-- as many blocks are cut
length-cut : (n : ℕ) (bytes : List ℕ) → length (cut_into n bytes) ≡ n
length-cut zero bytes = refl
length-cut (suc n) bytes = ap (λ (k : ℕ). suc k) (length-cut n (drop 512 bytes))

pub length-blocks : (bytes : List ℕ) → length (blocks_of bytes) ≡ blocks_in bytes
length-blocks bytes = length-cut (blocks_in bytes) bytes

module _ (honest succeeded : Bool) (at : ℕ) (bytes : List ℕ) (old new : Leg) where
  pub run-reads : ReadsLeg honest succeeded at old new bytes → ReadsRun honest succeeded at (blocks_of bytes) old new
  run-reads r = record { calls = r.calls; found = r.found; contents = r.contents; durable = r.durable }

  out-of : (k : ℕ) → IsOutside at (length (blocks_of bytes)) k → IsOutside at (blocks_in bytes) k
  out-of k out = subst (λ (n : ℕ). IsOutside at n k) (length-blocks bytes) out

  pub run-writes : WritesLeg honest succeeded at bytes old new → WritesRun honest succeeded at (blocks_of bytes) old new
  run-writes w = record {
    calls = w.calls;
    written = w.written;
    others = λ is_honest k out. w.others is_honest k (out-of k out);
    durable_others = λ is_honest k out. w.durable_others is_honest k (out-of k out);
  }

module _ {L : Type 0} (type : LegType L) (succeeded : Bool) (place at : ℕ) (bytes : List ℕ) (old new : List L) where
  -- the same of one leg of a list
  pub run-reads_at : ReadsLegAt type succeeded place at old new bytes → ReadsRunAt type succeeded place at (blocks_of bytes) old new
  run-reads_at r = record { before = r.before; after = r.after; change = r.change; reads = run-reads type.honest succeeded at bytes (type.model r.before) (type.model r.after) r.reads }

  pub run-writes_at : WritesLegAt type succeeded place at bytes old new → WritesRunAt type succeeded place at (blocks_of bytes) old new
  run-writes_at w = record { before = w.before; after = w.after; change = w.change; writes = run-writes type.honest succeeded at bytes (type.model w.before) (type.model w.after) w.writes }

-- a read of a run reads its first block
pub first-read : {L : Type 0} (type : LegType L) (succeeded : Bool) (place at : ℕ) (b : Block) (bs : List Block) (old new : List L) → ReadsRunAt type succeeded place at (b ∷ bs) old new → ReadsBlockAt type succeeded place at old new b
first-read type succeeded place at b bs old new r = record {
  before = r.before;
  after = r.after;
  change = r.change;
  reads = record {
    calls = r.reads.calls;
    found = λ is_honest done. (r.reads.found is_honest done).0;
    contents = r.reads.contents;
    durable = r.reads.durable;
  };
}

-- one that failed says nothing of any block
pub failed-read : {L : Type 0} (type : LegType L) (place at here : ℕ) (b : Block) (bs : List Block) (old new : List L) → ReadsRunAt type false place at bs old new → ReadsBlockAt type false place here old new b
failed-read type place at here b bs old new r = record {
  before = r.before;
  after = r.after;
  change = r.change;
  reads = record {
    calls = r.reads.calls;
    found = λ is_honest done. absurd (let e : ⊥ = cc in e);
    contents = r.reads.contents;
    durable = r.reads.durable;
  };
}
