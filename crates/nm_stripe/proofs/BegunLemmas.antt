-- A write that has begun, of a run or of a part: what it leaves of the stripe.
use Rattle.std.proofs.Common.{◌≡◌, ◌≢◌, ⊎_elim, ℕ, IsTrue, None, sym, ap, subst, arith}
use Rattle.nm_choice.specs.declared.leg_state.LegState.TheVariants.{Joining}
use Rattle.nm_fanout.proofs.Laying.{length-each}
use Rattle.nm_fanout.specs.declared.block_data.Data.{Data}
use Rattle.nm_fanout.specs.declared.block_data.Data.TheVariants.{Cut, Zero, Part, ZeroPart}
use Rattle.nm_fanout.specs.declared.record_data.RecordData.{RecordData}
use Rattle.nm_fanout.specs.declared.record_data.RecordData.TheVariants as kept
use Rattle.nm_fanout.specs.Data.{data_blocks}
use Rattle.nm_fanout.specs.RecordData.{blocks_in}
use Rattle.nm_fanout.specs.Records.{busy_on}
use Rattle.nm_fanout.specs.Runs.{each_block}
use Rattle.nm_leg.specs.Leg.{IsOutside, LegType}
use Rattle.nm_rules.specs.Flushed.{KeepsDurable}
use Rattle.nm_rules.specs.Invariant.{Keeps}
use Rattle.nm_rules.specs.Joining.{KeepsWork}
use Rattle.nm_rules.specs.RunBegin.{BeginsRun}
use Rattle.nm_rules.specs.Shape.{SameShape}
use Rattle.nm_rules.specs.State.{StripeState, leg_state}
use Rattle.nm_rules.proofs.FlushedLemmas.{begins-durable}
use Rattle.nm_rules.proofs.JoiningStepLemmas.{begins-work}
use Rattle.nm_rules.proofs.RunFlushedLemmas.{begins_run-durable}
use Rattle.nm_rules.proofs.RunJoiningLemmas.{begins_run-shape, begins_run-work}
use Rattle.nm_rules.proofs.ShapeLemmas.{begins-shape}
use Rattle.nm_stripe.specs.Begin.{BeginsWith}

-- a block outside one block is another
other-block : (block b : ℕ) → IsOutside block 1 b → block ≢ b
other-block block b out = ⊎_elim (λ low. λ e. omega (arith, low, e)) (λ high. λ e. omega (arith, high, e)) out

module _ {L : Type 0} (type : LegType L) (old new : StripeState L) (block ticket : ℕ) where
  pub begun-shape : (bytes : Data) → BeginsWith type old new block bytes ticket → SameShape old new
  begun-shape (Cut cut) is = begins_run-shape type old new block (each_block (kept.Cut cut)) ticket is
  begun-shape (Zero count) is = begins_run-shape type old new block (each_block (kept.Zero count)) ticket is
  begun-shape (Part from bytes) is = begins-shape type old new block (Part from bytes) ticket is
  begun-shape (ZeroPart from len) is = begins-shape type old new block (ZeroPart from len) ticket is

  pub begun-states : (bytes : Data) → BeginsWith type old new block bytes ticket → new.states ≡ old.states
  begun-states (Cut cut) is = ap (λ (s : StripeState L). s.states) is.after
  begun-states (Zero count) is = ap (λ (s : StripeState L). s.states) is.after
  begun-states (Part from bytes) is = ap (λ (s : StripeState L). s.states) is.after
  begun-states (ZeroPart from len) is = ap (λ (s : StripeState L). s.states) is.after

  -- what is left to copy to the leg j stays
  pub begun-work : (j : ℕ) (bytes : Data) → Keeps type old → leg_state j old ≡ Joining → BeginsWith type old new block bytes ticket → KeepsWork j old new
  begun-work j (Cut cut) k joins is = begins_run-work type old new j block (each_block (kept.Cut cut)) ticket k joins is
  begun-work j (Zero count) k joins is = begins_run-work type old new j block (each_block (kept.Zero count)) ticket k joins is
  begun-work j (Part from bytes) k joins is = begins-work j old new type block (Part from bytes) ticket k joins is
  begun-work j (ZeroPart from len) k joins is = begins-work j old new type block (ZeroPart from len) ticket k joins is

  module _ (b : ℕ) (was_free : busy_on b old.records ≡ None) where
    run-durable : (d : RecordData) → IsOutside block (blocks_in d) b → BeginsRun old new block (each_block d) ticket → KeepsDurable type.model b old new
    run-durable d out is = begins_run-durable type old new b was_free block (each_block d) ticket (subst (λ (n : ℕ). IsOutside block n b) (sym (length-each d)) out) is

    -- what is durable at each block that it does not write stays
    pub begun-durable : (bytes : Data) → IsTrue type.honest → IsOutside block (data_blocks bytes) b → BeginsWith type old new block bytes ticket → KeepsDurable type.model b old new
    begun-durable (Cut cut) is_honest out is = run-durable (kept.Cut cut) out is
    begun-durable (Zero count) is_honest out is = run-durable (kept.Zero count) out is
    begun-durable (Part from bytes) is_honest out is = begins-durable type old new b was_free is_honest block (Part from bytes) ticket (other-block block b out) is
    begun-durable (ZeroPart from len) is_honest out is = begins-durable type old new b was_free is_honest block (ZeroPart from len) ticket (other-block block b out) is
