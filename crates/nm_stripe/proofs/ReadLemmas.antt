-- A read, from what its calls say to what it keeps, does and answers.
use Rattle.std.proofs.Common.{◌≡◌, ℕ, ◌*◌, ◌/◌, ◌<◌, Bool, true, false, List, [], length, None, Some, IsTrue, sym, ap, ◌∙◌, subst, arith}
use Rattle.nm_replay.specs.declared.block.Block.{Block}
use Rattle.nm_leg.specs.Leg.{Leg, LegType, blocks_in, blocks_of, block_of}
use Rattle.nm_leg.specs.LegCalls.{HasRun}
use Rattle.nm_rules.specs.Acts.{IsExplainedStep}
use Rattle.nm_rules.specs.Array.{contents_at}
use Rattle.nm_rules.specs.Invariant.{HasLegs, Keeps}
use Rattle.nm_rules.specs.Lost.{lost}
use Rattle.nm_rules.specs.Read.{read_leg, turn_after}
use Rattle.nm_rules.specs.RunCalls.{ReadsRunAt}
use Rattle.nm_rules.specs.RunRead.{CallsToReadRun, FailsInReadRun, FindsRun, LosesInReadRun, after_read_run, last_block, read_run_cause}
use Rattle.nm_rules.specs.Runs.{EntryNames, FitsRun}
use Rattle.nm_rules.specs.State.{StripeState, is_last}
use Rattle.nm_rules.proofs.HaltLemmas.{read_fault-keeps}
use Rattle.nm_rules.proofs.LegLemmas.{calls-length}
use Rattle.nm_rules.proofs.LostStepLemmas.{read_lost-keeps, read_lost-acts}
use Rattle.nm_rules.proofs.ReadLemmas.{fails_in_read-explained}
use Rattle.nm_rules.proofs.RunCallLemmas.{length-blocks}
use Rattle.nm_rules.proofs.RunReadLemmas.{fails_in_read_run-last, loses_in_read_run-last}
use Rattle.nm_stripe.specs.Ends.{names_of}
use Rattle.nm_stripe.proofs.LostLemmas.{lost-after, lost-legs_after}

-- each leg has each run of the stripe
pub has-run : {L : Type 0} (model : L → Leg) (s : StripeState L) (leg block : ℕ) (bytes : List ℕ) → HasLegs model s → leg < length s.legs → FitsRun s.place block (blocks_in bytes) → length bytes ≡ 512 * blocks_in bytes → HasRun model s.legs leg block bytes
has-run model s leg block bytes k inside fits whole l at =
    let long : length (model l).contents ≡ s.place.blocks = sym (ap (λ o. length (contents_at model o)) at) ∙ k.lengths leg inside in
    record {
      some = omega (arith, whole, fits.some);
      whole = whole;
      inside = omega (arith, fits.inside, long);
    }

-- a leg that was there is there after its call
pub read-inside : {L : Type 0} (type : LegType L) (succeeded : Bool) (old mid : List L) (block leg : ℕ) (found : List Block) → ReadsRunAt type succeeded leg block found old mid → leg < length old → leg < length mid
read-inside type succeeded old mid block leg found r inside =
    omega (arith, inside, calls-length type.model old mid leg r.before r.after r.change)

module _ {L : Type 0} (type : LegType L) (old mid : StripeState L) (block leg : ℕ) (was is : List ℕ) (fits : FitsRun old.place block (blocks_in was)) (long : length is ≡ length was) (none : read_run_cause old (blocks_in was) ≡ None) (leg_is : read_leg (last_block block (blocks_in was)) old ≡ Some leg) (others : mid ≡ record old { legs = mid.legs }) where
  as-many : blocks_in was ≡ length (blocks_of is)
  as-many = sym (length-blocks is ∙ ap (λ (n : ℕ). n / 512) long)

  called : (succeeded : Bool) → ReadsRunAt type succeeded leg block (blocks_of is) old.legs mid.legs → CallsToReadRun type succeeded old mid.legs block leg (blocks_of is)
  called succeeded reads = record {
    no_cause = subst (λ (n : ℕ). read_run_cause old n ≡ None) as-many none;
    fits = subst (λ (n : ℕ). FitsRun old.place block n) as-many fits;
    leg_is = subst (λ (n : ℕ). read_leg (last_block block n) old ≡ Some leg) as-many leg_is;
    reads = reads;
  }

  abbrev found : List Block
  found = blocks_of is

  -- a read that found the bytes
  pub finds : (new : StripeState L) (names : EntryNames) → ReadsRunAt type true leg block found old.legs mid.legs → names ≡ names_of mid block (length found)
      → new ≡ after_read_run mid mid.legs block found (turn_after (last_block block (length found)) mid) → FindsRun type old new block found names
  finds new names reads named after =
      let turn : StripeState L → ℕ = λ s. turn_after (last_block block (length found)) s in
      let from : new ≡ after_read_run old mid.legs block found (turn old) = after ∙ ap (λ (m : StripeState L). after_read_run m mid.legs block found (turn m)) others in
      let same : new.legs ≡ mid.legs = ap (λ (s : StripeState L). s.legs) from in
      record {
        leg = leg;
        called = subst (λ (ls : List L). CallsToReadRun type true old ls block leg found) (sym same) (called true reads);
        named = named ∙ ap (λ (m : StripeState L). names_of m block (length found)) others;
        after = from ∙ ap (λ (ls : List L). after_read_run old ls block found (turn old)) (sym same);
      }

  -- a read whose leg failed, and has gone out
  pub loses : (new : StripeState L) → ReadsRunAt type false leg block (blocks_of is) old.legs mid.legs → is_last leg old ≡ false → new ≡ lost leg mid → LosesInReadRun type old new block leg (blocks_of is)
  loses new reads not_last after =
      let from : new ≡ lost leg (record old { legs = mid.legs }) = after ∙ ap (λ (m : StripeState L). lost leg m) others in
      record {
        called = subst (λ (ls : List L). CallsToReadRun type false old ls block leg (blocks_of is)) (sym (lost-legs_after leg old new mid.legs from)) (called false reads);
        not_last = not_last;
        after = lost-after leg old new mid.legs from;
      }

  -- a read whose leg failed, the only one in sync
  pub fails : ReadsRunAt type false leg block (blocks_of is) old.legs mid.legs → is_last leg old ≡ true → FailsInReadRun type old mid block (blocks_of is)
  fails reads last = record { leg = leg; called = called false reads; last = last; after = others }

-- what a failed read of a run keeps, and how it is explained: as one of its last block
module _ {L : Type 0} (type : LegType L) (old new : StripeState L) (k : Keeps type old) (block : ℕ) (found : List Block) where
  abbrev last : ℕ
  last = last_block block (length found)

  pub lost_read-keeps : (leg : ℕ) → LosesInReadRun type old new block leg found → Keeps type new
  lost_read-keeps leg l = read_lost-keeps type old new k last leg (block_of []) (loses_in_read_run-last type old new block found leg l)

  pub lost_read-acts : (leg : ℕ) → LosesInReadRun type old new block leg found → IsTrue type.honest → IsExplainedStep type.model [] old new
  lost_read-acts leg l is_honest = read_lost-acts type old new k last leg (block_of []) (loses_in_read_run-last type old new block found leg l) is_honest

  pub failed_read-keeps : FailsInReadRun type old new block found → Keeps type new
  failed_read-keeps f = read_fault-keeps type old new k last (block_of []) (fails_in_read_run-last type old new block found f)

  pub failed_read-acts : FailsInReadRun type old new block found → IsTrue type.honest → IsExplainedStep type.model [] old new
  failed_read-acts f is_honest = fails_in_read-explained type old new last (block_of []) is_honest k (fails_in_read_run-last type old new block found f)
