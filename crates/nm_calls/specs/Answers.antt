-- What the answer of a call that was out changes.
use Rattle.std.specs.Prelude.{◌≡◌, ℕ, zero, suc, ◌-◌, ◌==◌, ◌||◌, Bool, false, true, List, []}
use Rattle.std.specs.Prelude.{◌∷◌, length}
use Rattle.std.specs.Prelude.{Some, if◌then◌else◌, map}
use Rattle.nm_replay.specs.declared.block.Block.{Block}
use Rattle.nm_leg.specs.Leg.{LegType}
use Rattle.nm_rules.specs.Lost.{lost}
use Rattle.nm_rules.specs.Read.{turn_after}
use Rattle.nm_rules.specs.RunCalls.{ReadsRunAt}
use Rattle.nm_rules.specs.RunRead.{after_read_run, last_block}
use Rattle.nm_rules.specs.Runs.{is_exhausted_by}
use Rattle.nm_rules.specs.State.{is_last}
use Rattle.nm_calls.specs.CallsOut.{CallsOut, Calling, LegCalls, ReadOut, find_read, voided}
use Rattle.nm_calls.specs.CallsOut.{without_read}

-- one call less of a leg has not returned
abbrev pub returned_on : ℕ → List LegCalls → List LegCalls
returned_on leg [] = []
returned_on zero (l ∷ ls) = record l { out = l.out - 1 } ∷ ls
returned_on (suc leg) (l ∷ ls) = l ∷ returned_on leg ls

-- the calls once this read is answered
abbrev pub read_answered : ReadOut → CallsOut → CallsOut
read_answered x calls = record calls {
  reads = without_read x.ticket calls.reads;
  legs = returned_on x.leg calls.legs;
}

-- A read that counts is answered, and found these blocks: they get their entries now.
pub record FindsOut {L : Type 0} (type : LegType L) (x : ReadOut) (old new : Calling L)
    (found : List Block) : Type 0 where
  pub out : find_read x.ticket old.calls.reads ≡ Some x
  pub counts : x.void ≡ false
  pub runs : old.stripe.stopped ≡ false
  pub room : is_exhausted_by x.count old.stripe ≡ false
  pub long : length found ≡ x.count
  pub reads : ReadsRunAt type true x.leg x.block found old.stripe.legs new.stripe.legs
  pub stripe : new.stripe ≡ after_read_run old.stripe new.stripe.legs x.block found
      (turn_after (last_block x.block x.count) old.stripe)
  pub calls : new.calls ≡ read_answered x old.calls

-- a read once a leg has gone out: it is void if it is of that leg, and where that was the master it
-- is void in any case
abbrev pub voided_without : (leg master : ℕ) → ReadOut → ReadOut
voided_without leg master x = if (leg == master) || (x.leg == leg) then voided x else x

-- the calls once a leg has gone out
abbrev pub calls_without : (leg master : ℕ) → CallsOut → CallsOut
calls_without leg master calls =
    record calls { reads = map (voided_without leg master) calls.reads }

-- A read that counts is answered, and its leg failed, which is not the last in sync: the leg goes
-- out.
pub record LosesOut {L : Type 0} (type : LegType L) (x : ReadOut) (old new : Calling L)
    (found : List Block) : Type 0 where
  pub out : find_read x.ticket old.calls.reads ≡ Some x
  pub counts : x.void ≡ false
  pub runs : old.stripe.stopped ≡ false
  pub not_last : is_last x.leg old.stripe ≡ false
  pub reads : ReadsRunAt type false x.leg x.block found old.stripe.legs new.stripe.legs
  pub stripe : new.stripe ≡ lost x.leg (record old.stripe { legs = new.stripe.legs })
  pub calls : new.calls ≡ calls_without x.leg old.stripe.master (read_answered x old.calls)

-- A read that counts is answered, and is only taken off: its leg failed, the last in sync, or no
-- numbers are left for its entries.
pub record FailsOut {L : Type 0} (type : LegType L) (x : ReadOut) (done : Bool)
    (old new : Calling L) (found : List Block) : Type 0 where
  pub out : find_read x.ticket old.calls.reads ≡ Some x
  pub long : length found ≡ x.count
  pub reads : ReadsRunAt type done x.leg x.block found old.stripe.legs new.stripe.legs
  pub stripe : new.stripe ≡ record old.stripe { legs = new.stripe.legs }
  pub calls : new.calls ≡ read_answered x old.calls
