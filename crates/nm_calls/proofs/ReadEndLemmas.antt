-- The end of a read that was out: what it found is what the array holds at its answer.
use Rattle.std.specs.Prelude.{◌≡◌, ℕ, suc, ◌+◌, ◌<◌, ◌≤◌, false, true, IsTrue, List, [], ◌∷◌}
use Rattle.std.specs.Prelude.{length, Some, refl, slice_get}
use Rattle.std.proofs.Common.{ap, sym, ◌∙◌, subst, arith}
use Rattle.std.proofs.lemmas.Bool.{le-leb, lt-ltb}
use Rattle.nm_replay.specs.declared.block.Block.{Block}
use Rattle.nm_replay.specs.Array.{Array}
use Rattle.nm_leg.specs.Leg.{HoldsRun, LegType}
use Rattle.nm_rules.specs.Array.{contents_at, contents_of, stripe_array}
use Rattle.nm_calls.specs.CallsOut.{Calling, ReadOut, find_read, reads_block}
use Rattle.nm_calls.specs.HasCalls.{HasCalls}
use Rattle.nm_rules.specs.RunCalls.{ReadsRunAt}

-- A read that counts, of honest legs, whose call went well: its blocks are the array's.
abbrev pub ReadsEnd : {L : Type 0} → LegType L → Type 0
ReadsEnd {L} type =
    (c : Calling L) (t : ℕ) (x : ReadOut) (found : List Block) (legs : List L)
    → HasCalls type c → IsTrue type.honest → c.stripe.stopped ≡ false
    → find_read t c.calls.reads ≡ Some x → x.void ≡ false → length found ≡ x.count
    → ReadsRunAt type true x.leg x.block found c.stripe.legs legs
    → HoldsRun x.block found (stripe_array type.model c.stripe)

-- a run stands in each array that is the same at its blocks
carried : (at : ℕ) (bs : List Block) (xs ys : Array)
    → ((k : ℕ) → at ≤ k → k < at + length bs → slice_get xs k ≡ slice_get ys k)
    → HoldsRun at bs xs → HoldsRun at bs ys
carried at [] xs ys same holds = tt
carried at (b ∷ bs) xs ys same holds =
    let long : length (b ∷ bs) ≡ suc (length bs) = refl in (
      sym (same at (omega arith) (omega (arith, long))) ∙ holds.0,
      carried (at + 1) bs xs ys
          (λ k above below. same k (omega (arith, above)) (omega (arith, below, long))) holds.1,
    )

pub among : (x : ReadOut) (k : ℕ) → x.block ≤ k → k < x.block + x.count → IsTrue (reads_block k x)
among x k above below =
    rw (le-leb x.block k above, lt-ltb k (x.block + x.count) below) refl

pub reads-end : {L : Type 0} (type : LegType L) → ReadsEnd type
reads-end type c t x found legs has is_honest runs out counts long reads =
    let was : contents_of type.model c.stripe.legs x.leg ≡ (type.model reads.before).contents =
    ap (λ o. contents_at type.model o) reads.change.was in
    let holds : HoldsRun x.block found (contents_of type.model c.stripe.legs x.leg) =
    subst (λ (xs : Array). HoldsRun x.block found xs) (sym was)
    (reads.reads.found is_honest refl) in
    carried x.block found _ _
    (λ k above below.
    let inside : IsTrue (reads_block k x) = among x k above (omega (arith, below, long)) in
    has.reads_hold is_honest runs t k x
    (record { out = out; counts = counts; inside = inside }))
    holds
