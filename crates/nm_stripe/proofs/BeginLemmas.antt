-- A begin, from what its calls say to what it keeps, does and answers.
use Rattle.std.proofs.Common.{◌≡◌, ℕ, zero, suc, ◌+◌, ◌*◌, ◌/◌, ◌^◌, ◌<◌, ◌≤◌, Bool, true, false, List, [], ◌∷◌, length, drop, replicate, None, IsTrue, refl, sym, ap, ◌∙◌, subst, arith}
use Rattle.std.proofs.lemmas.List.{length-drop, length-take, take_all}
use Rattle.nm_replay.specs.declared.block.Block.{Block}
use Rattle.nm_fanout.proofs.DataLemmas.{length-zero_bytes}
use Rattle.nm_fanout.proofs.Laying.{length-each}
use Rattle.nm_fanout.specs.declared.block_data.Data.{Data}
use Rattle.nm_fanout.specs.declared.block_data.Data.TheVariants.{Cut, Zero, Part, ZeroPart}
use Rattle.nm_fanout.specs.declared.record_data.RecordData.{RecordData}
use Rattle.nm_fanout.specs.declared.record_data.RecordData.TheVariants as kept
use Rattle.nm_fanout.specs.Data.{FitsBlocks, data_blocks, is_part}
use Rattle.nm_fanout.specs.Laying.{data_over}
use Rattle.nm_fanout.specs.Records.{AllBelow, runs_in, unlanded}
use Rattle.nm_fanout.specs.Runs.{cuts_of, each_block}
use Rattle.nm_leg.specs.Leg.{LegType, blocks_in, blocks_of, block_of, cut_into}
use Rattle.nm_rules.specs.Acts.{IsExplainedStep}
use Rattle.nm_rules.specs.BlockCalls.{ReadsBlockAt}
use Rattle.nm_rules.specs.Begin.{Begins, FailsToBegin, LosesInBegin, FailsInBegin, ReadsBase, after_begin, begin_cause}
use Rattle.nm_rules.specs.Invariant.{Keeps}
use Rattle.nm_rules.specs.Lost.{lost}
use Rattle.nm_rules.specs.Read.{current_legs}
use Rattle.nm_rules.specs.RunBegin.{AreWhole, BeginsRun, after_begin_run, begin_run_cause, begins_of}
use Rattle.nm_rules.specs.RunCalls.{ReadsRunAt}
use Rattle.nm_rules.specs.Runs.{FitsRun}
use Rattle.nm_rules.specs.State.{StripeState, is_last}
use Rattle.nm_rules.proofs.BeginLemmas.{begins-explained, begins-keeps}
use Rattle.nm_rules.proofs.ReadLegLemmas.{some_current}
use Rattle.nm_rules.proofs.RunBeginLemmas.{begins_run-explained, begins_run-keeps, may_begin_run}
use Rattle.nm_rules.proofs.RunCallLemmas.{first-read}
use Rattle.nm_rules.proofs.RunOneLemmas.{one-begins}
use Rattle.nm_stripe.specs.Begin.{BeginsWith, puts_in}
use Rattle.nm_stripe.proofs.LostLemmas.{lost-after, lost-legs_after}

-- 512 bytes are one block
pub one-in : (bytes : List ℕ) → length bytes ≡ 512 → blocks_in bytes ≡ 1
one-in bytes whole = ap (λ (n : ℕ). n / 512) whole

one-of : (bytes : List ℕ) → length bytes ≡ 512 → blocks_of bytes ≡ block_of bytes ∷ []
one-of bytes whole =
    ap (λ (n : ℕ). cut_into n bytes) (one-in bytes whole)
    ∙ ap (λ (xs : List ℕ). block_of xs ∷ []) (take_all 512 bytes (omega (arith, whole)))

-- a part is of one block
pub part-one : (bytes : Data) → is_part bytes ≡ true → data_blocks bytes ≡ 1
part-one (Cut cut) part = cc
part-one (Zero count) part = cc
part-one (Part from bytes) part = refl
part-one (ZeroPart from len) part = refl

-- a read of the master, said of its block
pub reads-at : {L : Type 0} {succeeded : Bool} {leg : ℕ} (type : LegType L) (is : Bool) (old mid : StripeState L) (block : ℕ) (bytes : List ℕ) → succeeded ≡ is → leg ≡ old.master → length bytes ≡ 512
    → ReadsRunAt type succeeded leg block (blocks_of bytes) old.legs mid.legs → ReadsBlockAt type is old.master block old.legs mid.legs (block_of bytes)
reads-at {L} {succeeded} {leg} type is old mid block bytes went here whole reads =
    subst (λ (b : Bool). ReadsBlockAt type b old.master block old.legs mid.legs (block_of bytes)) went
    (subst (λ (k : ℕ). ReadsBlockAt type succeeded k block old.legs mid.legs (block_of bytes)) here
    (first-read type succeeded leg block (block_of bytes) [] old.legs mid.legs
    (subst (λ (bs : List Block). ReadsRunAt type succeeded leg block bs old.legs mid.legs) (one-of bytes whole) reads)))

-- a write may begin: there is room for its record, and a ticket for each block
pub room : {L : Type 0} (type : LegType L) (old mid : StripeState L) (block count : ℕ) → Keeps type old → begin_run_cause old block count ≡ None → mid ≡ record old { legs = mid.legs }
    → (runs_in mid.records < 256) × AllBelow mid.tickets mid.records × (mid.tickets + count < 2 ^ 64)
room type old mid block count k none others =
    let may = (may_begin_run old block count none).may in
    subst (λ (s : StripeState _). (runs_in s.records < 256) × AllBelow s.tickets s.records × (s.tickets + count < 2 ^ 64)) (sym others)
    (may.few refl, k.records.tickets, next old.first old.total old.tickets (unlanded old.records) may.below k.numbers.given)
  where
    next : (first total tickets left : ℕ) → first + total + left + count ≤ 2 ^ 63 → tickets ≤ total + left → tickets + count < 2 ^ 64
    next first total tickets left below given = omega (arith, below, given)

-- a leg is still current at the block after a call that leaves no more than the legs changed
pub still-current : {L : Type 0} (type : LegType L) (old mid : StripeState L) (block : ℕ) → Keeps type old → mid ≡ record old { legs = mid.legs } → 0 < length (current_legs block mid)
still-current type old mid block k others = subst (λ (s : StripeState _). 0 < length (current_legs block s)) (sym others) (some_current type old block k.legs)

-- whole data are whole block by block
cuts-whole : (n : ℕ) (bytes : List ℕ) → length bytes ≡ 512 * n → AreWhole (cuts_of n bytes)
cuts-whole zero bytes whole = tt
cuts-whole (suc n) bytes whole = (
  omega (arith, whole, length-take 512 bytes),
  refl,
  cuts-whole n (drop 512 bytes) (omega (arith, whole, length-drop 512 bytes)),
)

zeroes-whole : (n : ℕ) → AreWhole (replicate n (kept.Zero 1))
zeroes-whole zero = tt
zeroes-whole (suc n) = (length-zero_bytes (512 * 1), refl, zeroes-whole n)

-- a run of so many blocks begins with these data
begins-run : {L : Type 0} (old new : StripeState L) (block ticket count : ℕ) (d : RecordData) → length (each_block d) ≡ count → begin_run_cause old block count ≡ None → FitsRun old.place block count
    → AreWhole (each_block d) → ticket ≡ old.tickets → new ≡ after_begin_run old block (each_block d) → BeginsRun old new block (each_block d) ticket
begins-run old new block ticket count d long none fits whole next after = record {
  no_cause = subst (λ (n : ℕ). begin_run_cause old block n ≡ None) (sym long) none;
  fits = subst (λ (n : ℕ). FitsRun old.place block n) (sym long) fits;
  whole = whole;
  next = next;
  after = after;
}

-- whole data call no leg
pub begins-whole : {L : Type 0} (type : LegType L) (old new : StripeState L) (block : ℕ) (bytes : Data) (ticket : ℕ) (base : Block) → begin_run_cause old block (data_blocks bytes) ≡ None → FitsRun old.place block (data_blocks bytes) → FitsBlocks bytes → is_part bytes ≡ false
    → ticket ≡ old.tickets → new ≡ after_begin_run old block (each_block (data_over bytes base)) → BeginsWith type old new block bytes ticket
begins-whole type old new block (Cut cut) ticket base none fits fill whole next after =
    begins-run old new block ticket (length cut / 512) (kept.Cut cut) (length-each (kept.Cut cut)) none fits (cuts-whole (length cut / 512) cut fill.whole) next after
begins-whole type old new block (Zero count) ticket base none fits fill whole next after =
    begins-run old new block ticket count (kept.Zero count) (length-each (kept.Zero count)) none fits (zeroes-whole count) next after
begins-whole type old new block (Part from bytes) ticket base none fits fill whole next after = absurd (let e : ⊥ = cc in e)
begins-whole type old new block (ZeroPart from len) ticket base none fits fill whole next after = absurd (let e : ⊥ = cc in e)

-- a begin of a part is one with these data
pub begins-with : {L : Type 0} (type : LegType L) (old new : StripeState L) (block : ℕ) (bytes : Data) (ticket : ℕ) → is_part bytes ≡ true → Begins type old new block bytes ticket → BeginsWith type old new block bytes ticket
begins-with type old new block (Cut cut) ticket part is = absurd (let e : ⊥ = cc in e)
begins-with type old new block (Zero count) ticket part is = absurd (let e : ⊥ = cc in e)
begins-with type old new block (Part from bytes) ticket part is = is
begins-with type old new block (ZeroPart from len) ticket part is = is

-- what a begin keeps
pub begun-keeps : {L : Type 0} (type : LegType L) (old new : StripeState L) (block : ℕ) (bytes : Data) (ticket : ℕ) → Keeps type old → BeginsWith type old new block bytes ticket → FitsRun old.place block (data_blocks bytes) → FitsBlocks bytes → Keeps type new
begun-keeps type old new block (Cut cut) ticket k is fits fill = begins_run-keeps type old new block (each_block (kept.Cut cut)) ticket k is
begun-keeps type old new block (Zero count) ticket k is fits fill = begins_run-keeps type old new block (each_block (kept.Zero count)) ticket k is
begun-keeps type old new block (Part from bytes) ticket k is fits fill = begins-keeps type old new block (Part from bytes) ticket k is (omega (arith, fits.inside)) fill
begun-keeps type old new block (ZeroPart from len) ticket k is fits fill = begins-keeps type old new block (ZeroPart from len) ticket k is (omega (arith, fits.inside)) fill

-- and how it is explained
pub begun-explained : {L : Type 0} (type : LegType L) (old new : StripeState L) (block : ℕ) (bytes : Data) (ticket : ℕ) → Keeps type old → BeginsWith type old new block bytes ticket → FitsBlocks bytes → IsTrue type.honest
    → IsExplainedStep type.model (begins_of ticket block (puts_in bytes)) old new
begun-explained type old new block (Cut cut) ticket k is fill is_honest = begins_run-explained type old new block (each_block (kept.Cut cut)) ticket k is
begun-explained type old new block (Zero count) ticket k is fill is_honest = begins_run-explained type old new block (each_block (kept.Zero count)) ticket k is
begun-explained type old new block (Part from bytes) ticket k is fill is_honest = begins-explained type old new block (Part from bytes) ticket k is fill is_honest
begun-explained type old new block (ZeroPart from len) ticket k is fill is_honest = begins-explained type old new block (ZeroPart from len) ticket k is fill is_honest

-- a part is one record
one-part : (bytes : Data) (base : Block) → is_part bytes ≡ true → each_block (data_over bytes base) ≡ data_over bytes base ∷ []
one-part (Cut cut) base part = absurd (let e : ⊥ = cc in e)
one-part (Zero count) base part = absurd (let e : ⊥ = cc in e)
one-part (Part from bytes) base part = refl
one-part (ZeroPart from len) base part = refl

-- it may begin where its block may
pub part-begins : {L : Type 0} (old : StripeState L) (block : ℕ) (bytes : Data) → is_part bytes ≡ true → begin_run_cause old block (data_blocks bytes) ≡ None → begin_cause old block ≡ None
part-begins old block bytes part none = one-begins old block (subst (λ (n : ℕ). begin_run_cause old block n ≡ None) (part-one bytes part) none)

module _ {L : Type 0} (type : LegType L) (old mid new : StripeState L) (block : ℕ) (bytes : Data) (base : Block) (others : mid ≡ record old { legs = mid.legs }) (none : begin_cause old block ≡ None) (part : is_part bytes ≡ true) where
  -- a part whose block was read
  pub begins-part : (ticket : ℕ) → length base.0 ≡ 512 → ReadsBlockAt type true old.master block old.legs mid.legs base → ticket ≡ mid.tickets → new ≡ after_begin_run mid block (each_block (data_over bytes base)) → Begins type old new block bytes ticket
  begins-part ticket filled reads next after =
      let d : RecordData = data_over bytes base in
      let from : StripeState L = record old { legs = mid.legs } in
      let is : new ≡ after_begin from old.tickets block d =
      after ∙ ap (λ (ds : List RecordData). after_begin_run mid block ds) (one-part bytes base part) ∙ ap (λ (m : StripeState L). after_begin_run m block (d ∷ [])) others in
      let same : new.legs ≡ mid.legs = ap (λ (s : StripeState L). s.legs) is in
      let read : ReadsBlockAt type true old.master block old.legs new.legs base = subst (λ (ls : List L). ReadsBlockAt type true old.master block old.legs ls base) (sym same) reads in
      record {
        no_cause = none;
        next = next ∙ ap (λ (s : StripeState L). s.tickets) others;
        base = base;
        filled = filled;
        reads = subst (λ (p : Bool). ReadsBase type p old new.legs block base) (sym part) read;
        after = is ∙ ap (λ (ls : List L). after_begin (record old { legs = ls }) old.tickets block d) (sym same);
      }

  -- a part whose master failed
  pub fails-to : (legs : List L) → legs ≡ mid.legs → ReadsBlockAt type false old.master block old.legs mid.legs base → FailsToBegin type old legs block bytes
  fails-to legs same reads = record { no_cause = none; part = part; found = base; reads = subst (λ (ls : List L). ReadsBlockAt type false old.master block old.legs ls base) (sym same) reads }

  pub loses : ReadsBlockAt type false old.master block old.legs mid.legs base → is_last old.master old ≡ false → new ≡ lost old.master mid → LosesInBegin type old new block bytes old.master
  loses reads not_last after =
      let is : new ≡ lost old.master (record old { legs = mid.legs }) = after ∙ ap (λ (m : StripeState L). lost old.master m) others in
      record {
        called = fails-to new.legs (lost-legs_after old.master old new mid.legs is) reads;
        names = refl;
        not_last = not_last;
        after = lost-after old.master old new mid.legs is;
      }

-- and it is the only leg in sync
pub fails : {L : Type 0} (type : LegType L) (old mid : StripeState L) (block : ℕ) (bytes : Data) (base : Block) → mid ≡ record old { legs = mid.legs } → begin_cause old block ≡ None → is_part bytes ≡ true
    → ReadsBlockAt type false old.master block old.legs mid.legs base → is_last old.master old ≡ true → FailsInBegin type old mid block bytes
fails type old mid block bytes base others none part reads last = record { called = fails-to type old mid mid block bytes base others none part mid.legs refl reads; last = last; after = others }
