-- A read of a run is a read of each of its blocks, in order, by one leg: it is called for the first, and
-- the others are read of a leg that stays as it is.
use Rattle.std.proofs.Common.{◌≡◌, ℕ, suc, ◌+◌, ◌^◌, ◌<◌, ◌≤◌, true, false, IsTrue, List, [], ◌∷◌, length, Some, refl, sym, ap, ◌∙◌, subst, arith, slice_get, slice_set}
use Rattle.std.proofs.lemmas.List.{set-set}
use Rattle.std.proofs.lemmas.Option.{slice_get_within}
use Rattle.nm_replay.specs.declared.block.Block.{Block}
use Rattle.nm_replay.specs.Array.{Array}
use Rattle.nm_replay.specs.Events.{Event}
use Rattle.nm_replay.proofs.Arrays.{slice_get-set_same}
use Rattle.nm_fanout.specs.Records.{unlanded}
use Rattle.nm_leg.specs.Leg.{HoldsRun, LegType}
use Rattle.nm_rules.specs.BlockCalls.{ReadsBlockAt}
use Rattle.nm_rules.specs.Acts.{Acts}
use Rattle.nm_rules.specs.Invariant.{Keeps}
use Rattle.nm_rules.specs.RunCalls.{ReadsRunAt}
use Rattle.nm_rules.specs.RunRead.{reads_of}
use Rattle.nm_rules.specs.State.{StripeState, next_number}
use Rattle.nm_rules.proofs.ActsLemmas.{acts-append, acts-none}
use Rattle.nm_rules.proofs.RunCallLemmas.{first-read}
use Rattle.nm_rules.proofs.ReadLegLemmas.{ReadFrom, FromCurrent, FromMaster}
use Rattle.nm_rules.proofs.ReadLemmas.{MayRead, after_read_one, read-acts, read-keeps, read_events}

-- so many blocks may be read
pub record MayReadRun {L : Type 0} (stripe : StripeState L) (count : ℕ) : Type 0 where
  pub runs : stripe.stopped ≡ false
  pub not_settling : stripe.settling ≡ false
  pub below : next_number stripe + unlanded stripe.records + count ≤ 2 ^ 63

-- the stripe after a read of each of these, in order
abbrev pub read_each : {L : Type 0} → StripeState L → List L → ℕ → List Block → ℕ → StripeState L
read_each old legs block [] turn = old
read_each old legs block (b ∷ bs) turn =
    read_each (after_read_one old legs block b turn) legs (block + 1) bs turn

-- what a read of a run leaves
pub record RunRead {L : Type 0} (type : LegType L) (old new : StripeState L) (events : List Event) : Type 0 where
  pub keeps : Keeps type new
  pub acts : IsTrue type.honest → Acts type.model old new events

module _ {L : Type 0} (type : LegType L) (leg turn : ℕ) (few : turn < 840) where
  -- each block of the run may be read from the leg
  abbrev pub AllFrom : StripeState L → ℕ → ℕ → Type 0
  AllFrom s block count = (b : ℕ) → block ≤ b → b < block + count → ReadFrom type s b leg

  -- a leg that is not called any more, and holds these blocks
  pub record AtRest (block : ℕ) (bs : List Block) (legs : List L) : Type 0 where
    pub after : L
    pub now : slice_get legs leg ≡ Some after
    pub same : legs ≡ slice_set legs leg after
    pub holds : IsTrue type.honest → HoldsRun block bs (type.model after).contents

  from-next : (s : StripeState L) (legs : List L) (block b : ℕ) (bytes : Block) → ReadFrom type s b leg → ReadFrom type (after_read_one s legs block bytes turn) b leg
  from-next s legs block b bytes (FromCurrent quiet current) = FromCurrent quiet current
  from-next s legs block b bytes (FromMaster at) = FromMaster at

  -- a block that is there is read as by one more call
  pub reads-rest : (block : ℕ) (b : Block) (bs : List Block) (legs : List L) → AtRest block (b ∷ bs) legs → ReadsBlockAt type true leg block legs legs b
  reads-rest block b bs legs r = record {
    before = r.after;
    after = r.after;
    change = record { was = r.now; others = r.same; lengths = λ blocks each. each };
    reads = record {
      calls = record { contents_length = refl; durable_length = refl; faults = refl; fault_moves = λ q. absurd (let e : ⊥ = cc in e) };
      found = λ is_honest done. (r.holds is_honest).0;
      contents = λ is_honest. refl;
      durable = λ is_honest. refl;
    };
  }

  may-one : (s : StripeState L) (count : ℕ) → MayReadRun s (suc count) → MayRead s
  may-one s count m = record { runs = m.runs; not_settling = m.not_settling; below = omega (arith, m.below) }

  may-more : (s : StripeState L) (legs : List L) (block count : ℕ) (bytes : Block) → MayReadRun s (suc count) → MayReadRun (after_read_one s legs block bytes turn) count
  may-more s legs block count bytes m = record { runs = m.runs; not_settling = m.not_settling; below = omega (arith, m.below) }

  from-more : (s : StripeState L) (legs : List L) (block count : ℕ) (bytes : Block) → AllFrom s block (suc count) → AllFrom (after_read_one s legs block bytes turn) (block + 1) count
  from-more s legs block count bytes all b low high = from-next s legs block b bytes (all b (omega (arith, low)) (omega (arith, high)))

  -- one block, and then the others
  then-rest : (s : StripeState L) (legs : List L) (block : ℕ) (b : Block) (bs : List Block) → Keeps type s → MayReadRun s (suc (length bs)) → AllFrom s block (suc (length bs)) → block + suc (length bs) ≤ s.place.blocks
      → ReadsBlockAt type true leg block s.legs legs b
      → (Keeps type (after_read_one s legs block b turn) → RunRead type (after_read_one s legs block b turn) (read_each s legs block (b ∷ bs) turn) (reads_of (next_number s + 1) (block + 1) bs))
      → RunRead type s (read_each s legs block (b ∷ bs) turn) (reads_of (next_number s) block (b ∷ bs))
  then-rest s legs block b bs k m all inside reads go =
      let may = may-one s (length bs) m in
      let from = all block (omega arith) (omega arith) in
      let here : block < s.place.blocks = omega (arith, inside) in
      let rest = go (read-keeps type s legs block leg b k may from reads turn few here) in
      record {
        keeps = rest.keeps;
        acts = λ is_honest. acts-append type.model s (after_read_one s legs block b turn) (read_each s legs block (b ∷ bs) turn) (read_events (next_number s) block b) (reads_of (next_number s + 1) (block + 1) bs)
            (read-acts type s legs block leg b k may from reads turn few is_honest here) (rest.acts is_honest);
      }

  rest-read : (bs : List Block) (s : StripeState L) (block : ℕ) → Keeps type s → MayReadRun s (length bs) → AllFrom s block (length bs) → block + length bs ≤ s.place.blocks → AtRest block bs s.legs
      → RunRead type s (read_each s s.legs block bs turn) (reads_of (next_number s) block bs)
  rest-read [] s block k m all inside r = record { keeps = k; acts = λ is_honest. acts-none type.model s k.numbers.most }
  rest-read (b ∷ bs) s block k m all inside r =
      then-rest s s.legs block b bs k m all inside (reads-rest block b bs s.legs r)
      (λ keeps. numbered s block b bs
      (rest-read bs (after_read_one s s.legs block b turn) (block + 1) keeps (may-more s s.legs block (length bs) b m) (from-more s s.legs block (length bs) b all) (omega (arith, inside))
      (record { after = r.after; now = r.now; same = r.same; holds = λ is_honest. (r.holds is_honest).1 })))
    where
      numbered : (s : StripeState L) (block : ℕ) (b : Block) (bs : List Block)
          → RunRead type (after_read_one s s.legs block b turn) (read_each s s.legs block (b ∷ bs) turn) (reads_of (s.first + (s.total + 1)) (block + 1) bs)
          → RunRead type (after_read_one s s.legs block b turn) (read_each s s.legs block (b ∷ bs) turn) (reads_of (next_number s + 1) (block + 1) bs)
      numbered s block b bs run =
          let e : s.first + (s.total + 1) ≡ next_number s + 1 = omega arith in
          subst (λ (n : ℕ). RunRead type (after_read_one s s.legs block b turn) (read_each s s.legs block (b ∷ bs) turn) (reads_of n (block + 1) bs)) e run

  -- contents that are as they were hold what they held
  pub holds-same : (at : ℕ) (bs : List Block) (xs ys : Array) → ys ≡ xs → HoldsRun at bs xs → HoldsRun at bs ys
  holds-same at bs xs ys same holds = subst (λ (zs : Array). HoldsRun at bs zs) (sym same) holds

  -- the leg is called for the first block, and its call stands for all of them
  pub run-read : (b : Block) (bs : List Block) (s : StripeState L) (legs : List L) (block : ℕ) → Keeps type s → MayReadRun s (suc (length bs)) → AllFrom s block (suc (length bs)) → block + suc (length bs) ≤ s.place.blocks
      → ReadsRunAt type true leg block (b ∷ bs) s.legs legs
      → RunRead type s (read_each s legs block (b ∷ bs) turn) (reads_of (next_number s) block (b ∷ bs))
  run-read b bs s legs block k m all inside w =
      let first = first-read type true leg block b bs s.legs legs w in
      let now : slice_get legs leg ≡ Some w.after = ap (λ (ls : List L). slice_get ls leg) w.change.others ∙ slice_get-set_same s.legs leg w.after (slice_get_within s.legs leg w.before w.change.was) in
      let same : legs ≡ slice_set legs leg w.after = w.change.others ∙ sym (set-set s.legs leg w.after w.after) ∙ ap (λ (ls : List L). slice_set ls leg w.after) (sym w.change.others) in
      let e : s.first + (s.total + 1) ≡ next_number s + 1 = omega arith in
      then-rest s legs block b bs k m all inside first
      (λ keeps. subst (λ (n : ℕ). RunRead type (after_read_one s legs block b turn) (read_each s legs block (b ∷ bs) turn) (reads_of n (block + 1) bs)) e
      (rest-read bs (after_read_one s legs block b turn) (block + 1) keeps (may-more s legs block (length bs) b m) (from-more s legs block (length bs) b all) (omega (arith, inside))
      (record { after = w.after; now = now; same = same; holds = λ is_honest. holds-same (block + 1) bs (type.model w.before).contents (type.model w.after).contents (w.reads.contents is_honest) (w.reads.found is_honest refl).1 })))
