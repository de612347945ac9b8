-- Reads are noted: blocks that the array has get their entries. No leg is called.
use Rattle.std.proofs.Common.{◌≡◌, ◌≢◌, ℕ, ◌+◌, ◌<◌, ◌≤◌, ◌^◌, ◌==◌, true, false, IsTrue, List, [], ◌∷◌, length, Some, refl, sym, ap, ◌∙◌, subst, arith, slice_get, nat_lt, cond, MatchBool}
use Rattle.std.proofs.lemmas.Bool.Decides.{nat_tests}
use Rattle.nm_replay.specs.declared.block.Block.{Block}
use Rattle.nm_replay.specs.declared.entry.Entry.{Entry}
use Rattle.nm_replay.specs.Events.{entry_of_read}
use Rattle.nm_replay.specs.History.{EndsIn}
use Rattle.nm_replay.specs.Kept.{KeptEntries, kept_with}
use Rattle.nm_replay.specs.ReadLives.{ReadLife, NotBegun as NoReadBegun, Begun as ReadBegun, Landed as ReadLanded, Closed, ReadLives}
use Rattle.nm_replay.proofs.Pushing.{consistent-read, ends-push_by}
use Rattle.nm_fanout.specs.Records.{unlanded}
use Rattle.nm_leg.specs.Leg.{HoldsRun, LegType}
use Rattle.nm_rules.specs.Acts.{Acts}
use Rattle.nm_rules.specs.Array.{read_life, stripe_array, write_life}
use Rattle.nm_rules.specs.Invariant.{HasNumbers, Keeps, LegsAgree}
use Rattle.nm_rules.specs.RunRead.{after_read_run, read_entries, reads_of}
use Rattle.nm_rules.specs.State.{StripeState, next_number}
use Rattle.nm_rules.proofs.ActsLemmas.{acts-append, acts-none}
use Rattle.nm_rules.proofs.ChunkLemmas.{chunk-stays}
use Rattle.nm_rules.proofs.KeptLemmas.{kept-append, kept-consistent, kept-ends, kept-length, kept-numbered, kept-starts, kept_start}
use Rattle.nm_rules.proofs.ReadLemmas.{after_read_one, read_events}
use Rattle.nm_rules.proofs.RecordLemmas.{same}
use Rattle.nm_rules.proofs.RunReadSteps.{RunRead, read_each}

module _ {L : Type 0} (type : LegType L) (old : StripeState L) (block : ℕ) (bytes : Block) (turn : ℕ) (k : Keeps type old) (runs : old.stopped ≡ false) (below : next_number old + unlanded old.records < 2 ^ 63) (few : turn < 840) (held : IsTrue type.honest → slice_get (stripe_array type.model old) block ≡ Some bytes) where
  abbrev new : StripeState L
  new = after_read_one old old.legs block bytes turn

  abbrev number : ℕ
  number = next_number old

  abbrev entry : Entry
  entry = entry_of_read number block bytes

  noted-numbers : HasNumbers new
  noted-numbers =
      let was = k.numbers in
      record {
        start = kept_start was.start (entry ∷ []) old.kept;
        starts = omega (arith, kept-starts was.start number old.kept (entry ∷ []) was.starts);
        numbered = kept-numbered was.start old.kept (entry ∷ []) was.numbered (sym was.starts, tt);
        most = kept-length old.total old.kept (entry ∷ []) was.most;
        asked = was.asked;
        given = omega (arith, was.given);
        below = omega (arith, below);
        low = was.low;
      }

  noted-ends : IsTrue type.honest → EndsIn new.kept.entries (stripe_array type.model old)
  noted-ends is_honest =
      kept-ends old.kept (entry ∷ []) (stripe_array type.model old)
      (ends-push_by old.kept.entries entry (stripe_array type.model old) (stripe_array type.model old) (k.agrees is_honest runs).last (held is_honest) (λ b off. refl))

  noted-agrees : IsTrue type.honest → LegsAgree type.model new
  noted-agrees is_honest =
      let agree = k.agrees is_honest runs in
      record {
        reached = agree.reached;
        alike = agree.alike;
        last = noted-ends is_honest;
        unlanded = agree.unlanded;
        buffer = λ copy chunk copy_at chunk_at.
            let was = agree.buffer copy chunk copy_at chunk_at in
            record { read = was.read; written = was.written };
      }

  noted-keeps : Keeps type new
  noted-keeps = record {
    legs = record { sizes = k.legs.sizes; some_chunk = k.legs.some_chunk; states = k.legs.states; flags = k.legs.flags; regions = k.legs.regions; lengths = k.legs.lengths; master = k.legs.master; outs = k.legs.outs; in_sync = k.legs.in_sync };
    records = record { in_order = k.records.in_order; tickets = k.records.tickets; one_writer = k.records.one_writer; inside = k.records.inside; landed = k.records.landed; settling = k.records.settling };
    writes = record { owed = k.writes.owed; apart = k.writes.apart; marked = k.writes.marked };
    chunk = chunk-stays old new old.copy old.chunk
        (λ c is. record { joining = is.joining; behind = is.behind; within = is.within })
        (λ c h is. record { long = is.long; some = is.some; most = is.most; more = is.more; read_first = is.read_first })
        k.chunk;
    numbers = noted-numbers;
    turn = few;
    consistent = λ is_honest. kept-consistent old.kept (entry ∷ [])
        (consistent-read k.numbers.start old.kept.entries (stripe_array type.model old) number block bytes k.numbers.numbered (sym k.numbers.starts) (k.agrees is_honest runs).last (held is_honest) (k.consistent is_honest));
    agrees = λ is_honest goes. noted-agrees is_honest;
  }

  noted-lives : (n : ℕ) → ReadLives n (read_life old n) (read_events number block bytes) (read_life new n)
  noted-lives n =
      (elim (next_number old == n) as (λ b. (next_number old == n) ≡ b →
      (one : ReadLife) × MatchBool b ((read_life old n ≡ NoReadBegun) × (one ≡ ReadBegun block)) (one ≡ read_life old n)
      × ((two : ReadLife) × MatchBool b ((one ≡ ReadBegun block) × (two ≡ ReadLanded bytes)) (two ≡ one)
      × ((three : ReadLife) × MatchBool b ((two ≡ ReadLanded bytes) × (three ≡ Closed)) (three ≡ two)
      × (read_life new n ≡ three)))) [
        | true ↦ λ eq.
            let at : next_number old ≡ n = same (next_number old) n eq in
            let not_yet : nat_lt n (next_number old) ≡ false = grind (arith, nat_tests) in
            let now : nat_lt n (old.first + (old.total + 1)) ≡ true = grind (arith, nat_tests) in
            (ReadBegun block, (ap (λ b. cond b Closed NoReadBegun) not_yet, refl), (ReadLanded bytes, (refl, refl), (Closed, (refl, refl), ap (λ b. cond b Closed NoReadBegun) now)))
        | false ↦ λ ne.
            let other : n ≢ old.first + old.total = λ e. let yes : (next_number old == n) ≡ true = grind (arith, nat_tests) in let clash : true ≡ false = sym yes ∙ ne in cc in
            let alike : nat_lt n (old.first + (old.total + 1)) ≡ nat_lt n (next_number old) = grind (arith, nat_tests) in
            (read_life old n, refl, (read_life old n, refl, (read_life old n, refl, ap (λ b. cond b Closed NoReadBegun) alike)))
      ]) refl

  noted-acts : IsTrue type.honest → Acts type.model old new (read_events number block bytes)
  noted-acts is_honest = record {
    explained = record {
      next = omega arith;
      legal = (refl, held is_honest, refl);
      each_write = λ t. (write_life old t, refl, (write_life old t, refl, (write_life old t, refl, refl)));
      each_read = noted-lives;
    };
    kept = refl;
    total = refl;
    first = refl;
  }

-- reads of a run, in order
module _ {L : Type 0} (type : LegType L) (turn : ℕ) (few : turn < 840) where
  notes-each : (bs : List Block) (s : StripeState L) (block : ℕ) → Keeps type s → s.stopped ≡ false → next_number s + unlanded s.records + length bs ≤ 2 ^ 63
      → (IsTrue type.honest → HoldsRun block bs (stripe_array type.model s))
      → RunRead type s (read_each s s.legs block bs turn) (reads_of (next_number s) block bs)
  notes-each [] s block k runs below held = record { keeps = k; acts = λ is_honest. acts-none type.model s k.numbers.most }
  notes-each (b ∷ bs) s block k runs below held =
      let long : length (b ∷ bs) ≡ length bs + 1 = omega arith in
      let one : IsTrue type.honest → slice_get (stripe_array type.model s) block ≡ Some b = λ is_honest. (held is_honest).0 in
      let low : next_number s + unlanded s.records < 2 ^ 63 = omega (arith, below, long) in
      let mid : StripeState L = after_read_one s s.legs block b turn in
      let e : s.first + (s.total + 1) ≡ next_number s + 1 = omega arith in
      let rest : RunRead type mid (read_each mid s.legs (block + 1) bs turn) (reads_of (s.first + (s.total + 1)) (block + 1) bs) =
      notes-each bs mid (block + 1) (noted-keeps type s block b turn k runs low few one) runs (omega (arith, below, long)) (λ is_honest. (held is_honest).1) in
      let later : RunRead type mid (read_each mid s.legs (block + 1) bs turn) (reads_of (next_number s + 1) (block + 1) bs) =
      subst (λ (n : ℕ). RunRead type mid (read_each mid s.legs (block + 1) bs turn) (reads_of n (block + 1) bs)) e rest in
      record {
        keeps = later.keeps;
        acts = λ is_honest. acts-append type.model s mid (read_each mid s.legs (block + 1) bs turn) (read_events (next_number s) block b) (reads_of (next_number s + 1) (block + 1) bs)
            (noted-acts type s block b turn k runs low few one is_honest) (later.acts is_honest);
      }

-- a read of each block in order leaves what one of the run leaves
each-form : {L : Type 0} (legs : List L) (turn : ℕ) (bs : List Block) (b : Block) (old : StripeState L) (block : ℕ) → read_each old legs block (b ∷ bs) turn ≡ after_read_run old legs block (b ∷ bs) turn
each-form legs turn [] b old block = refl
each-form {L} legs turn (c ∷ cs) b old block =
    let next : old.first + (old.total + 1) ≡ next_number old + 1 = omega arith in
    let kept : kept_with (read_entries (old.first + (old.total + 1)) (block + 1) (c ∷ cs)) (kept_with (entry_of_read (next_number old) block b ∷ []) old.kept) ≡ kept_with (read_entries (next_number old) block (b ∷ (c ∷ cs))) old.kept =
    ap (λ (n : ℕ). kept_with (read_entries n (block + 1) (c ∷ cs)) (kept_with (entry_of_read (next_number old) block b ∷ []) old.kept)) next
    ∙ kept-append old.kept (entry_of_read (next_number old) block b ∷ []) (read_entries (next_number old + 1) (block + 1) (c ∷ cs)) in
    let total : old.total + 1 + length (c ∷ cs) ≡ old.total + length (b ∷ (c ∷ cs)) = omega arith in
    each-form legs turn cs c (after_read_one old legs block b turn) (block + 1)
    ∙ ap (λ (es : KeptEntries). let s : StripeState L = record old { legs = legs; turn = turn; kept = es; total = old.total + 1 + length (c ∷ cs) } in s) kept
    ∙ ap (λ (n : ℕ). let s : StripeState L = record old { legs = legs; turn = turn; kept = kept_with (read_entries (next_number old) block (b ∷ (c ∷ cs))) old.kept; total = n } in s) total

-- a run that the array has is noted
pub notes-run : {L : Type 0} (type : LegType L) (turn : ℕ) → turn < 840 → (bs : List Block) (s : StripeState L) (block : ℕ) → 0 < length bs → Keeps type s → s.stopped ≡ false → next_number s + unlanded s.records + length bs ≤ 2 ^ 63
    → (IsTrue type.honest → HoldsRun block bs (stripe_array type.model s))
    → RunRead type s (after_read_run s s.legs block bs turn) (reads_of (next_number s) block bs)
notes-run type turn few [] s block some k runs below held = absurd (let e : ⊥ = omega (arith, some) in e)
notes-run type turn few (b ∷ bs) s block some k runs below held =
    subst (λ (n : StripeState _). RunRead type s n (reads_of (next_number s) block (b ∷ bs))) (each-form s.legs turn bs b s block)
    (notes-each type turn few (b ∷ bs) s block k runs below held)
