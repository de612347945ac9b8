-- A read: it begins, finds its bytes at the entry that it gets, and is replied to with them.
use Rattle.std.proofs.Common.{◌≡◌, ◌≢◌, ℕ, ◌+◌, ◌<◌, ◌^◌, ◌==◌, Bool, true, false, IsTrue, List, [], ◌∷◌, Some, refl, sym, ap, ◌∙◌, subst, arith, slice_get, nat_lt, cond, MatchBool}
use Rattle.std.proofs.lemmas.Bool.Decides.{nat_tests}
use Rattle.std.proofs.lemmas.Nat.{mod_below}
use Rattle.nm_replay.specs.declared.block.Block.{Block}
use Rattle.nm_replay.specs.declared.entry.Entry.{Entry}
use Rattle.nm_replay.specs.History.{EndsIn}
use Rattle.nm_replay.specs.Events.{Event, BeginsRead, Lands, RepliesRead, entry_of_read}
use Rattle.nm_replay.specs.ReadLives.{ReadLife, NotBegun as NoReadBegun, Begun as ReadBegun, Landed as ReadLanded, Closed, ReadLives}
use Rattle.nm_replay.proofs.Pushing.{consistent-read, ends-push_by}
use Rattle.nm_choice.specs.Choice.{next_turn}
use Rattle.nm_fanout.specs.Records.{unlanded}
use Rattle.nm_leg.specs.Leg.{LegType}
use Rattle.nm_rules.specs.Acts.{Acts, IsExplainedStep}
use Rattle.nm_rules.specs.Array.{laid_from, stripe_array, write_life, read_life}
use Rattle.nm_replay.specs.Kept.{kept_with}
use Rattle.nm_rules.specs.Invariant.{HasNumbers, LegsAgree, Keeps}
use Rattle.nm_rules.specs.Read.{FailsInRead}
use Rattle.nm_rules.specs.BlockCalls.{ReadsBlockAt}
use Rattle.nm_rules.specs.State.{StripeState, next_number}
use Rattle.nm_rules.proofs.CalledLemmas.{SameContents, with_legs, called-keeps, called-acts, read-same}
use Rattle.nm_rules.proofs.ChunkLemmas.{chunk-stays}
use Rattle.nm_rules.proofs.KeptLemmas.{kept_start, kept-starts, kept-numbered, kept-length, kept-consistent, kept-ends}
use Rattle.nm_rules.proofs.LegLemmas.{reads-found}
use Rattle.nm_rules.proofs.ReadLegLemmas.{ReadFrom, from_holds}
use Rattle.nm_rules.proofs.RecordLemmas.{same}

-- the stripe after a read of a block, with this turn
abbrev pub after_read_one : {L : Type 0} → StripeState L → List L → ℕ → Block → ℕ → StripeState L
after_read_one old legs block bytes turn = record old {
  legs = legs;
  turn = turn;
  kept = kept_with (entry_of_read (next_number old) block bytes ∷ []) old.kept;
  total = old.total + 1;
}

-- a block may be read
pub record MayRead {L : Type 0} (stripe : StripeState L) : Type 0 where
  pub runs : stripe.stopped ≡ false
  pub not_settling : stripe.settling ≡ false
  pub below : next_number stripe + unlanded stripe.records < 2 ^ 63

-- the events of a read: its begin, its entry and its reply
abbrev pub read_events : ℕ → ℕ → Block → List Event
read_events number block bytes =
    BeginsRead number block ∷ Lands (entry_of_read number block bytes) ∷ RepliesRead number bytes ∷ []

-- the turn stays in its range
pub turn-below : (turn : ℕ) (quiet : Bool) → turn < 840 → cond quiet (next_turn turn) turn < 840
turn-below turn true few = mod_below (turn + 1) 840 (omega arith)
turn-below turn false few = few

module _ {L : Type 0} (type : LegType L) (old : StripeState L) (legs : List L) (block leg : ℕ) (bytes : Block) (k : Keeps type old) (may : MayRead old) (from : ReadFrom type old block leg) (reads : ReadsBlockAt type true leg block old.legs legs bytes) (turn : ℕ) (few : turn < 840) where
  abbrev new : StripeState L
  new = after_read_one old legs block bytes turn

  abbrev number : ℕ
  number = next_number old

  abbrev entry : Entry
  entry = entry_of_read number block bytes

  -- the call changed no contents
  same_contents : SameContents type old legs
  same_contents = read-same type old legs true leg block bytes reads

  legs_keep : Keeps type (with_legs type old legs)
  legs_keep = called-keeps type old legs same_contents k

  -- the read finds what the array has
  pub read-array : IsTrue type.honest → block < old.place.blocks → slice_get (stripe_array type.model old) block ≡ Some bytes
  read-array is_honest inside =
      sym (from_holds type old block is_honest k may.runs may.not_settling inside leg from)
      ∙ reads-found type old.legs legs leg block bytes is_honest reads

  -- and leaves the array
  array_stays : IsTrue type.honest → stripe_array type.model new ≡ stripe_array type.model old
  array_stays is_honest = ap (λ (xs : List Block). laid_from 0 old.records xs) (same_contents.contents is_honest old.master)

  read-numbers : HasNumbers new
  read-numbers =
      let was = k.numbers in
      record {
        start = kept_start was.start (entry ∷ []) old.kept;
        starts = omega (arith, kept-starts was.start number old.kept (entry ∷ []) was.starts);
        numbered = kept-numbered was.start old.kept (entry ∷ []) was.numbered (sym was.starts, tt);
        most = kept-length old.total old.kept (entry ∷ []) was.most;
        asked = was.asked;
        given = omega (arith, was.given);
        below = omega (arith, may.below);
        low = was.low;
      }

  read-ends : IsTrue type.honest → block < old.place.blocks → EndsIn new.kept.entries (stripe_array type.model old)
  read-ends is_honest inside =
      kept-ends old.kept (entry ∷ []) (stripe_array type.model old)
      (ends-push_by old.kept.entries entry (stripe_array type.model old) (stripe_array type.model old) (k.agrees is_honest may.runs).last (read-array is_honest inside) (λ b off. refl))

  read-agrees : IsTrue type.honest → block < old.place.blocks → LegsAgree type.model new
  read-agrees is_honest inside =
      let agree = legs_keep.agrees is_honest may.runs in
      record {
        reached = agree.reached;
        alike = agree.alike;
        last = subst (λ xs. EndsIn new.kept.entries xs) (sym (array_stays is_honest)) (read-ends is_honest inside);
        unlanded = agree.unlanded;
        buffer = λ copy chunk copy_at chunk_at.
            let was = agree.buffer copy chunk copy_at chunk_at in
            record { read = was.read; written = was.written };
      }

  pub read-keeps : block < old.place.blocks → Keeps type new
  read-keeps inside =
      let mid = legs_keep in
      record {
        legs = record { sizes = mid.legs.sizes; some_chunk = mid.legs.some_chunk; states = mid.legs.states; flags = mid.legs.flags; regions = mid.legs.regions; lengths = mid.legs.lengths; master = mid.legs.master; outs = mid.legs.outs; in_sync = mid.legs.in_sync };
        records = record { in_order = mid.records.in_order; tickets = mid.records.tickets; one_writer = mid.records.one_writer; inside = mid.records.inside; landed = mid.records.landed; settling = mid.records.settling };
        writes = record { owed = mid.writes.owed; apart = mid.writes.apart; marked = mid.writes.marked };
        chunk = chunk-stays (with_legs type old legs) new old.copy old.chunk
            (λ c is. record { joining = is.joining; behind = is.behind; within = is.within })
            (λ c h is. record { long = is.long; some = is.some; most = is.most; more = is.more; read_first = is.read_first })
            mid.chunk;
        numbers = read-numbers;
        turn = few;
        consistent = λ is_honest. kept-consistent old.kept (entry ∷ [])
            (consistent-read k.numbers.start old.kept.entries (stripe_array type.model old) number block bytes k.numbers.numbered (sym k.numbers.starts) (k.agrees is_honest may.runs).last (read-array is_honest inside) (k.consistent is_honest));
        agrees = λ is_honest runs. read-agrees is_honest inside;
      }

  read-lives : (n : ℕ) → ReadLives n (read_life old n) (read_events number block bytes) (read_life new n)
  read-lives n =
      (elim (next_number old == n) as (λ b. (next_number old == n) ≡ b →
      (one : ReadLife) × MatchBool b ((read_life old n ≡ NoReadBegun) × (one ≡ ReadBegun block)) (one ≡ read_life old n)
      × ((two : ReadLife) × MatchBool b ((one ≡ ReadBegun block) × (two ≡ ReadLanded bytes)) (two ≡ one)
      × ((three : ReadLife) × MatchBool b ((two ≡ ReadLanded bytes) × (three ≡ Closed)) (three ≡ two)
      × (read_life new n ≡ three)))) [
        | true ↦ λ eq.
            let at : next_number old ≡ n = same (next_number old) n eq in
            let not_yet : nat_lt n (next_number old) ≡ false = grind (arith, nat_tests) in
            let now : nat_lt n (old.first + (old.total + 1)) ≡ true = grind (arith, nat_tests) in
            (ReadBegun block, (ap (λ b. cond b Closed NoReadBegun) not_yet, refl), (ReadLanded bytes, (refl, refl), (Closed, (refl, refl), ap (λ b. cond b Closed NoReadBegun) now)))
        | false ↦ λ ne.
            let other : n ≢ old.first + old.total = λ e. let yes : (next_number old == n) ≡ true = grind (arith, nat_tests) in let clash : true ≡ false = sym yes ∙ ne in cc in
            let alike : nat_lt n (old.first + (old.total + 1)) ≡ nat_lt n (next_number old) = grind (arith, nat_tests) in
            (read_life old n, refl, (read_life old n, refl, (read_life old n, refl, ap (λ b. cond b Closed NoReadBegun) alike)))
      ]) refl

  pub read-acts : IsTrue type.honest → block < old.place.blocks → Acts type.model old new (read_events number block bytes)
  read-acts is_honest inside = record {
    explained = record {
      next = omega arith;
      legal = (refl, read-array is_honest inside, array_stays is_honest);
      each_write = λ t. (write_life old t, refl, (write_life old t, refl, (write_life old t, refl, refl)));
      each_read = read-lives;
    };
    kept = refl;
    total = refl;
    first = refl;
  }

pub fails_in_read-explained : {L : Type 0} (type : LegType L) (old new : StripeState L) (block : ℕ) (bytes : Block) → IsTrue type.honest → Keeps type old → FailsInRead type old new block bytes → IsExplainedStep type.model [] old new
fails_in_read-explained type old new block bytes is_honest k f = record {
  events = [];
  marked = refl;
  acts = subst (λ s. Acts type.model old s []) (sym f.after)
      (called-acts type old new.legs (read-same type old new.legs false f.leg block bytes f.called.reads) is_honest k);
}
