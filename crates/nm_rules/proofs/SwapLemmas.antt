-- Another leg stands in the place of one that is not the master and has no open copy: where the leg is
-- clear it holds the same bytes, so everything is kept.
use Rattle.std.proofs.Common.{◌≡◌, ◌≢◌, ⊎_elim, ℕ, ◌+◌, ◌<◌, true, List, [], Option, Some, length, length-set, refl, sym, ap, ◌∙◌, subst, arith, slice_get}
use Rattle.nm_replay.specs.declared.block.Block.{Block}
use Rattle.nm_replay.specs.History.{EndsIn}
use Rattle.nm_replay.proofs.Arrays.{slice_get-set_same, slice_get-set_other}
use Rattle.nm_leg.specs.Leg.{LegType}
use Rattle.nm_regions.specs.declared.copy_place.CopyPlace.{CopyPlace}
use Rattle.nm_regions.specs.Sound.{AreSizes}
use Rattle.nm_rules.specs.Acts.{Acts}
use Rattle.nm_rules.specs.Array.{contents_of, contents_at, stripe_array, laid_from}
use Rattle.nm_rules.specs.Flushed.{durable_at, durable_of}
use Rattle.nm_rules.specs.Invariant.{HasLegs, HasWrites, LegsAgree, Keeps, is_clear}
use Rattle.nm_rules.specs.State.{StripeState, copy_start}
use Rattle.nm_rules.proofs.ActsLemmas.{acts-same}
use Rattle.nm_rules.proofs.ChunkLemmas.{chunk-stays}
use Rattle.nm_rules.proofs.RecordLemmas.{one_or_two}
use Rattle.nm_rules.proofs.SpanLemmas.{AllFit}
use Rattle.nm_rules.specs.Losing.{HoldsStill, with_part}

-- the leg may be swapped for this part
pub record MaySwap {L : Type 0} (type : LegType L) (old : StripeState L) (leg : ℕ) (part : L) : Type 0 where
  pub keeps : Keeps type old
  pub there : leg < length old.legs
  pub long : length (type.model part).contents ≡ length (contents_of type.model old.legs leg)
  pub not_master : old.master ≢ leg
  pub not_copied : (c : CopyPlace) → old.copy ≡ Some c → c.leg ≢ leg
  pub same : (block : ℕ) → block < old.place.blocks → is_clear leg block old ≡ true → HoldsStill type.model old.legs leg part block

module _ {L : Type 0} (type : LegType L) (old : StripeState L) (leg : ℕ) (part : L) (may : MaySwap type old leg part) where
  abbrev new : StripeState L
  new = with_part old leg part

  abbrev k : Keeps type old
  k = may.keeps

  contents-other : (j : ℕ) → j ≢ leg → contents_of type.model new.legs j ≡ contents_of type.model old.legs j
  contents-other j ne = ap (λ (o : Option L). contents_at type.model o) (slice_get-set_other old.legs leg j part (λ e. ne (sym e)))

  contents-here : contents_of type.model new.legs leg ≡ (type.model part).contents
  contents-here = ap (λ (o : Option L). contents_at type.model o) (slice_get-set_same old.legs leg part may.there)

  pub durable-other : (j : ℕ) → j ≢ leg → durable_of type.model new.legs j ≡ durable_of type.model old.legs j
  durable-other j ne = ap (λ (o : Option L). durable_at type.model o) (slice_get-set_other old.legs leg j part (λ e. ne (sym e)))

  -- at each block where a leg is clear it holds what it held
  holds-same : (j block : ℕ) → block < old.place.blocks → is_clear j block old ≡ true → slice_get (contents_of type.model new.legs j) block ≡ slice_get (contents_of type.model old.legs j) block
  holds-same j block inside clear =
      ⊎_elim
      (λ e. subst (λ (i : ℕ). slice_get (contents_of type.model new.legs i) block ≡ slice_get (contents_of type.model old.legs i) block) (sym e)
      (ap (λ (xs : List Block). slice_get xs block) contents-here ∙ may.same block inside (subst (λ (i : ℕ). is_clear i block old ≡ true) e clear)))
      (λ ne. ap (λ (xs : List Block). slice_get xs block) (contents-other j ne))
      (one_or_two j leg)

  long-as : (j : ℕ) → length (contents_of type.model new.legs j) ≡ length (contents_of type.model old.legs j)
  long-as j =
      ⊎_elim
      (λ e. subst (λ (i : ℕ). length (contents_of type.model new.legs i) ≡ length (contents_of type.model old.legs i)) (sym e) (ap (λ (xs : List Block). length xs) contents-here ∙ may.long))
      (λ ne. ap (λ (xs : List Block). length xs) (contents-other j ne))
      (one_or_two j leg)

  abbrev count : length new.legs ≡ length old.legs
  count = length-set old.legs leg part

  swap-legs : HasLegs type.model new
  swap-legs = record {
    sizes = subst (λ (n : ℕ). AreSizes old.place.blocks old.place.region n) (sym count) k.legs.sizes;
    some_chunk = k.legs.some_chunk;
    states = k.legs.states ∙ sym count;
    flags = k.legs.flags ∙ sym count;
    regions = k.legs.regions;
    lengths = λ j inside. long-as j ∙ k.legs.lengths j (omega (arith, inside, count));
    master = k.legs.master;
    outs = k.legs.outs;
    in_sync = k.legs.in_sync;
  }

  swap-writes : HasWrites new
  swap-writes = record {
    owed = k.writes.owed;
    apart = k.writes.apart;
    marked = λ t r j at inside going out. k.writes.marked t r j at (omega (arith, inside, count)) going out;
  }

  master-same : contents_of type.model new.legs old.master ≡ contents_of type.model old.legs old.master
  master-same = contents-other old.master may.not_master

  pub array-same : stripe_array type.model new ≡ stripe_array type.model old
  array-same = ap (λ (xs : List Block). laid_from 0 old.records xs) master-same

  swap-agrees : LegsAgree type.model old → LegsAgree type.model new
  swap-agrees agree = record {
    reached = λ t r j inside at going free clear.
        holds-same j r.block (k.records.inside t r at) clear ∙ agree.reached t r j (omega (arith, inside, count)) at going free clear;
    alike = λ j block inside block_in none clear.
        holds-same j block block_in clear ∙ agree.alike j block (omega (arith, inside, count)) block_in none clear
        ∙ ap (λ (xs : List Block). slice_get xs block) (sym master-same);
    last = subst (λ (xs : List Block). EndsIn old.kept.entries xs) (sym array-same) agree.last;
    unlanded = subst (λ (xs : List Block). AllFit old.records xs) (sym array-same) agree.unlanded;
    buffer = λ c chunk is_open is_chunk.
        let held = agree.buffer c chunk is_open is_chunk in
        let other = may.not_copied c is_open in
        record {
          read = λ i within. held.read i within ∙ ap (λ (xs : List Block). slice_get xs (copy_start old.place.region c + i)) (sym array-same);
          written = λ i within.
              ap (λ (xs : List Block). slice_get xs (copy_start old.place.region c + i)) (contents-other c.leg other) ∙ held.written i within
              ∙ ap (λ (xs : List Block). slice_get xs (copy_start old.place.region c + i)) (sym array-same);
        };
  }

  pub swap-keeps : Keeps type new
  swap-keeps = record {
    legs = swap-legs;
    records = record { in_order = k.records.in_order; tickets = k.records.tickets; one_writer = k.records.one_writer; inside = k.records.inside; landed = k.records.landed; settling = k.records.settling };
    writes = swap-writes;
    chunk = chunk-stays old new old.copy old.chunk (λ c is. record { joining = is.joining; behind = is.behind; within = is.within }) (λ c h is. record { long = is.long; some = is.some; most = is.most; more = is.more; read_first = is.read_first }) k.chunk;
    numbers = record { start = k.numbers.start; starts = k.numbers.starts; numbered = k.numbers.numbered; most = k.numbers.most; asked = k.numbers.asked; given = k.numbers.given; below = k.numbers.below; low = k.numbers.low };
    turn = k.turn;
    consistent = k.consistent;
    agrees = λ is_honest runs. swap-agrees (k.agrees is_honest runs);
  }

  -- and no caller sees it
  pub swap-acts : Acts type.model old new []
  swap-acts = acts-same type.model old new k.numbers.most (record { array = array-same; lives = λ t. refl; kept = refl; first = refl; total = refl })
