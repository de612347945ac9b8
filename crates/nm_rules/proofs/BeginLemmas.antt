-- A begin: the new write owes each leg that is current at its block, so no contents and no entry
-- change; and the block's region falls behind on each leg that is out.
use Rattle.std.proofs.Common.{◌≡◌, ◌≢◌, ⊎_elim, ℕ, ◌+◌, ◌<◌, ◌^◌, ◌/◌, ◌==◌, ◌&&◌, ◌||◌, Bool, true, false, not, IsTrue, [], ◌∷◌, length, None, Some, is_some, refl, sym, ap, ◌∙◌, subst, arith, slice_get, nat_lt, MatchBool}
use Rattle.std.proofs.lemmas.Bool.Decides.{nat_tests}
use Rattle.std.proofs.lemmas.List.{length-map}
use Rattle.nm_fanout.proofs.Landing.{unlanded-with_new}
use Rattle.nm_fanout.proofs.Finding.{find_record-with_new_other}
use Rattle.nm_fanout.proofs.InOrder.{AllBelow-with_new, AreInOrder-with_new}
use Rattle.nm_fanout.proofs.Writers.{OneWriterABlock-with_new}
use Rattle.nm_fanout.specs.declared.block_data.Data.{Data}
use Rattle.nm_fanout.specs.declared.record_data.RecordData.{RecordData}
use Rattle.nm_fanout.specs.declared.write_record.Record.{Record}
use Rattle.nm_fanout.specs.Data.{FitsBlock, is_part, put_of_data}
use Rattle.nm_fanout.specs.Laying.{data_over}
use Rattle.nm_fanout.specs.RecordData.{FillsBlock, LiesInside, span_of}
use Rattle.nm_fanout.proofs.DataLemmas.{FillsBlock-data_over, LiesInside-data_over}
use Rattle.nm_fanout.specs.Record.{owes, begun}
use Rattle.nm_fanout.specs.Records.{find_record, busy_on, unlanded, with_new, runs_in}
use Rattle.nm_leg.specs.Leg.{LegType}
use Rattle.nm_replay.specs.WriteLives.{NotBegun, Begun, WriteLives}
use Rattle.nm_replay.specs.Array.{Put}
use Rattle.nm_replay.specs.declared.block.Block.{Block}
use Rattle.nm_replay.specs.Events.{Event, BeginsWrite}
use Rattle.nm_replay.specs.History.{EndsIn}
use Rattle.nm_regions.specs.LegFlags as leg_flags
use Rattle.nm_regions.specs.LegFlags.{LegRegions, no_leg, is_behind, marked_if_out}
use Rattle.nm_regions.specs.Table.{leg_at, region_of, place_of, regions_of, has_copied, targets}
use Rattle.nm_rules.specs.declared.refusal.Refusal.TheVariants.{Busy, Full, Stopped, Settling, Exhausted}
use Rattle.nm_rules.specs.Array.{contents_of, stripe_array, put_by, read_life, write_life}
use Rattle.nm_rules.specs.Acts.{Acts, IsExplainedStep}
use Rattle.nm_rules.specs.Begin.{Begins, FailsInBegin, ReadsBase, after_begin, begin_cause, begin_rows, is_full}
use Rattle.nm_rules.specs.Invariant.{HasLegs, HasRecords, HasWrites, HasNumbers, HasChunk, LegsAgree, Keeps, is_clear}
use Rattle.nm_rules.specs.State.{StripeState, next_number, is_exhausted, is_copied_now, is_current, is_out, leg_state, copy_start, table}
use Rattle.nm_rules.proofs.ActsLemmas.{acts-append, kept-stays}
use Rattle.nm_rules.proofs.ArrayLemmas.{array-at, laid-begun, length-array}
use Rattle.nm_rules.proofs.CalledLemmas.{SameContents, called-acts, called-keeps, read-same}
use Rattle.nm_rules.proofs.CauseLemmas.{none_holds, when_off, map_off, below}
use Rattle.nm_rules.proofs.ChunkLemmas.{chunk-stays, not_copied, not_copying, region_within}
use Rattle.nm_rules.proofs.ClearLemmas.{clear-current}
use Rattle.nm_rules.proofs.DataLemmas.{fits-over, put-over}
use Rattle.nm_rules.proofs.LegLemmas.{reads-found}
use Rattle.nm_rules.proofs.MarkLemmas.{mark-leg, mark-out, mark-stays, mark-behind, mark-here, mark-current, mark-regions, clear-less}
use Rattle.nm_rules.proofs.OwedLemmas.{owes_current, current_owed, master_owed}
use Rattle.nm_rules.proofs.RecordLemmas.{same, new_cases, find-new_same, busy-front}
use Rattle.nm_rules.proofs.SpanLemmas.{RecordFits}
use Rattle.nm_rules.proofs.StateLemmas.{in_sync_attached, joining_attached, master_inside}
use Rattle.nm_rules.proofs.LowLemmas.{low-with_new}

-- a write may begin on the block
pub record MayBegin {L : Type 0} (stripe : StripeState L) (run block : ℕ) : Type 0 where
  pub runs : stripe.stopped ≡ false
  pub not_settling : stripe.settling ≡ false
  pub free : busy_on block stripe.records ≡ None
  pub not_copied_now : is_copied_now block stripe ≡ false
  pub few : run ≡ stripe.tickets → runs_in stripe.records < 256
  pub below : next_number stripe + unlanded stripe.records < 2 ^ 63

pub may_begin : {L : Type 0} (stripe : StripeState L) (block : ℕ) → begin_cause stripe block ≡ None → MayBegin stripe stripe.tickets block
may_begin stripe block none =
    let rows = none_holds (begin_rows stripe block) none in
    record {
      runs = when_off stripe.stopped Stopped rows.0;
      not_settling = when_off stripe.settling Settling rows.1.0;
      free = map_off (λ (r : Record). Busy r.run) (busy_on block stripe.records) rows.1.1.0;
      not_copied_now = not_copied block stripe rows.1.1.1.0;
      few = λ is. below 256 (runs_in stripe.records) (when_off (is_full stripe) Full rows.1.1.1.1.0);
      below = below (2 ^ 63) (next_number stripe + unlanded stripe.records) (when_off (is_exhausted stripe) Exhausted rows.1.1.1.1.1.0);
    }

-- what is not so any more was not so
unclear : (now was : Bool) → (now ≡ true → was ≡ true) → was ≡ false → now ≡ false
unclear true was back not_was = absurd (let is = back refl in let clash : true ≡ false = sym is ∙ not_was in cc)
unclear false was back not_was = refl

module _ {L : Type 0} (type : LegType L) (old : StripeState L) (run block : ℕ) (bytes : RecordData) where
  -- the new write's record
  abbrev pub new_record : Record
  new_record = begun run old.tickets block bytes (targets block (table old))

  abbrev begun_state : StripeState L
  begun_state = after_begin old run block bytes

  abbrev region : ℕ
  region = block / old.place.region

  -- each leg's flags are marked if it is out
  begin-leg_at : (leg : ℕ) → leg_at leg (table begun_state) ≡ marked_if_out region (leg_at leg (table old))
  begin-leg_at leg = mark-leg region leg old.flags

  -- a leg that is not out has its flags as they were
  begin-attached : (leg : ℕ) → (leg_at leg (table old)).out ≡ false → leg_at leg (table begun_state) ≡ leg_at leg (table old)
  begin-attached leg stays = begin-leg_at leg ∙ mark-stays region (leg_at leg (table old)) stays

  -- a leg that is clear now was
  begin-clear : (leg b : ℕ) → is_clear leg b begun_state ≡ true → is_clear leg b old ≡ true
  begin-clear leg b is =
      let copied : Bool = has_copied leg (region_of b (table old)) (place_of b (table old)) old.copy in
      let here : (not (is_behind (region_of b (table old)) (marked_if_out region (leg_at leg (table old)))) || copied) ≡ true =
      subst (λ (l : LegRegions). (not (is_behind (region_of b (table old)) l) || copied) ≡ true) (begin-leg_at leg) is in
      clear-less (is_behind (region_of b (table old)) (leg_at leg (table old))) (is_behind (region_of b (table old)) (marked_if_out region (leg_at leg (table old)))) copied
      (mark-behind region (region_of b (table old)) (leg_at leg (table old))) here

  -- whether a leg is current stays
  pub begin-current : (leg b : ℕ) → is_current leg b begun_state ≡ is_current leg b old
  begin-current leg b =
      let copied : Bool = has_copied leg (region_of b (table old)) (place_of b (table old)) old.copy in
      ap (λ (l : LegRegions). (not l.out && not (is_behind (region_of b (table old)) l)) || copied) (begin-leg_at leg)
      ∙ mark-current region (region_of b (table old)) (leg_at leg (table old)) copied

  begin-legs : HasLegs type.model old → HasLegs type.model begun_state
  begin-legs k = record {
    sizes = k.sizes;
    some_chunk = k.some_chunk;
    states = k.states;
    flags = length-map old.flags (marked_if_out region) ∙ k.flags;
    regions = mark-regions region (regions_of old.place.blocks old.place.region) old.flags k.regions;
    lengths = k.lengths;
    master = k.master;
    outs = λ leg. ap (λ (l : LegRegions). l.out) (begin-leg_at leg) ∙ mark-out region (leg_at leg (table old)) ∙ k.outs leg;
    in_sync = λ leg is. ap (λ (l : LegRegions). leg_flags.has_behind l) (begin-attached leg (in_sync_attached type.model old k leg is)) ∙ k.in_sync leg is;
  }

  begin-records : HasLegs type.model old → HasRecords old → MayBegin old run block → block < old.place.blocks → FillsBlock bytes → LiesInside (span_of bytes) → HasRecords begun_state
  begin-records has_legs k may inside fills lies = record {
    in_order = AreInOrder-with_new new_record old.records may.few k.tickets (record { filled = fills; inside = lies; places = refl }) k.in_order;
    tickets = AllBelow-with_new new_record old.records k.tickets;
    one_writer = OneWriterABlock-with_new new_record old.records may.free k.one_writer;
    inside = λ t r at. ⊎_elim
        (λ new. subst (λ (x : Record). x.block < old.place.blocks) (sym new.1) inside)
        (λ was. k.inside t r was.1)
        (new_cases old.tickets t old.records new_record r k.tickets refl at);
    landed = λ t r at. ⊎_elim
        (λ new. subst (λ (x : Record). is_some x.entry ≡ (old.settling || not (owes old.master x))) (sym new.1)
        (sym (ap (λ (b : Bool). b || not (owes old.master new_record)) may.not_settling ∙ ap (λ b. not b) (master_owed type.model old has_legs block))))
        (λ was. k.landed t r was.1)
        (new_cases old.tickets t old.records new_record r k.tickets refl at);
    settling = λ is. absurd (let clash : true ≡ false = sym is ∙ may.not_settling in cc);
  }

  -- a leg that is out is not clear at the new write's block
  begin-marked : HasLegs type.model old → HasChunk old.copy old.chunk old → block < old.place.blocks → (leg : ℕ) → leg < length old.legs → is_out (leg_state leg old) ≡ true → is_clear leg block begun_state ≡ false
  begin-marked has_legs chunk inside leg is_leg out =
      let was : (leg_at leg (table old)).out ≡ true = has_legs.outs leg ∙ out in
      let within : region < length (leg_at leg (table old)).behind =
      omega (arith, has_legs.regions leg no_leg (omega (arith, is_leg, has_legs.flags)), region_within block old.place.blocks old.place.region inside has_legs.sizes.some_region) in
      let behind : is_behind region (leg_at leg (table begun_state)) ≡ true = ap (λ (l : LegRegions). is_behind region l) (begin-leg_at leg) ∙ mark-here region (leg_at leg (table old)) was within in
      let other : has_copied leg region (place_of block (table old)) old.copy ≡ false = not_copying type.model old has_legs chunk leg region (place_of block (table old)) out in
      rw (behind, other) refl

  begin-writes : HasLegs type.model old → HasRecords old → HasChunk old.copy old.chunk old → HasWrites old → MayBegin old run block → block < old.place.blocks → HasWrites begun_state
  begin-writes has_legs records chunk k may inside = record {
    owed = λ t r leg at owes_leg. begin-current leg r.block ∙ ⊎_elim
        (λ new. subst (λ (x : Record). is_current leg x.block old ≡ true) (sym new.1) (owes_current (table old) block leg (subst (λ (x : Record). owes leg x ≡ true) new.1 owes_leg)))
        (λ was. k.owed t r leg was.1 owes_leg)
        (new_cases old.tickets t old.records new_record r records.tickets refl at);
    apart = λ t r at going. ⊎_elim
        (λ new. subst (λ (x : Record). is_copied_now x.block old ≡ false) (sym new.1) may.not_copied_now)
        (λ was. k.apart t r was.1 going)
        (new_cases old.tickets t old.records new_record r records.tickets refl at);
    marked = λ t r leg at is_leg going out. ⊎_elim
        (λ new. subst (λ (x : Record). is_clear leg x.block begun_state ≡ false) (sym new.1) (begin-marked has_legs chunk inside leg is_leg out))
        (λ was. unclear (is_clear leg r.block begun_state) (is_clear leg r.block old) (begin-clear leg r.block) (k.marked t r leg was.1 is_leg going out))
        (new_cases old.tickets t old.records new_record r records.tickets refl at);
  }

  begin-chunk : HasLegs type.model old → HasChunk old.copy old.chunk old → HasChunk old.copy old.chunk begun_state
  begin-chunk has_legs k = chunk-stays old begun_state old.copy old.chunk
      (λ c is. record {
        joining = is.joining;
        behind = ap (λ (l : LegRegions). leg_flags.is_behind c.region l) (begin-attached c.leg (joining_attached type.model old has_legs c.leg is.joining)) ∙ is.behind;
        within = is.within;
      })
      (λ c h is. record { long = is.long; some = is.some; most = is.most; more = is.more; read_first = is.read_first })
      k

  begin-numbers : HasNumbers old → MayBegin old run block → HasNumbers begun_state
  begin-numbers k may = record {
    start = k.start;
    starts = k.starts;
    numbered = k.numbered;
    most = k.most;
    asked = k.asked;
    given = omega (arith, k.given, unlanded-with_new new_record old.records refl);
    below = omega (arith, may.below, unlanded-with_new new_record old.records refl);
    low = low-with_new old.first old.records new_record k.low (omega (arith, may.below));
  }

  -- the array stays
  begin-array : stripe_array type.model begun_state ≡ stripe_array type.model old
  begin-array = laid-begun old.records new_record (contents_of type.model old.legs old.master) refl

  -- a leg that a new write does not owe is not clear at its block
  begin-not_reached : HasLegs type.model old → HasChunk old.copy old.chunk old → block < old.place.blocks → (leg : ℕ) → leg < length old.legs → owes leg new_record ≡ false → is_clear leg block begun_state ≡ true → ⊥
  begin-not_reached has_legs chunk inside leg is_leg free is =
      (elim (is_out (leg_state leg old)) as (λ b. is_out (leg_state leg old) ≡ b → ⊥) [
        | true ↦ λ out. let clash : true ≡ false = sym is ∙ begin-marked has_legs chunk inside leg is_leg out in cc
        | false ↦ λ stays.
            let current : is_current leg block old ≡ true = clear-current leg block old (has_legs.outs leg ∙ stays) ∙ begin-clear leg block is in
            let clash : true ≡ false = sym (current_owed type.model old has_legs block leg is_leg current) ∙ free in
            cc
      ]) refl

  begin-agrees : HasLegs type.model old → HasRecords old → HasChunk old.copy old.chunk old → LegsAgree type.model old → block < old.place.blocks → RecordFits new_record (stripe_array type.model old) → LegsAgree type.model begun_state
  begin-agrees has_legs records chunk k inside fits = record {
    reached = λ t r leg is_leg at going free clear. ⊎_elim
        (λ new. absurd (begin-not_reached has_legs chunk inside leg is_leg (subst (λ (x : Record). owes leg x ≡ false) new.1 free) (subst (λ (x : Record). is_clear leg x.block begun_state ≡ true) new.1 clear)))
        (λ was. k.reached t r leg is_leg was.1 going free (begin-clear leg r.block clear))
        (new_cases old.tickets t old.records new_record r records.tickets refl at);
    alike = λ leg b is_leg inside_b none clear. k.alike leg b is_leg inside_b (busy-front b old.records (new_record ∷ []) none) (begin-clear leg b clear);
    last = subst (λ xs. EndsIn old.kept.entries xs) (sym begin-array) k.last;
    unlanded = λ t r at none. subst (λ xs. RecordFits r xs) (sym begin-array) (⊎_elim
        (λ new. subst (λ (x : Record). RecordFits x (stripe_array type.model old)) (sym new.1) fits)
        (λ was. k.unlanded t r was.1 none)
        (new_cases old.tickets t old.records new_record r records.tickets refl at));
    buffer = λ c h copy_is chunk_is.
        let was = k.buffer c h copy_is chunk_is in
        record {
          read = λ i few. was.read i few ∙ ap (λ xs. slice_get xs (copy_start old.place.region c + i)) (sym begin-array);
          written = λ i few. was.written i few ∙ ap (λ xs. slice_get xs (copy_start old.place.region c + i)) (sym begin-array);
        };
  }

  pub begin-keeps : Keeps type old → MayBegin old run block → block < old.place.blocks → FillsBlock bytes → LiesInside (span_of bytes) → (IsTrue type.honest → RecordFits new_record (stripe_array type.model old)) → Keeps type begun_state
  begin-keeps k may inside fills lies fits = record {
    legs = begin-legs k.legs;
    records = begin-records k.legs k.records may inside fills lies;
    writes = begin-writes k.legs k.records k.chunk k.writes may inside;
    chunk = begin-chunk k.legs k.chunk;
    numbers = begin-numbers k.numbers may;
    turn = k.turn;
    consistent = k.consistent;
    agrees = λ is_honest runs. begin-agrees k.legs k.records k.chunk (k.agrees is_honest runs) inside (fits is_honest);
  }

  -- the life of each write goes on by this begin alone
  begin-lives : HasRecords old → (t : ℕ) → WriteLives t (write_life old t) (BeginsWrite old.tickets block (put_by new_record) ∷ []) (write_life begun_state t)
  begin-lives k t = (
    write_life begun_state t,
    (elim (old.tickets == t) as (λ b. (old.tickets == t) ≡ b → MatchBool b ((write_life old t ≡ NotBegun) × (write_life begun_state t ≡ Begun block (put_by new_record))) (write_life begun_state t ≡ write_life old t)) [
      | true ↦ λ is.
          let at : old.tickets ≡ t = same old.tickets t is in
          let not_given : nat_lt t old.tickets ≡ false = grind (arith, nat_tests) in
          let given : nat_lt t (old.tickets + 1) ≡ true = grind (arith, nat_tests) in
          let found : find_record t (with_new new_record old.records) ≡ Some new_record = subst (λ (k : ℕ). find_record k (with_new new_record old.records) ≡ Some new_record) at (find-new_same old.tickets old.records new_record k.tickets refl) in
          (rw not_given refl, rw (given, found) refl)
      | false ↦ λ is.
          let ne : old.tickets ≢ t = λ e. let yes : (old.tickets == t) ≡ true = grind (arith, nat_tests) in let clash : true ≡ false = sym yes ∙ is in cc in
          let given : nat_lt t (old.tickets + 1) ≡ nat_lt t old.tickets = grind (arith, nat_tests) in
          let found = find_record-with_new_other new_record t old.records (λ e. ne (sym e)) in
          rw (given, found) refl
    ]) refl,
    refl,
  )

  pub begin-acts : Keeps type old → Acts type.model old begun_state (BeginsWrite old.tickets block (put_by new_record) ∷ [])
  begin-acts k = record {
    explained = record {
      legal = begin-array;
      next = omega arith;
      each_write = begin-lives k.records;
      each_read = λ n. (read_life old n, refl, refl);
    };
    kept = kept-stays old k.numbers.most;
    total = omega arith;
    first = refl;
  }

module _ {L : Type 0} (type : LegType L) (old new : StripeState L) (block : ℕ) (bytes : Data) where
  -- the read of a part's block changed no contents, and whole data call no leg
  base-same : (part : Bool) (base : Block) → ReadsBase type part old new.legs block base → SameContents type old new.legs
  base-same false base same = record {
    count = ap (λ xs. length xs) same;
    lengths = λ leg. ap (λ xs. length (contents_of type.model xs leg)) same;
    contents = λ is_honest leg. ap (λ xs. contents_of type.model xs leg) same;
  }
  base-same true base reads = read-same type old new.legs true old.master block base reads

  module _ (ticket : ℕ) (k : Keeps type old) (b : Begins type old new block bytes ticket) where
    -- the stripe with the legs that the read left
    abbrev mid : StripeState L
    mid = record old { legs = new.legs }

    mid-same : SameContents type old new.legs
    mid-same = base-same (is_part bytes) b.base b.reads

    mid-keeps : Keeps type mid
    mid-keeps = called-keeps type old new.legs mid-same k

    may : MayBegin mid mid.tickets block
    may = may_begin mid block b.no_cause

    -- the base is what the array has at the block
    base-at : IsTrue type.honest → is_part bytes ≡ true → slice_get (stripe_array type.model mid) block ≡ Some b.base
    base-at is_honest part =
        let reads : ReadsBase type true old new.legs block b.base = subst (λ (p : Bool). ReadsBase type p old new.legs block b.base) part b.reads in
        (array-at type.model mid block).free may.free
        ∙ ap (λ xs. slice_get xs block) (mid-same.contents is_honest old.master)
        ∙ reads-found type old.legs new.legs old.master block b.base is_honest reads

    base-inside : block < old.place.blocks → block < length (stripe_array type.model mid)
    base-inside inside = omega (arith, inside, length-array type.model mid, mid-keeps.legs.lengths old.master (master_inside type.model mid mid-keeps.legs))

    -- a begin keeps what every stripe keeps
    begun-keeps : block < old.place.blocks → FitsBlock bytes → Keeps type new
    begun-keeps inside fits =
        subst (λ s. Keeps type s) (sym b.after)
        (begin-keeps type mid mid.tickets block (data_over bytes b.base) mid-keeps may inside (FillsBlock-data_over bytes b.base b.filled fits) (LiesInside-data_over bytes b.base fits)
        (λ is_honest. fits-over old.tickets block bytes b.base (stripe_array type.model mid) b.filled fits (base-inside inside) (base-at is_honest)))

    -- and is explained by the begin of its write
    begun-acts : FitsBlock bytes → IsTrue type.honest → Acts type.model old new (BeginsWrite ticket block (put_of_data bytes) ∷ [])
    begun-acts fits is_honest =
        let begin : Event = BeginsWrite old.tickets block (put_by (new_record type mid mid.tickets block (data_over bytes b.base))) in
        let acts : Acts type.model old new (begin ∷ []) = subst (λ s. Acts type.model old s (begin ∷ [])) (sym b.after)
        (acts-append type.model old mid (after_begin mid mid.tickets block (data_over bytes b.base)) [] (begin ∷ []) (called-acts type old new.legs mid-same is_honest k) (begin-acts type mid mid.tickets block (data_over bytes b.base) mid-keeps)) in
        let put = put-over bytes b.base b.filled fits in
        subst (λ (t : ℕ). Acts type.model old new (BeginsWrite t block (put_of_data bytes) ∷ [])) (sym b.next)
        (subst (λ (p : Put). Acts type.model old new (BeginsWrite old.tickets block p ∷ [])) put acts)

pub begins-keeps : {L : Type 0} (type : LegType L) (old new : StripeState L) (block : ℕ) (bytes : Data) (ticket : ℕ) → Keeps type old → Begins type old new block bytes ticket → block < old.place.blocks → FitsBlock bytes → Keeps type new
begins-keeps type old new block bytes ticket k begins = begun-keeps type old new block bytes ticket k begins

pub begins-acts : {L : Type 0} (type : LegType L) (old new : StripeState L) (block : ℕ) (bytes : Data) (ticket : ℕ) → Keeps type old → Begins type old new block bytes ticket → FitsBlock bytes → IsTrue type.honest → Acts type.model old new (BeginsWrite ticket block (put_of_data bytes) ∷ [])
begins-acts type old new block bytes ticket k begins = begun-acts type old new block bytes ticket k begins

pub begins-explained : {L : Type 0} (type : LegType L) (old new : StripeState L) (block : ℕ) (bytes : Data) (ticket : ℕ) → Keeps type old → Begins type old new block bytes ticket → FitsBlock bytes → IsTrue type.honest → IsExplainedStep type.model (BeginsWrite ticket block (put_of_data bytes) ∷ []) old new
begins-explained type old new block bytes ticket k begins fits is_honest = record {
  events = BeginsWrite ticket block (put_of_data bytes) ∷ [];
  marked = refl;
  acts = begins-acts type old new block bytes ticket k begins fits is_honest;
}

-- a part's begin that failed at the last leg in sync changes no more than the leg's count of faults
pub fails_in_begin-explained : {L : Type 0} (type : LegType L) (old new : StripeState L) (block : ℕ) (bytes : Data) → IsTrue type.honest → Keeps type old → FailsInBegin type old new block bytes → IsExplainedStep type.model [] old new
fails_in_begin-explained type old new block bytes is_honest k f = record {
  events = [];
  marked = refl;
  acts = subst (λ s. Acts type.model old s []) (sym f.after)
      (called-acts type old new.legs (read-same type old new.legs false old.master block f.called.found f.called.reads) is_honest k);
}
