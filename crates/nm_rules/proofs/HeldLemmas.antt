-- What a stripe keeps is decided by what its legs hold: the same of two stripes whose legs hold the
-- same. So lemmas can be used where legs are what they hold, and where one between two blocks exists.
use Rattle.std.proofs.Common.{◌≡◌, ℕ, ◌+◌, Bool, true, List, length, map, Option, None, Some, refl, sym, ap, ◌∙◌, subst, arith, slice_get}
use Rattle.std.specs.Option.{option_map}
use Rattle.std.proofs.lemmas.List.{length-map}
use Rattle.std.proofs.lemmas.Option.{slice_get-map}
use Rattle.nm_replay.specs.Events.{Event, entries_of}
use Rattle.nm_replay.specs.History.{EndsIn, Legal}
use Rattle.nm_replay.specs.Array.{Array}
use Rattle.nm_leg.specs.Leg.{Leg, LegType, leg_type}
use Rattle.nm_regions.specs.declared.copy_place.CopyPlace.{CopyPlace}
use Rattle.nm_regions.specs.Sound.{AreSizes}
use Rattle.nm_rules.specs.Acts.{Acts, IsExplainedStep}
use Rattle.nm_rules.specs.Array.{contents_of, contents_at, laid_from, stripe_array}
use Rattle.nm_rules.specs.Invariant.{HasLegs, HasChunk, IsCopy, HoldsArray, LegsAgree, Keeps}
use Rattle.nm_rules.specs.State.{Chunk, StripeState, copy_start, next_number}
use Rattle.nm_rules.proofs.SpanLemmas.{AllFit}

-- the stripe with other legs, field by field
abbrev pub on_legs : {A B : Type 0} → StripeState A → List B → StripeState B
on_legs s legs = record {
  place = s.place;
  policy = s.policy;
  legs = legs;
  states = s.states;
  flags = s.flags;
  master = s.master;
  settling = s.settling;
  stopped = s.stopped;
  turn = s.turn;
  copy = s.copy;
  chunk = s.chunk;
  records = s.records;
  tickets = s.tickets;
  kept = s.kept;
  first = s.first;
  total = s.total;
}

-- the stripe, with what each of its legs holds in the leg's place
abbrev pub seen : {L : Type 0} → (L → Leg) → StripeState L → StripeState Leg
seen model s = on_legs s (map model s.legs)

-- legs that are what they hold
abbrev pub held_type : Bool → LegType Leg
held_type honest = leg_type (λ leg. leg) honest

-- the legs of these stripes hold the same
pub record HoldSame {A B : Type 0} (mine : A → Leg) (other : B → Leg) (s : StripeState A) (legs : List B) : Type 0 where
  pub count : length legs ≡ length s.legs
  pub contents : (k : ℕ) → contents_of other legs k ≡ contents_of mine s.legs k

module _ {A B : Type 0} (mine : A → Leg) (other : B → Leg) (honest : Bool) (s : StripeState A) (legs : List B) (h : HoldSame mine other s legs) where
  abbrev z : StripeState B
  z = on_legs s legs

  pub held-array : stripe_array other z ≡ stripe_array mine s
  held-array = ap (λ xs. laid_from 0 s.records xs) (h.contents s.master)

  held-copy : (c : CopyPlace) → IsCopy c s → IsCopy c z
  held-copy c is = record { joining = is.joining; behind = is.behind; within = is.within }

  held-chunk : (c : Option CopyPlace) (k : Option Chunk) → HasChunk c k s → HasChunk c k z
  held-chunk None None has = tt
  held-chunk None (Some k) has = absurd has
  held-chunk (Some c) None has = held-copy c has
  held-chunk (Some c) (Some k) has = (held-copy c has.0, record { long = has.1.long; some = has.1.some; most = has.1.most; more = has.1.more; read_first = has.1.read_first })

  held-legs : HasLegs mine s → HasLegs other z
  held-legs k = record {
    sizes = subst (λ (n : ℕ). AreSizes s.place.blocks s.place.region n) (sym h.count) k.sizes;
    some_chunk = k.some_chunk;
    states = k.states ∙ sym h.count;
    flags = k.flags ∙ sym h.count;
    regions = k.regions;
    lengths = λ leg inside. ap (λ xs. length xs) (h.contents leg) ∙ k.lengths leg (omega (arith, inside, h.count));
    master = k.master;
    outs = k.outs;
    in_sync = k.in_sync;
  }

  held-buffer : (c : CopyPlace) (k : Chunk) → HoldsArray mine c k s → HoldsArray other c k z
  held-buffer c k has = record {
    read = λ i below. has.read i below ∙ ap (λ xs. slice_get xs (copy_start s.place.region c + i)) (sym held-array);
    written = λ i below. ap (λ xs. slice_get xs (copy_start s.place.region c + i)) (h.contents c.leg) ∙ has.written i below ∙ ap (λ xs. slice_get xs (copy_start s.place.region c + i)) (sym held-array);
  }

  held-agrees : LegsAgree mine s → LegsAgree other z
  held-agrees a = record {
    reached = λ t r leg inside at going free clear. ap (λ xs. slice_get xs r.block) (h.contents leg) ∙ a.reached t r leg (omega (arith, inside, h.count)) at going free clear;
    alike = λ leg block inside within none clear. ap (λ xs. slice_get xs block) (h.contents leg) ∙ a.alike leg block (omega (arith, inside, h.count)) within none clear ∙ ap (λ xs. slice_get xs block) (sym (h.contents s.master));
    last = subst (λ (xs : Array). EndsIn s.kept.entries xs) (sym held-array) a.last;
    unlanded = subst (λ (xs : Array). AllFit s.records xs) (sym held-array) a.unlanded;
    buffer = λ c k on is. held-buffer c k (a.buffer c k on is);
  }

  pub held-keeps : Keeps (leg_type mine honest) s → Keeps (leg_type other honest) z
  held-keeps k = record {
    legs = held-legs k.legs;
    records = record { in_order = k.records.in_order; tickets = k.records.tickets; one_writer = k.records.one_writer; inside = k.records.inside; landed = k.records.landed; settling = k.records.settling };
    writes = record { owed = k.writes.owed; apart = k.writes.apart; marked = λ t r leg at inside going out. k.writes.marked t r leg at (omega (arith, inside, h.count)) going out };
    chunk = held-chunk s.copy s.chunk k.chunk;
    numbers = record { start = k.numbers.start; starts = k.numbers.starts; numbered = k.numbers.numbered; most = k.numbers.most; asked = k.numbers.asked; given = k.numbers.given; below = k.numbers.below; low = k.numbers.low };
    turn = k.turn;
    consistent = k.consistent;
    agrees = λ is_honest runs. held-agrees (k.agrees is_honest runs);
  }

contents-seen : {L : Type 0} (model : L → Leg) (o : Option L) → contents_at (λ (leg : Leg). leg) (option_map model o) ≡ contents_at model o
contents-seen model None = refl
contents-seen model (Some l) = refl

contents_of-seen : {L : Type 0} (model : L → Leg) (legs : List L) (k : ℕ) → contents_of (λ (leg : Leg). leg) (map model legs) k ≡ contents_of model legs k
contents_of-seen model legs k = ap (λ o. contents_at (λ (leg : Leg). leg) o) (slice_get-map model legs k) ∙ contents-seen model (slice_get legs k)

-- there: the legs are what they hold
pub seen-same : {L : Type 0} (model : L → Leg) (s : StripeState L) → HoldSame model (λ (leg : Leg). leg) s (map model s.legs)
seen-same model s = record { count = length-map s.legs model; contents = λ k. contents_of-seen model s.legs k }

-- and back
pub seen-back : {L : Type 0} (model : L → Leg) (s : StripeState L) → HoldSame (λ (leg : Leg). leg) model (seen model s) s.legs
seen-back model s = record { count = sym (length-map s.legs model); contents = λ k. sym (contents_of-seen model s.legs k) }

pub seen-keeps : {L : Type 0} (type : LegType L) (s : StripeState L) → Keeps type s → Keeps (held_type type.honest) (seen type.model s)
seen-keeps type s k = held-keeps type.model (λ (leg : Leg). leg) type.honest s (map type.model s.legs) (seen-same type.model s) k

pub keeps-seen : {L : Type 0} (type : LegType L) (s : StripeState L) → Keeps (held_type type.honest) (seen type.model s) → Keeps type s
keeps-seen type s k = held-keeps (λ (leg : Leg). leg) type.model type.honest (seen type.model s) s.legs (seen-back type.model s) k

-- what acts on what the legs hold acts on the stripe
pub acts-seen : {L : Type 0} (model : L → Leg) (old new : StripeState L) (events : List Event) → Acts (λ (leg : Leg). leg) (seen model old) (seen model new) events → Acts model old new events
acts-seen model old new events a = record {
  explained = record {
    legal =
        subst (λ (xs : Array). Legal (next_number old) (entries_of events) xs (stripe_array model new)) (held-array model (λ (leg : Leg). leg) true old (map model old.legs) (seen-same model old))
        (subst (λ (xs : Array). Legal (next_number old) (entries_of events) (stripe_array (λ (leg : Leg). leg) (seen model old)) xs) (held-array model (λ (leg : Leg). leg) true new (map model new.legs) (seen-same model new)) a.explained.legal);
    next = a.explained.next;
    each_write = a.explained.each_write;
    each_read = a.explained.each_read;
  };
  kept = a.kept;
  total = a.total;
  first = a.first;
}

-- and what is explained of what they hold is explained of the stripe
pub explained-seen : {L : Type 0} (model : L → Leg) (marks : List Event) (old new : StripeState L) → IsExplainedStep (λ (leg : Leg). leg) marks (seen model old) (seen model new) → IsExplainedStep model marks old new
explained-seen model marks old new e = record { events = e.events; marked = e.marked; acts = acts-seen model old new e.events e.acts }
