-- The tickets and the blocks stand beside the records, through every change at a place.
use Rattle.std.proofs.Common.{◌≡◌, ℕ, ◌+◌, ◌-◌, ◌<◌, ◌≤◌, zero, suc, Bool, true, false, cond, List, [], ◌∷◌, ◌++◌, length, get_or, set, drop, map, Option, None, Some, not, Bor, Result, Ok, Err, refl, sym, ap, ◌∙◌, arith, inl, inr, nat_lt, ◌&&◌}
use Rattle.std.specs.Option.{IsSome, is_some, option_copied, option_map}
use Rattle.std.specs.Result.{result_ok}
use Rattle.std.specs.List.{find, position, position_or_len, remove, slice_get}
use Rattle.std.specs.List.Sorted.{IsSearchInRange, IsBinarySearchResult, IsNonDecreasingBy}
use Rattle.std.specs.Ordering.{nat_cmp, ordering_index}
use Rattle.std.proofs.lemmas.Bool.{cases_lt}
use Rattle.std.proofs.lemmas.Bool.Decides.{nat_tests}
use Rattle.std.proofs.lemmas.Cmp.{ranked}
use Rattle.std.proofs.lemmas.Grind.{common_steps}
use Rattle.std.proofs.lemmas.List.{get_or_default}
use Rattle.std.proofs.lemmas.List.Sums.{position_or_len_is}
use Rattle.std.proofs.lemmas.Option.{slice_get-get_or}
use Rattle.nm_fanout.specs.declared.write_record.Record.{Record}
use Rattle.nm_fanout.specs.Record.{IsRun, is_under_way, waiting, without_leg, with_entry}
use Rattle.nm_fanout.specs.RecordData.{blocks_in}
use Rattle.nm_fanout.specs.Records.{Ascends, IsAt, find_record, any_under_way, changed, left_by}
use Rattle.nm_fanout.specs.Runs.{AllEndBy, meets, run_busy_among}
use Rattle.nm_fanout.specs.Stored.{AreIndexed}
use Rattle.nm_fanout.proofs.Owed.{tells}
use Rattle.nm_fanout.proofs.RunOrder.{SameRun, ascends-runs, run-at, runs-left_by, runs-push, runs-remove, runs-set, without_leg-run, with_entry-run}
use Rattle.nm_fanout.proofs.Waiting.{waiting-None, waiting-Some, waiting-at, waiting-left_by, waiting-push, waiting-remove, waiting-set}
use Rattle.nm_fanout.proofs.Leaving.{mapped_to, mapped-step, length-mapped_to}
use Rattle.nm_fanout.proofs.Busy.{holds_among}
use Rattle.nm_fanout.proofs.Places.{FindsPlace, set-at, tickets-rise as record_tickets-rise, no-place}
use Rattle.nm_fanout.proofs.Tickets.{find_record-at}

-- a record stands at each place
pub some-at : (rs : List Record) (i : ℕ) → i < length rs
    → (x : Record) × (slice_get rs i ≡ Some x) × (x ≡ get_or rs i x)
some-at [] i lt = absurd (omega arith)
some-at (r ∷ rs) zero lt = (r, refl, refl)
some-at (r ∷ rs) (suc i) lt = some-at rs i (omega arith)

-- and what is read there is it
pub read-there : (rs : List Record) (i : ℕ) (x : Record) → slice_get rs i ≡ Some x
    → (i < length rs) × (x ≡ get_or rs i x)
read-there [] i x h = absurd cc
read-there (r ∷ rs) zero x h = (omega arith, cc)
read-there (r ∷ rs) (suc i) x h = let k = read-there rs i x h in (omega (arith, k.0), k.1)

-- a field of the record at a place
pub field-at : (f : Record → ℕ) (rs : List Record) (i d : ℕ) (x : Record)
    → slice_get rs i ≡ Some x → get_or (map f rs) i d ≡ f x
field-at f [] i d x h = absurd cc
field-at f (r ∷ rs) zero d x h = let e : r ≡ x = cc in ap f e
field-at f (r ∷ rs) (suc i) d x h = field-at f rs i d x h

pub length-fields : (f : Record → ℕ) (rs : List Record) → length (map f rs) ≡ length rs
length-fields f [] = refl
length-fields f (r ∷ rs) = ap (λ n. suc n) (length-fields f rs)

fields-push : (f : Record → ℕ) (rs : List Record) (r : Record)
    → map f rs ++ f r ∷ [] ≡ map f (rs ++ r ∷ [])
fields-push f [] r = refl
fields-push f (x ∷ rs) r = ap (λ (l : List ℕ). f x ∷ l) (fields-push f rs r)

fields-remove : (f : Record → ℕ) (rs : List Record) (i : ℕ) → i < length rs
    → remove (map f rs) i ≡ map f (remove rs i)
fields-remove f [] i lt = absurd (omega arith)
fields-remove f (r ∷ rs) zero lt = refl
fields-remove f (r ∷ rs) (suc i) lt = ap (λ (l : List ℕ). f r ∷ l)
    (fields-remove f rs i (omega arith))

fields-set : (f : Record → ℕ) (rs : List Record) (i : ℕ) (x y : Record) → slice_get rs i ≡ Some x
    → f y ≡ f x → map f (set rs i y) ≡ map f rs
fields-set f [] i x y h same = refl
fields-set f (r ∷ rs) zero x y h same = let e : r ≡ x = cc in
    ap (λ (n : ℕ). n ∷ map f rs) (same ∙ ap f (sym e))
fields-set f (r ∷ rs) (suc i) x y h same = ap (λ (l : List ℕ). f r ∷ l)
    (fields-set f rs i x y h same)

fields-left_by : (f : Record → ℕ) (leg : ℕ) (keeps : (r : Record) → f (without_leg leg r) ≡ f r)
    (rs : List Record) → map f (left_by leg rs) ≡ map f rs
fields-left_by f leg keeps [] = refl
fields-left_by f leg keeps (r ∷ rs) = rw (keeps r) (ap (λ (l : List ℕ). f r ∷ l)
    (fields-left_by f leg keeps rs))

-- a record is changed at its place: what follows where it is one of the same run
changed-at : (rs new : List Record) (tickets blocks : List ℕ) (n m i : ℕ) (x y : Record)
    → AreIndexed rs tickets blocks n → slice_get rs i ≡ Some x → new ≡ set rs i y → SameRun x y
    → m + waiting x ≡ n + waiting y → AreIndexed new tickets blocks m
changed-at rs new tickets blocks n m i x y h there is same count = rw is (record {
  in_order = runs-set rs i x y h.in_order there same;
  tickets_of = h.tickets_of ∙ sym (fields-set (λ r. r.ticket) rs i x y there same.ticket);
  blocks_of = h.blocks_of ∙ sym (fields-set (λ r. r.block) rs i x y there same.block);
  counted = omega (arith, h.counted, count, waiting-set rs i x y there);
})

-- what a change at a place does, as a list's own contract says
abbrev pub ChangesAt : (Record → Record) → ℕ → List Record → List Record → Type 0
ChangesAt f i rs new = (r : Record) → slice_get rs i ≡ Some r → new ≡ set rs i (f r)

pub change-at : (f : Record → Record) (t i : ℕ) (rs new : List Record) → Ascends rs
    → i < length rs → ChangesAt f i rs new → IsAt t i rs → new ≡ changed f t rs
change-at f t i rs new h lt changes at =
    let x = some-at rs i lt in changes x.0 x.1 ∙ set-at f t i rs x.0 h at x.2

-- a write begins
pub begun-indexed : (rs new : List Record) (tickets blocks : List ℕ) (n count : ℕ) (r : Record)
    → AreIndexed rs tickets blocks n → new ≡ rs ++ r ∷ [] → length rs < 256
    → AllEndBy r.ticket rs → IsRun r → r.entry ≡ None → count ≡ blocks_in r.data
    → AreIndexed new (tickets ++ r.ticket ∷ []) (blocks ++ r.block ∷ []) (n + count)
begun-indexed rs new tickets blocks n count r h is few next whole none all = rw is (record {
  in_order = runs-push rs r few next whole h.in_order;
  tickets_of = ap (λ (l : List ℕ). l ++ r.ticket ∷ []) h.tickets_of
      ∙ fields-push (λ x. x.ticket) rs r;
  blocks_of = ap (λ (l : List ℕ). l ++ r.block ∷ []) h.blocks_of
      ∙ fields-push (λ x. x.block) rs r;
  counted = omega (arith, h.counted, all, waiting-None r none, waiting-push rs r);
})

-- the write at a place reached a leg
pub reached-indexed : (rs new : List Record) (tickets blocks : List ℕ) (n i leg : ℕ)
    → AreIndexed rs tickets blocks n → i < length rs → ChangesAt (without_leg leg) i rs new
    → AreIndexed new tickets blocks n
reached-indexed rs new tickets blocks n i leg h lt changes =
    let x = some-at rs i lt in
    changed-at rs new tickets blocks n n i x.0 (without_leg leg x.0) h x.1 (changes x.0 x.1)
    (without_leg-run leg x.0) refl

-- the write at a place got a number
pub landed-indexed : (rs new : List Record) (tickets blocks : List ℕ) (n m i number : ℕ)
    (x : Record) → AreIndexed rs tickets blocks n → slice_get rs i ≡ Some x
    → ChangesAt (with_entry number) i rs new → m ≡ n - waiting x
    → AreIndexed new tickets blocks m
landed-indexed rs new tickets blocks n m i number x h there changes less =
    let counted : m + waiting x ≡ n + waiting (with_entry number x) = omega
    (arith, less, h.counted, waiting-at rs i x there, waiting-Some (with_entry number x) refl) in
    changed-at rs new tickets blocks n m i x (with_entry number x) h there (changes x there)
    (with_entry-run number x) counted

-- the landed write at a place is taken away
pub claimed-indexed : (rs new : List Record) (tickets blocks : List ℕ) (n i : ℕ) (x : Record)
    → AreIndexed rs tickets blocks n → slice_get rs i ≡ Some x → new ≡ remove rs i
    → IsSome x.entry → AreIndexed new (remove tickets i) (remove blocks i) n
claimed-indexed rs new tickets blocks n i x h there is landed =
    let read = read-there rs i x there in
    rw is (record {
      in_order = runs-remove rs i read.0 h.in_order;
      tickets_of = ap (λ (l : List ℕ). remove l i) h.tickets_of
          ∙ fields-remove (λ r. r.ticket) rs i read.0;
      blocks_of = ap (λ (l : List ℕ). remove l i) h.blocks_of
          ∙ fields-remove (λ r. r.block) rs i read.0;
      counted = omega
          (arith, h.counted, waiting-remove rs i x there, waiting-Some x landed);
    })

-- a leg leaves
pub left-indexed : (rs new : List Record) (tickets blocks : List ℕ) (n leg : ℕ)
    → AreIndexed rs tickets blocks n → new ≡ left_by leg rs → AreIndexed new tickets blocks n
left-indexed rs new tickets blocks n leg h is = rw is (record {
  in_order = runs-left_by leg rs h.in_order;
  tickets_of = h.tickets_of ∙ sym (fields-left_by (λ r. r.ticket) leg (λ r. refl) rs);
  blocks_of = h.blocks_of ∙ sym (fields-left_by (λ r. r.block) leg (λ r. refl) rs);
  counted = h.counted ∙ sym (waiting-left_by leg rs);
})

places-rise : (rs : List Record) (i j : ℕ) (x y : Record) → Ascends rs → i ≤ j
    → slice_get rs i ≡ Some x → slice_get rs j ≡ Some y → x.ticket ≤ y.ticket
places-rise rs i j x y h le a b =
    let k = read-there rs i x a in
    let l = read-there rs j y b in
    let rise = record_tickets-rise rs i j x h le l.0 in
    let there : get_or rs j x ≡ y = get_or_default rs j x y l.0 ∙ sym l.1 in
    omega (
      arith,
      ap (λ (r : Record). r.ticket) k.1,
      rise,
      ap (λ (r : Record). r.ticket) there,
    )

-- a binary search among the tickets answers the place of the ticket's record, or that there is none
tickets-rise : (t : ℕ) (rs : List Record) → Ascends rs
    → IsNonDecreasingBy (λ y. ordering_index (nat_cmp y t)) (map (λ r. r.ticket) rs)
tickets-rise t rs h i j d le lt =
    let long = length-fields (λ r. r.ticket) rs in
    let x = some-at rs i (omega (arith, le, lt, long)) in
    let y = some-at rs j (omega (arith, lt, long)) in
    let a = field-at (λ r. r.ticket) rs i d x.0 x.1 in
    let b = field-at (λ r. r.ticket) rs j d y.0 y.1 in
    let rise : x.0.ticket ≤ y.0.ticket = places-rise rs i j x.0 y.0 h le x.1 y.1 in
    let up : get_or (map (λ r. r.ticket) rs) i d ≤ get_or (map (λ r. r.ticket) rs) j d = omega
    (arith, a, b, rise) in
    grind (arith, nat_tests)

found-ticket : (t i : ℕ) (rs : List Record) → Ascends rs → i < length rs
    → IsBinarySearchResult (λ y. nat_cmp y t) (map (λ r. r.ticket) rs) (Ok i) → IsAt t i rs
found-ticket t i rs h lt equal =
    let x = some-at rs i lt in
    let read = field-at (λ r. r.ticket) rs i 0 x.0 x.1 in
    let there : x.0.ticket ≡ t = sym read ∙ ranked _ t _ (sym (equal 0)) in
    let at : (get_or rs i x.0).ticket ≡ t = ap (λ (r : Record). r.ticket) (sym x.2) ∙ there in
    record {
      within = lt;
      found = find_record-at t rs i x.0 h lt at ∙ sym (slice_get-get_or rs i x.0 lt);
    }

absent-ticket : (t i : ℕ) (rs : List Record) → Ascends rs → i ≤ length rs
    → IsBinarySearchResult (λ y. nat_cmp y t) (map (λ r. r.ticket) rs) (Err i)
    → find_record t rs ≡ None
absent-ticket t i [] h le parted = refl
absent-ticket t i (r ∷ rs) h le parted =
    let p = parted (tickets-rise t (r ∷ rs) h) in
    let long = length-fields (λ r. r.ticket) (r ∷ rs) in
    no-place t (r ∷ rs) r (λ k lt e.
    let x = some-at (r ∷ rs) k lt in
    let read = field-at (λ r. r.ticket) (r ∷ rs) k 0 x.0 x.1 in
    let same : get_or (r ∷ rs) k r ≡ x.0 = get_or_default (r ∷ rs) k r x.0 lt ∙ sym x.2 in
    let ticket = ap (λ (y : Record). y.ticket) same in
    elim (cases_lt k i) [
      | inl w ↦ let less = ranked _ t _ (sym (p.0 k 0 (omega arith) w)) in
          omega (arith, less, e, read, ticket)
      | inr w ↦ let more = ranked _ t _ (sym (p.1 k 0 w (omega (arith, lt, long)))) in
          omega (arith, more, e, read, ticket)
    ])

pub searched-tickets : (t : ℕ) (rs : List Record) (tickets : List ℕ) (r : Result ℕ ℕ) → Ascends rs
    → tickets ≡ map (λ x. x.ticket) rs → IsSearchInRange r (length tickets)
    → IsBinarySearchResult (λ y. nat_cmp y t) tickets r → FindsPlace t rs (result_ok r)
searched-tickets t rs tickets (Ok i) h are bound is = record {
  found = found-ticket t i rs h
      (omega (arith, bound, ap (λ (l : List ℕ). length l) are, length-fields (λ x. x.ticket) rs))
      (rw (← are) is);
  absent = tt;
}
searched-tickets t rs tickets (Err i) h are bound is = record {
  found = tt;
  absent = absent-ticket t i rs h
      (omega (arith, bound, ap (λ (l : List ℕ). length l) are, length-fields (λ x. x.ticket) rs))
      (rw (← are) is);
}

-- a search from a place on: the record there is passed by, or it is the one
drop-at : (rs : List Record) (i : ℕ) (x : Record) → slice_get rs i ≡ Some x
    → drop i rs ≡ x ∷ drop (suc i) rs
drop-at [] i x h = absurd cc
drop-at (r ∷ rs) zero x h = let e : r ≡ x = cc in ap (λ (y : Record). y ∷ rs) e
drop-at (r ∷ rs) (suc i) x h = drop-at rs i x h

pub search-hit : (test : Record → Bool) (rs : List Record) (i : ℕ) (x : Record)
    → slice_get rs i ≡ Some x → test x ≡ true → find test (drop i rs) ≡ Some x
search-hit test rs i x there passes = rw (drop-at rs i x there, passes) refl

pub search-miss : (test : Record → Bool) (rs : List Record) (i : ℕ) → i < length rs
    → ((x : Record) → slice_get rs i ≡ Some x → test x ≡ false)
    → find test (drop i rs) ≡ find test (drop (i + 1) rs)
search-miss test rs i lt fails =
    let x = some-at rs i lt in
    let next : suc i ≡ i + 1 = omega arith in
    let no : test x.0 ≡ false = fails x.0 x.1 in
    ap (λ (l : List Record). find test l) (drop-at rs i x.0 x.1)
    ∙ ap (λ (b : Bool). cond b (Some x.0) (find test (drop (suc i) rs))) no
    ∙ ap (λ n. find test (drop n rs)) next

-- some record passes exactly if one is found
pub any-found : (rs : List Record) → any_under_way rs ≡ is_some (find is_under_way rs)
any-found [] = refl
any-found (r ∷ rs) =
    elim (tells (is_under_way r)) [
      | inl w ↦ rw w refl
      | inr w ↦ rw w (any-found rs)
    ]

-- the first place that passes a test, where all places before it fail
pub first-place : (test : Record → Bool) (rs : List Record) (i : ℕ) (x : Record)
    → slice_get rs i ≡ Some x → test x ≡ true
    → ((k : ℕ) (y : Record) → k < i → slice_get rs k ≡ Some y → test y ≡ false)
    → position test rs ≡ Some i
first-place test rs i x there passes before =
    let read = read-there rs i x there in
    let at : position_or_len test rs ≡ i = position_or_len_is test rs i x (omega (arith, read.0))
    (λ k lt. let y = some-at rs k (omega (arith, lt, read.0)) in
    ap test (get_or_default rs k x y.0 (omega (arith, lt, read.0)) ∙ sym y.2)
    ∙ before k y.0 lt y.1)
    (λ lt. ap test (sym read.1) ∙ passes) in
    grind (arith, common_steps)

pub no-place-passes : (test : Record → Bool) (rs : List Record) (i : ℕ) → length rs ≤ i
    → ((k : ℕ) (y : Record) → k < i → slice_get rs k ≡ Some y → test y ≡ false)
    → position test rs ≡ None
no-place-passes test [] i le fails = refl
no-place-passes test (r ∷ rs) i le fails =
    let at : position_or_len test (r ∷ rs) ≡ length (r ∷ rs) = position_or_len_is test (r ∷ rs)
    (length (r ∷ rs)) r (omega arith)
    (λ k lt. let y = some-at (r ∷ rs) k lt in
    ap test (get_or_default (r ∷ rs) k r y.0 lt ∙ sym y.2)
    ∙ fails k y.0 (omega (arith, lt, le)) y.1)
    (λ lt. absurd (omega (arith, lt))) in
    grind (arith, common_steps)

-- a leg leaves one record more
pub left-step : (leg : ℕ) (rs now new : List Record) (n : ℕ) → now ≡ mapped_to (without_leg leg) n rs
    → n < length rs → ChangesAt (without_leg leg) n now new
    → new ≡ mapped_to (without_leg leg) (n + 1) rs
left-step leg rs now new n so_far lt changes =
    let long : length now ≡ length rs = ap (λ (l : List Record). length l) so_far
    ∙ length-mapped_to (without_leg leg) n rs in
    let x = some-at now n (omega (arith, lt, long)) in
    changes x.0 x.1 ∙ mapped-step (without_leg leg) rs now n x.0 (without_leg leg x.0) so_far lt x.2
    (ap (without_leg leg) x.2)

-- the blocks of a run without an entry are counted
pub waits-counted : (rs : List Record) (tickets blocks : List ℕ) (n i : ℕ) (x : Record)
    → AreIndexed rs tickets blocks n → slice_get rs i ≡ Some x → waiting x ≤ n
waits-counted rs tickets blocks n i x h there = omega (arith, waiting-at rs i x there, h.counted)

-- what stands at a place is what an indexed list's ticket there says
pub ticket-read : (rs : List Record) (tickets blocks : List ℕ) (n i : ℕ) (ticket : ℕ) (x : Record)
    → AreIndexed rs tickets blocks n → slice_get rs i ≡ Some x
    → ticket ≡ get_or tickets i ticket → ticket ≡ x.ticket
ticket-read rs tickets blocks n i ticket x h there read = read
    ∙ ap (λ (l : List ℕ). get_or l i ticket) h.tickets_of
    ∙ field-at (λ r. r.ticket) rs i ticket x there

-- where an indexed list has the ticket its record is
pub near-ticket : (rs : List Record) (tickets blocks : List ℕ) (n i ticket : ℕ)
    → AreIndexed rs tickets blocks n → i < length tickets → ticket ≡ get_or tickets i ticket
    → IsAt ticket i rs
near-ticket rs tickets blocks n i ticket h within read =
    let long : length tickets ≡ length rs = ap (λ (l : List ℕ). length l) h.tickets_of
    ∙ length-fields (λ r. r.ticket) rs in
    let lt : i < length rs = omega (arith, within, long) in
    let x = some-at rs i lt in
    let at : (get_or rs i x.0).ticket ≡ ticket = ap (λ (r : Record). r.ticket) (sym x.2)
    ∙ sym (ticket-read rs tickets blocks n i ticket x.0 h x.1 read) in
    record {
      within = lt;
      found = find_record-at ticket rs i x.0 (ascends-runs rs h.in_order) lt at
          ∙ sym (slice_get-get_or rs i x.0 lt);
    }

-- there are as many blocks as records
pub length-blocks : (rs : List Record) (tickets blocks : List ℕ) (n : ℕ)
    → AreIndexed rs tickets blocks n → length blocks ≡ length rs
length-blocks rs tickets blocks n h = ap (λ (l : List ℕ). length l) h.blocks_of
    ∙ length-fields (λ r. r.block) rs

-- the ticket at the place of a record that a search looks for
pub busy-hit : (first count i ticket : ℕ) (rs : List Record) (tickets blocks : List ℕ) (n : ℕ)
    → AreIndexed rs tickets blocks n → i < length rs
    → ((x : Record) → slice_get rs i ≡ Some x → true ≡ holds_among first count x)
    → ticket ≡ get_or tickets i ticket
    → option_map (λ r. r.ticket) (run_busy_among first count (drop i rs)) ≡ Some ticket
busy-hit first count i ticket rs tickets blocks n h lt passes read =
    let x = some-at rs i lt in
    ap (λ (o : Option Record). option_map (λ r. r.ticket) o)
    (search-hit (holds_among first count) rs i x.0 x.1 (sym (passes x.0 x.1)))
    ∙ ap (λ (m : ℕ). Some m) (sym (ticket-read rs tickets blocks n i ticket x.0 h x.1 read))

-- a reference is there exactly if what it lends is
pub some-copied : {T : Type 0} (o : Option (Bor T)) → is_some o ≡ is_some (option_copied o)
some-copied None = refl
some-copied (Some b) = refl

-- what stands at a place is what an indexed list's block there says
pub block-read : (rs : List Record) (tickets blocks : List ℕ) (n i block : ℕ) (x : Record)
    → AreIndexed rs tickets blocks n → slice_get rs i ≡ Some x
    → block ≡ get_or blocks i block → block ≡ x.block
block-read rs tickets blocks n i block x h there read = read
    ∙ ap (λ (l : List ℕ). get_or l i block) h.blocks_of
    ∙ field-at (λ r. r.block) rs i block x there

-- each run has a block
pub some-blocks : (rs : List Record) (tickets blocks : List ℕ) (n i : ℕ) (x : Record)
    → AreIndexed rs tickets blocks n → slice_get rs i ≡ Some x → 0 < blocks_in x.data
some-blocks rs tickets blocks n i x h there = (run-at rs i x h.in_order.runs there).filled.some

-- a run meets a range that begins before it does exactly where the range reaches it
pub meets-later : (first count block : ℕ) (r : Record) → block ≡ r.block → 0 < blocks_in r.data
    → first ≤ block → block - first < count → is_under_way r ≡ meets first count r
meets-later first count block r is some from reach =
    let front : nat_lt first (r.block + blocks_in r.data) ≡ true = grind (arith, nat_tests) in
    let back : nat_lt r.block (first + count) ≡ true = grind (arith, nat_tests) in
    sym (ap (λ (f : Bool). (f && nat_lt r.block (first + count)) && is_under_way r) front
    ∙ ap (λ (k : Bool). (true && k) && is_under_way r) back)

pub meets-not : (first count block : ℕ) (r : Record) → block ≡ r.block → 0 < blocks_in r.data
    → first ≤ block → count ≤ block - first → nat_lt (block - first) count ≡ meets first count r
meets-not first count block r is some from short =
    let front : nat_lt first (r.block + blocks_in r.data) ≡ true = grind (arith, nat_tests) in
    let back : nat_lt r.block (first + count) ≡ false = grind (arith, nat_tests) in
    let none : nat_lt (block - first) count ≡ false = grind (arith, nat_tests) in
    none ∙ sym (ap (λ (f : Bool). (f && nat_lt r.block (first + count)) && is_under_way r) front
    ∙ ap (λ (k : Bool). (true && k) && is_under_way r) back)
