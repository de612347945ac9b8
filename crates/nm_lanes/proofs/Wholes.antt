-- The mirror's array follows its stripes' arrays, entry by entry.
use Rattle.std.proofs.Common.{◌≡◌, ◌≢◌, ℕ, zero, suc, ◌+◌, ◌<◌, ◌==◌, true, if◌then◌else◌, List, [], ◌∷◌, map, length, length-set, get_or, replicate, slice_get, slice_set, Some, refl, sym, ap, ◌∙◌, subst, arith, inl, inr, eq-eqb}
use Rattle.std.proofs.lemmas.Bool.{cases_lt}
use Rattle.std.proofs.lemmas.Bool.Decides.{eqb_tells}
use Rattle.std.proofs.lemmas.Option.{same_Some, slice_get_within, slice_get_past, slice_get-get_or}
use Rattle.nm_geometry.specs.Geometry.{Geometry, IsGeometry, stripe_of, block_in_stripe, stripe_blocks}
use Rattle.nm_geometry.proofs.Places.{comes-back, back-and-there, lies-inside, there-and-back}
use Rattle.nm_replay.specs.declared.block.Block.{Block}
use Rattle.nm_replay.specs.declared.entry.Entry.{Entry}
use Rattle.nm_replay.specs.declared.entry.Kind.{Kind}
use Rattle.nm_replay.specs.declared.entry.Kind.TheVariants.{Read, Write, Patch}
use Rattle.nm_replay.specs.Array.{Array, after}
use Rattle.nm_replay.specs.History.{Fits, EntryFits, after_entry, operation, Legal}
use Rattle.nm_replay.proofs.Arrays.{slice_get-set_same, slice_get-set_other, same_by_slice_get}
use Rattle.nm_lanes.specs.Events.{MirrorEntry, entries_in}
use Rattle.nm_lanes.specs.Explained.{MirrorLegal, counted}
use Rattle.nm_lanes.specs.Interleavings.{in_export}
use Rattle.nm_lanes.specs.Moved.{moved_entry}
use Rattle.nm_lanes.specs.Whole.{AreAsLong, IsWhole, HasWhole}

-- a block of zeros
abbrev zero_block : Block
zero_block = record { 0 = replicate 512 0 }

-- a block of a stripe's array lies in the mirror's, and is the block there
pub found-there : (shape : Geometry) (arrays : ℕ → Array) (whole : Array) (s b : ℕ) → IsGeometry shape → s < shape.stripes → IsWhole shape arrays whole → b < length (arrays s) → (in_export shape s b < shape.blocks) × (slice_get whole (in_export shape s b) ≡ slice_get (arrays s) b)
found-there shape arrays whole s b is lt w inside =
    let within : b < stripe_blocks s shape = subst (λ (n : ℕ). b < n) (w.lengths s lt) inside in
    let there = (lies-inside shape s b is lt).0 within in
    let back = back-and-there shape s b is lt in (
      there,
      w.parts (in_export shape s b) there
          ∙ ap (λ (t : ℕ). slice_get (arrays t) (block_in_stripe (in_export shape s b) shape)) back.stripe_back
          ∙ ap (λ (i : ℕ). slice_get (arrays s) i) back.block_back,
    )

-- an entry that fits a stripe's array fits the mirror's, moved
pub whole-fits : (shape : Geometry) (arrays : ℕ → Array) (whole : Array) (s : ℕ) (kind : Kind) (b : ℕ) (v : Block) → IsGeometry shape → s < shape.stripes → IsWhole shape arrays whole → Fits kind b v (arrays s) → Fits kind (in_export shape s b) v whole
whole-fits shape arrays whole s Read b v is lt w fits =
    (found-there shape arrays whole s b is lt w (slice_get_within (arrays s) b v fits)).1 ∙ fits
whole-fits shape arrays whole s (Write t) b v is lt w fits =
    subst (λ (n : ℕ). in_export shape s b < n) (sym w.blocks) (found-there shape arrays whole s b is lt w fits).0
whole-fits shape arrays whole s (Patch t from len) b v is lt w fits =
    (fits.0, (found-there shape arrays whole s b is lt w (slice_get_within (arrays s) b fits.0 fits.1)).1 ∙ fits.1, fits.2)

-- what differs from the stripes' arrays in one stripe alone, by a block that was set there
set-whole : (shape : Geometry) (arrays next : ℕ → Array) (whole : Array) (s b : ℕ) (v : Block) → IsGeometry shape → s < shape.stripes → IsWhole shape arrays whole → b < length (arrays s) → next s ≡ slice_set (arrays s) b v → ((t : ℕ) → s ≢ t → next t ≡ arrays t) → IsWhole shape next (slice_set whole (in_export shape s b) v)
set-whole shape arrays next whole s b v is lt w inside set others =
    let there = found-there shape arrays whole s b is lt w inside in
    let back = back-and-there shape s b is lt in
    let e = in_export shape s b in
    let in-whole : e < length whole = subst (λ (n : ℕ). e < n) (sym w.blocks) there.0 in
    record {
      blocks = length-set whole e v ∙ w.blocks;
      lengths = λ t below. elim (eqb_tells s t) [
        | inl same ↦
            let now : length (next s) ≡ length (arrays s) = ap (λ (xs : Array). length xs) set ∙ length-set (arrays s) b v in
            ap (λ (i : ℕ). length (next i)) (sym same.1) ∙ now ∙ w.lengths s lt ∙ ap (λ (i : ℕ). stripe_blocks i shape) same.1
        | inr other ↦ ap (λ (xs : Array). length xs) (others t other.1) ∙ w.lengths t below
      ];
      parts = λ g below. elim (eqb_tells e g) [
        | inl here ↦
            let at : slice_get (next (stripe_of g shape)) (block_in_stripe g shape) ≡ slice_get (next s) b =
            ap (λ (i : ℕ). slice_get (next (stripe_of i shape)) (block_in_stripe i shape)) (sym here.1)
            ∙ ap (λ (t : ℕ). slice_get (next t) (block_in_stripe e shape)) back.stripe_back
            ∙ ap (λ (i : ℕ). slice_get (next s) i) back.block_back in
            ap (λ (i : ℕ). slice_get (slice_set whole e v) i) (sym here.1)
            ∙ slice_get-set_same whole e v in-whole
            ∙ sym (at ∙ ap (λ (xs : Array). slice_get xs b) set ∙ slice_get-set_same (arrays s) b v inside)
        | inr elsewhere ↦
            slice_get-set_other whole e g v elsewhere.1 ∙ w.parts g below
            ∙ sym (elim (eqb_tells s (stripe_of g shape)) [
              | inl same ↦
                  let apart : b ≢ block_in_stripe g shape = λ one. elsewhere.1 (
                  ap (λ (i : ℕ). in_export shape s i) one
                  ∙ ap (λ (t : ℕ). in_export shape t (block_in_stripe g shape)) same.1
                  ∙ there-and-back shape g is) in
                  ap (λ (t : ℕ). slice_get (next t) (block_in_stripe g shape)) (sym same.1)
                  ∙ ap (λ (xs : Array). slice_get xs (block_in_stripe g shape)) set
                  ∙ slice_get-set_other (arrays s) b (block_in_stripe g shape) v apart
                  ∙ ap (λ (t : ℕ). slice_get (arrays t) (block_in_stripe g shape)) same.1
              | inr other ↦ ap (λ (xs : Array). slice_get xs (block_in_stripe g shape)) (others (stripe_of g shape) other.1)
            ])
      ];
    }

-- what reads alike is put together alike
same-whole : (shape : Geometry) (arrays next : ℕ → Array) (whole : Array) → IsWhole shape arrays whole → ((t : ℕ) → next t ≡ arrays t) → IsWhole shape next whole
same-whole shape arrays next whole w same = record {
  blocks = w.blocks;
  lengths = λ t below. ap (λ (xs : Array). length xs) (same t) ∙ w.lengths t below;
  parts = λ g below. w.parts g below ∙ sym (ap (λ (xs : Array). slice_get xs (block_in_stripe g shape)) (same (stripe_of g shape)));
}

-- what an entry leaves of a stripe's array is put together to what it leaves, moved, of the mirror's
pub whole-after : (shape : Geometry) (arrays next : ℕ → Array) (whole : Array) (s : ℕ) (kind : Kind) (b : ℕ) (v : Block) → IsGeometry shape → s < shape.stripes → IsWhole shape arrays whole → Fits kind b v (arrays s) → next s ≡ after (operation kind b v) (arrays s) → ((t : ℕ) → s ≢ t → next t ≡ arrays t) → IsWhole shape next (after (operation kind (in_export shape s b) v) whole)
whole-after shape arrays next whole s Read b v is lt w fits set others =
    same-whole shape arrays next whole w (λ t. elim (eqb_tells s t) [
      | inl same ↦ ap next (sym same.1) ∙ set ∙ ap arrays same.1
      | inr other ↦ others t other.1
    ])
whole-after shape arrays next whole s (Write t) b v is lt w fits set others =
    set-whole shape arrays next whole s b v is lt w fits set others
whole-after shape arrays next whole s (Patch t from len) b v is lt w fits set others =
    set-whole shape arrays next whole s b v is lt w (slice_get_within (arrays s) b fits.0 fits.1) set others

-- what some entries leave of the mirror's array
abbrev pub after_entries : List MirrorEntry → Array → Array
after_entries [] array = array
after_entries (e ∷ es) array = after_entries es (after_entry e.entry array)

abbrev pub EntriesOfStripes : ℕ → List MirrorEntry → Type 0
EntriesOfStripes n [] = Unit {0}
EntriesOfStripes n (e ∷ es) = (e.stripe < n) × EntriesOfStripes n es

abbrev rest : List Entry → List Entry
rest [] = []
rest (x ∷ xs) = xs

-- an array after the first of some entries
abbrev after_first : List Entry → Array → Array
after_first [] array = array
after_first (x ∷ xs) array = after_entry x array

abbrev pub own_rest : ℕ → (ℕ → List Entry) → ℕ → List Entry
own_rest s own t = if s == t then rest (own t) else own t

abbrev pub arrays_after : ℕ → (ℕ → List Entry) → (ℕ → Array) → ℕ → Array
arrays_after s own arrays t = if s == t then after_first (own t) (arrays t) else arrays t

-- the first entry of a stripe, and what stays of its list
record Opens (s : ℕ) (to : ℕ → ℕ) (e : Entry) (es : List Entry) (own : List Entry) (next : ℕ) (array last : Array) : Type 0 where
  number : e.seq ≡ next
  block : ℕ
  moved_to : e.block ≡ to block
  fits : Fits e.kind block e.bytes array
  after_is : after_first own array ≡ after (operation e.kind block e.bytes) array
  later : es ≡ map (moved_entry to) (rest own)
  legal : Legal (next + 1) (rest own) (after_first own array) last

opens : (s : ℕ) (to : ℕ → ℕ) (e : Entry) (es own : List Entry) (next : ℕ) (array last : Array) → (e ∷ es) ≡ map (moved_entry to) own → Legal next own array last → Opens s to e es own next array last
opens s to e es [] next array last same legal = absurd (let h = same in cc)
opens s to e es (x ∷ xs) next array last same legal =
    let head : e ≡ moved_entry to x = same_Some e (moved_entry to x) (ap (λ (l : List Entry). slice_get l 0) same) in
    let tail : es ≡ map (moved_entry to) xs = ap rest same in
    record {
      number = ap (λ (y : Entry). y.seq) head ∙ legal.0;
      block = x.block;
      moved_to = ap (λ (y : Entry). y.block) head;
      fits = subst (λ (y : Entry). Fits y.kind x.block y.bytes array) (sym head) legal.1;
      after_is = ap (λ (y : Entry). after (operation y.kind x.block y.bytes) array) (sym head);
      later = tail;
      legal = legal.2;
    }

-- entries that are none leave an array as it is
unchanged : (next : ℕ) (own : List Entry) (to : ℕ → ℕ) (array last : Array) → [] ≡ map (moved_entry to) own → Legal next own array last → last ≡ array
unchanged next [] to array last none legal = legal
unchanged next (x ∷ xs) to array last none legal = absurd (let h = none in cc)

-- another stripe's array is as it was
apart : (s t : ℕ) (own : ℕ → List Entry) (arrays : ℕ → Array) → s ≢ t → arrays_after s own arrays t ≡ arrays t
apart s t own arrays other = elim (eqb_tells s t) [
  | inl same ↦ absurd (other same.1)
  | inr miss ↦ rw miss.0 refl
]

-- what reads alike in each of the stripes is put together alike
same-below : (shape : Geometry) (arrays next : ℕ → Array) (whole : Array) → IsGeometry shape → IsWhole shape arrays whole → ((t : ℕ) → t < shape.stripes → next t ≡ arrays t) → IsWhole shape next whole
same-below shape arrays next whole is w same = record {
  blocks = w.blocks;
  lengths = λ t below. ap (λ (xs : Array). length xs) (same t below) ∙ w.lengths t below;
  parts = λ g below. w.parts g below ∙ sym (ap (λ (xs : Array). slice_get xs (block_in_stripe g shape)) (same (stripe_of g shape) (comes-back shape g is below).stripe));
}

-- each stripe's entries are legal on its array, and the mirror's are those, moved
pub record Follows (shape : Geometry) (next : ℕ → ℕ) (own : ℕ → List Entry) (arrays lasts : ℕ → Array) (es : List MirrorEntry) : Type 0 where
  pub moved_are : (t : ℕ) → t < shape.stripes → entries_in t es ≡ map (moved_entry (in_export shape t)) (own t)
  pub legal : (t : ℕ) → t < shape.stripes → Legal (next t) (own t) (arrays t) (lasts t)

-- the first entry, as its stripe has it
head-opens : (shape : Geometry) (next : ℕ → ℕ) (own : ℕ → List Entry) (arrays lasts : ℕ → Array) (e : MirrorEntry) (es : List MirrorEntry) (t : ℕ) → t < shape.stripes → (e.stripe == t) ≡ true → Follows shape next own arrays lasts (e ∷ es) → Opens t (in_export shape t) e.entry (entries_in t es) (own t) (next t) (arrays t) (lasts t)
head-opens shape next own arrays lasts e es t lt same f =
    let mine : entries_in t (e ∷ es) ≡ map (moved_entry (in_export shape t)) (own t) = f.moved_are t lt in
    opens t (in_export shape t) e.entry (entries_in t es) (own t) (next t) (arrays t) (lasts t) (rw same at mine) (f.legal t lt)

goes-on : (shape : Geometry) (next : ℕ → ℕ) (own : ℕ → List Entry) (arrays lasts : ℕ → Array) (e : MirrorEntry) (es : List MirrorEntry) → Follows shape next own arrays lasts (e ∷ es) → Follows shape (counted e.stripe next) (own_rest e.stripe own) (arrays_after e.stripe own arrays) lasts es
goes-on shape next own arrays lasts e es f = record {
  moved_are = λ t lt. elim (eqb_tells e.stripe t) [
    | inl same ↦ rw same.0 ((head-opens shape next own arrays lasts e es t lt same.0 f).later)
    | inr other ↦
        let mine : entries_in t (e ∷ es) ≡ map (moved_entry (in_export shape t)) (own t) = f.moved_are t lt in
        rw other.0 (rw other.0 at mine)
  ];
  legal = λ t lt. elim (eqb_tells e.stripe t) [
    | inl same ↦ rw same.0 ((head-opens shape next own arrays lasts e es t lt same.0 f).legal)
    | inr other ↦ rw other.0 (f.legal t lt)
  ];
}

-- no entries leave each stripe's array as it is
none-changed : (shape : Geometry) (next : ℕ → ℕ) (own : ℕ → List Entry) (arrays lasts : ℕ → Array) → Follows shape next own arrays lasts [] → (t : ℕ) → t < shape.stripes → lasts t ≡ arrays t
none-changed shape next own arrays lasts f t lt = unchanged (next t) (own t) (in_export shape t) (arrays t) (lasts t) (f.moved_are t lt) (f.legal t lt)

-- the mirror's entries are legal on its array, and what they leave is put together from what the
-- stripes' entries leave
pub record Legally (shape : Geometry) (next : ℕ → ℕ) (lasts : ℕ → Array) (es : List MirrorEntry) (whole : Array) : Type 0 where
  pub legal : MirrorLegal next es whole (after_entries es whole)
  pub after_is : IsWhole shape lasts (after_entries es whole)

pub legal-whole : (shape : Geometry) (es : List MirrorEntry) (next : ℕ → ℕ) (own : ℕ → List Entry) (arrays lasts : ℕ → Array) (whole : Array) → IsGeometry shape → EntriesOfStripes shape.stripes es → IsWhole shape arrays whole → Follows shape next own arrays lasts es → Legally shape next lasts es whole
legal-whole shape [] next own arrays lasts whole is of w f = record {
  legal = refl;
  after_is = same-below shape arrays lasts whole is w (none-changed shape next own arrays lasts f);
}
legal-whole shape (e ∷ es) next own arrays lasts whole is of w f =
    let s = e.stripe in
    let to = in_export shape s in
    let here = eq-eqb s s refl in
    let head = head-opens shape next own arrays lasts e es s of.0 here f in
    let fits : EntryFits e.entry whole = subst (λ (b : ℕ). Fits e.entry.kind b e.entry.bytes whole) (sym head.moved_to) (whole-fits shape arrays whole s e.entry.kind head.block e.entry.bytes is of.0 w head.fits) in
    let set : arrays_after s own arrays s ≡ after (operation e.entry.kind head.block e.entry.bytes) (arrays s) = rw here head.after_is in
    let others : (t : ℕ) → s ≢ t → arrays_after s own arrays t ≡ arrays t = λ t other. apart s t own arrays other in
    let now = whole-after shape arrays (arrays_after s own arrays) whole s e.entry.kind head.block e.entry.bytes is of.0 w head.fits set others in
    let after-is : IsWhole shape (arrays_after s own arrays) (after_entry e.entry whole) = subst (λ (b : ℕ). IsWhole shape (arrays_after s own arrays) (after (operation e.entry.kind b e.entry.bytes) whole)) (sym head.moved_to) now in
    let later = legal-whole shape es (counted s next) (own_rest s own) (arrays_after s own arrays) lasts (after_entry e.entry whole) is of.1 after-is (goes-on shape next own arrays lasts e es f) in
    record { legal = (head.number, fits, later.legal); after_is = later.after_is }

pub follow : (shape : Geometry) (next : ℕ → ℕ) (own : ℕ → List Entry) (arrays lasts : ℕ → Array) (es : List MirrorEntry) → ((t : ℕ) → t < shape.stripes → entries_in t es ≡ map (moved_entry (in_export shape t)) (own t)) → ((t : ℕ) → t < shape.stripes → Legal (next t) (own t) (arrays t) (lasts t)) → Follows shape next own arrays lasts es
follow shape next own arrays lasts es a b = record { moved_are = a; legal = b }

-- the blocks of the export from one on, as the stripes' arrays have them
abbrev built : Geometry → (ℕ → Array) → ℕ → ℕ → Array
built shape arrays zero g = []
built shape arrays (suc n) g = get_or (arrays (stripe_of g shape)) (block_in_stripe g shape) zero_block ∷ built shape arrays n (g + 1)

built-length : (shape : Geometry) (arrays : ℕ → Array) (n g : ℕ) → length (built shape arrays n g) ≡ n
built-length shape arrays zero g = refl
built-length shape arrays (suc n) g = ap (λ (k : ℕ). suc k) (built-length shape arrays n (g + 1))

built-at : (shape : Geometry) (arrays : ℕ → Array) (n g k : ℕ) → k < n → slice_get (built shape arrays n g) k ≡ Some (get_or (arrays (stripe_of (g + k) shape)) (block_in_stripe (g + k) shape) zero_block)
built-at shape arrays zero g k lt = absurd (omega (arith, lt))
built-at shape arrays (suc n) g zero lt = ap (λ (i : ℕ). Some (get_or (arrays (stripe_of i shape)) (block_in_stripe i shape) zero_block)) (let e : g ≡ g + 0 = omega arith in e)
built-at shape arrays (suc n) g (suc k) lt =
    built-at shape arrays n (g + 1) k (omega (arith, lt))
    ∙ ap (λ (i : ℕ). Some (get_or (arrays (stripe_of i shape)) (block_in_stripe i shape) zero_block)) (let e : g + 1 + k ≡ g + suc k = omega arith in e)

pub makes-one : (shape : Geometry) (arrays : ℕ → Array) → IsGeometry shape → AreAsLong shape arrays → HasWhole shape arrays
makes-one shape arrays is long = record {
  whole = built shape arrays shape.blocks 0;
  is_whole = record {
    blocks = built-length shape arrays shape.blocks 0;
    lengths = long;
    parts = λ g below.
        let there = comes-back shape g is below in
        let inside : block_in_stripe g shape < length (arrays (stripe_of g shape)) = subst (λ (n : ℕ). block_in_stripe g shape < n) (sym (long (stripe_of g shape) there.stripe)) there.inside in
        built-at shape arrays shape.blocks 0 g below
        ∙ ap (λ (i : ℕ). Some (get_or (arrays (stripe_of i shape)) (block_in_stripe i shape) zero_block)) (let e : 0 + g ≡ g = omega arith in e)
        ∙ sym (slice_get-get_or (arrays (stripe_of g shape)) (block_in_stripe g shape) zero_block inside);
  };
}

pub one-alone : (shape : Geometry) (arrays : ℕ → Array) (one other : Array) → IsWhole shape arrays one → IsWhole shape arrays other → one ≡ other
one-alone shape arrays one other a b = same_by_slice_get one other (λ g. elim (cases_lt g shape.blocks) [
  | inl below ↦ a.parts g below ∙ sym (b.parts g below)
  | inr past ↦ slice_get_past one g (omega (arith, past, a.blocks)) ∙ sym (slice_get_past other g (omega (arith, past, b.blocks)))
])
