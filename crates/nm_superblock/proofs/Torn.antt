-- A slot that is torn is read as nothing, or as it was, or as what was written.
use Rattle.std.proofs.Common.{◌≡◌, ◌≢◌, ◌⊎◌, ⊎_elim, inl, inr, ℕ, zero, suc, ◌+◌, ◌*◌, ◌<◌, ◌≤◌, ◌==◌, ◌++◌, arith, Bool, true, false, List, length, take, drop, Option, None, Some, refl, sym, ap, ◌∙◌, subst, cond, nat_lt}
use Rattle.std.proofs.lemmas.Bool.Decides.{eqb_tells, nat_tests}
use Rattle.std.proofs.Math.Seq.{take-add}
use Rattle.std.proofs.lemmas.List.{drop-drop, drop-take, take_all}
use Rattle.byteorder.specs.Endian.{big_number}
use Rattle.byteorder.specs.Numbers.{big_from-take}
use Rattle.nm_superblock.specs.declared.superblock.Superblock.{Superblock}
use Rattle.nm_superblock.specs.Bounds.{IsSuperblock}
use Rattle.nm_superblock.specs.Layout.{header_bytes, payload_bytes, slot_bytes}
use Rattle.nm_superblock.specs.Sectors.{HasMagic, sector_of, stamp_of}
use Rattle.nm_superblock.specs.Slots.{HasStampsBelow, IsTorn, IsTornSave, Place, ReadsAs, ReadsPlace, TornIsOldOrNew, newer_of, writes_second}
use Rattle.nm_superblock.proofs.Standing.{length-sectors, sector-is}
use Rattle.nm_superblock.proofs.Unique.{length-payload, slot-stamp, slots-are_read}

-- a slot has 4,096 bytes
pub length-slot : (s : Superblock) → IsSuperblock s → length (slot_bytes s) ≡ 4096
unfolding slot_bytes
length-slot s is = length-sectors s.version s.generation 8 (payload_bytes s) (omega (arith, length-payload s is))

-- a sector's stamp stands in it
in-sector : (number : ℕ) (slot : List ℕ) → stamp_of number slot ≡ big_number 8 (drop 8 (sector_of number slot))
in-sector number slot =
    ap (big_number 8) (sym (drop-drop 8 (512 * number) slot))
    ∙ sym (big_from-take 0 8 504 (drop 8 (drop (512 * number) slot)) (omega arith))
    ∙ ap (big_number 8) (sym (drop-take 8 504 (drop (512 * number) slot)))

pub same-stamp : (number : ℕ) (a b : List ℕ) → sector_of number a ≡ sector_of number b → stamp_of number a ≡ stamp_of number b
same-stamp number a b is = in-sector number a ∙ ap (λ (xs : List ℕ). big_number 8 (drop 8 xs)) is ∙ sym (in-sector number b)

-- its first bytes too
pub same-magic : (number : ℕ) (a b : List ℕ) → sector_of number a ≡ sector_of number b → HasMagic number a → HasMagic number b
same-magic number a b is magic = ap (take 4) (sym is) ∙ magic

-- which are those of each sector of a superblock's slot
slot-magic : (s : Superblock) (number : ℕ) → IsSuperblock s → number < 8 → HasMagic number (slot_bytes s)
unfolding slot_bytes header_bytes
slot-magic s number is below =
    ap (take 4) (sector-is s.version s.generation 8 number (payload_bytes s) below (omega (arith, length-payload s is)))

-- slots whose sectors are the same are the same
same-up : (n : ℕ) (a b : List ℕ) → n ≤ 8 → ((number : ℕ) → number < 8 → sector_of number a ≡ sector_of number b) → take (512 * n) a ≡ take (512 * n) b
same-up zero a b room same = refl
same-up (suc n) a b room same =
    let next : 512 * n + 512 ≡ 512 * suc n = omega arith in
    let before = same-up n a b (omega (arith, room)) same in
    let one = same n (omega (arith, room)) in
    ap (λ (k : ℕ). take k a) (sym next)
    ∙ take-add (512 * n) 512 a
    ∙ ap (λ (xs : List ℕ). xs ++ sector_of n a) before
    ∙ ap (λ (xs : List ℕ). take (512 * n) b ++ xs) one
    ∙ sym (take-add (512 * n) 512 b)
    ∙ ap (λ (k : ℕ). take k b) next

pub same-slots : (a b : List ℕ) → length a ≡ 4096 → length b ≡ 4096 → ((number : ℕ) → number < 8 → sector_of number a ≡ sector_of number b) → a ≡ b
same-slots a b size_a size_b same =
    sym (take_all 4096 a (omega (arith, size_a))) ∙ same-up 8 a b (omega arith) same ∙ take_all 4096 b (omega (arith, size_b))

-- one slot is read in one way
one-read : (slot : List ℕ) (a b : Option Superblock) → ReadsAs slot a → ReadsAs slot b → a ≡ b
one-read slot None None ra rb = refl
one-read slot None (Some t) ra rb = absurd (ra t rb.0 rb.1)
one-read slot (Some s) None ra rb = absurd (rb s ra.0 ra.1)
one-read slot (Some s) (Some t) ra rb = ap (λ (x : Superblock). Some x) (slots-are_read s t ra.0 rb.0 (sym ra.1 ∙ rb.1))

-- a superblock that is read has the slot's stamps
read-stamp : (slot : List ℕ) (s : Superblock) (number : ℕ) → ReadsAs slot (Some s) → number < 8 → stamp_of number slot ≡ s.generation
read-stamp slot s number reads below = ap (stamp_of number) reads.1 ∙ slot-stamp s number reads.0 below

pub read-magic : (slot : List ℕ) (s : Superblock) (number : ℕ) → ReadsAs slot (Some s) → number < 8 → HasMagic number slot
read-magic slot s number reads below = subst (λ (xs : List ℕ). HasMagic number xs) (sym reads.1) (slot-magic s number reads.0 below)

-- what a torn slot is read as
torn-slot : (old left : List ℕ) (new : Superblock) (r w : Option Superblock) → IsSuperblock new → length old ≡ 4096 → HasStampsBelow new.generation old
    → IsTorn old (slot_bytes new) left → ReadsAs old r → ReadsAs left w → (w ≡ None) ⊎ ((w ≡ r) ⊎ (w ≡ Some new))
torn-slot old left new r None is size below torn reads reads_left = inl refl
torn-slot old left new r (Some s) is size below torn reads reads_left =
    inr (⊎_elim
    (λ same. inr (ap (λ (x : Superblock). Some x) (slots-are_read s new reads_left.0 is (sym reads_left.1 ∙ all-new same.1))))
    (λ other. inl (one-read left (Some s) r reads_left (subst (λ (xs : List ℕ). ReadsAs xs r) (sym (all-old other)) reads)))
    (split s.generation new.generation))
  where
    split : (a b : ℕ) → (Unit {0} × (a ≡ b)) ⊎ (a ≢ b)
    split a b = ⊎_elim (λ yes. inl (tt, yes.1)) (λ no. inr (λ e. no-way a b no.0 e)) (eqb_tells a b)
      where
        no-way : (x y : ℕ) → (x == y) ≡ false → x ≡ y → ⊥
        no-way x y differ e = grind (arith, nat_tests)

    all-new : s.generation ≡ new.generation → left ≡ slot_bytes new
    all-new same = same-slots left (slot_bytes new) torn.size (length-slot new is) (λ number room.
        ⊎_elim
        (λ was.
        let stamp = sym (same-stamp number left old was) ∙ read-stamp left s number reads_left room ∙ same in
        let low = below number room (same-magic number left old was (read-magic left s number reads_left room)) in
        absurd (omega (arith, stamp, low)))
        (λ now. now)
        (torn.sectors number room))

    all-old : s.generation ≢ new.generation → left ≡ old
    all-old other = same-slots left old torn.size size (λ number room.
        ⊎_elim
        (λ was. was)
        (λ now. absurd (other (sym (read-stamp left s number reads_left room) ∙ same-stamp number left (slot_bytes new) now ∙ slot-stamp new number is room)))
        (torn.sectors number room))

-- the slot with the superblock is not the one that is written: without the other it is the same
keeps-first : (a b : Option Superblock) → writes_second a b ≡ true → newer_of a None ≡ newer_of a b
keeps-first None b is = cc
keeps-first (Some a) None is = refl
keeps-first (Some a) (Some b) is =
    elim (nat_lt a.generation b.generation) as (λ v. cond v false true ≡ true → Some a ≡ cond v (Some b) (Some a)) [
      | true ↦ λ e. cc
      | false ↦ λ e. refl
    ] is

keeps-second : (a b : Option Superblock) → writes_second a b ≡ false → newer_of None b ≡ newer_of a b
keeps-second None b is = refl
keeps-second (Some a) None is = cc
keeps-second (Some a) (Some b) is =
    elim (nat_lt a.generation b.generation) as (λ v. cond v false true ≡ false → Some b ≡ cond v (Some b) (Some a)) [
      | true ↦ λ e. refl
      | false ↦ λ e. cc
    ] is

-- a superblock of a greater generation is the place's, in either slot
newer-second : (a : Option Superblock) (n : Superblock) → ((x : Superblock) → a ≡ Some x → x.generation < n.generation) → newer_of a (Some n) ≡ Some n
newer-second None n lower = refl
newer-second (Some a) n lower =
    let below = lower a refl in
    let test : nat_lt a.generation n.generation ≡ true = grind (arith, nat_tests) in
    rw test refl

newer-first : (n : Superblock) (b : Option Superblock) → ((x : Superblock) → b ≡ Some x → x.generation < n.generation) → newer_of (Some n) b ≡ Some n
newer-first n None lower = refl
newer-first n (Some b) lower =
    let below = lower b refl in
    let test : nat_lt n.generation b.generation ≡ false = grind (arith, nat_tests) in
    rw test refl

-- with what was written in the second slot
second-written : (a b w : Option Superblock) (new : Superblock) → writes_second a b ≡ true → (w ≡ None) ⊎ ((w ≡ b) ⊎ (w ≡ Some new))
    → ((x : Superblock) → a ≡ Some x → x.generation < new.generation) → (newer_of a w ≡ newer_of a b) ⊎ (newer_of a w ≡ Some new)
second-written a b w new is cases lower =
    ⊎_elim
    (λ none. inl (ap (λ (o : Option Superblock). newer_of a o) none ∙ keeps-first a b is))
    (λ some. ⊎_elim
    (λ was. inl (ap (λ (o : Option Superblock). newer_of a o) was))
    (λ now. inr (ap (λ (o : Option Superblock). newer_of a o) now ∙ newer-second a new lower))
    some)
    cases

-- and in the first
first-written : (a b w : Option Superblock) (new : Superblock) → writes_second a b ≡ false → (w ≡ None) ⊎ ((w ≡ a) ⊎ (w ≡ Some new))
    → ((x : Superblock) → b ≡ Some x → x.generation < new.generation) → (newer_of w b ≡ newer_of a b) ⊎ (newer_of w b ≡ Some new)
first-written a b w new is cases lower =
    ⊎_elim
    (λ none. inl (ap (λ (o : Option Superblock). newer_of o b) none ∙ keeps-second a b is))
    (λ some. ⊎_elim
    (λ was. inl (ap (λ (o : Option Superblock). newer_of o b) was))
    (λ now. inr (ap (λ (o : Option Superblock). newer_of o b) now ∙ newer-first new b lower))
    some)
    cases

-- the new generation is greater than that of either slot
lower-than : (slot : List ℕ) (new : Superblock) (r : Option Superblock) → HasStampsBelow new.generation slot → ReadsAs slot r
    → (x : Superblock) → r ≡ Some x → x.generation < new.generation
lower-than slot new r below reads x is =
    let here = subst (λ (o : Option Superblock). ReadsAs slot o) is reads in
    subst (λ (k : ℕ). k < new.generation) (read-stamp slot x 0 here (omega arith)) (below 0 (omega arith) (read-magic slot x 0 here (omega arith)))

-- by which slot was written
by-slot : (v : Bool) (old left : Place) (new : Superblock) (a b c d : Option Superblock)
    → IsSuperblock new → ReadsPlace old a b → ReadsPlace left c d
    → HasStampsBelow new.generation old.first → HasStampsBelow new.generation old.second
    → writes_second a b ≡ v → IsTornSave v old (slot_bytes new) left
    → (newer_of c d ≡ newer_of a b) ⊎ (newer_of c d ≡ Some new)
by-slot true old left new a b c d is was now first second writes save =
    let stays : c ≡ a = one-read left.first c a now.first (subst (λ (xs : List ℕ). ReadsAs xs a) (sym save.0) was.first) in
    subst (λ (o : Option Superblock). (newer_of o d ≡ newer_of a b) ⊎ (newer_of o d ≡ Some new)) (sym stays)
    (second-written a b d new writes (torn-slot old.second left.second new b d is was.second_size second save.1 was.second now.second) (lower-than old.first new a first was.first))
by-slot false old left new a b c d is was now first second writes save =
    let stays : d ≡ b = one-read left.second d b now.second (subst (λ (xs : List ℕ). ReadsAs xs b) (sym save.1) was.second) in
    subst (λ (o : Option Superblock). (newer_of c o ≡ newer_of a b) ⊎ (newer_of c o ≡ Some new)) (sym stays)
    (first-written a b c new writes (torn-slot old.first left.first new a c is was.first_size first save.0 was.first now.first) (lower-than old.second new b second was.second))

pub torn-old_or_new : TornIsOldOrNew
torn-old_or_new old left new a b c d is was now first second save =
    by-slot (writes_second a b) old left new a b c d is was now first second refl save
