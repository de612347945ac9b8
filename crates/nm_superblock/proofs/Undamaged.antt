-- A slot that is torn has sectors of the old slot and of the new one: it is damaged if the old was.
use Rattle.std.proofs.Common.{◌≡◌, ◌⊎◌, ⊎_elim, inl, inr, ℕ, ◌*◌, ◌<◌, ◌≤◌, List, length, take, drop, None, sym, ap, ◌∙◌, subst, arith}
use Rattle.std.proofs.lemmas.List.{drop-drop, drop-take, take-take, take_at}
use Rattle.byteorder.specs.Endian.{big_number}
use Rattle.byteorder.specs.Numbers.{big_from-take}
use Rattle.nm_superblock.specs.declared.superblock.Superblock.{Superblock}
use Rattle.nm_superblock.specs.Bounds.{IsSuperblock}
use Rattle.nm_superblock.specs.Damage.{HasBadSector, HasHead, HasHeadOf, HasOneStamp, IsBad, IsDamaged, TornIsUndamaged}
use Rattle.nm_superblock.specs.Layout.{header_bytes, payload_bytes, piece_bytes, slot_bytes}
use Rattle.nm_superblock.specs.Sectors.{HasMagic, sector_of, stamp_of}
use Rattle.nm_superblock.specs.Slots.{HasStampsBelow, IsTorn, ReadsAs}
use Rattle.nm_superblock.proofs.Standing.{length-header, sector-is}
use Rattle.nm_superblock.proofs.Torn.{length-slot, same-magic, same-slots, same-stamp}
use Rattle.nm_superblock.proofs.Unique.{length-payload, slot-stamp}

-- each sector of a superblock's slot has a valid head
pub slot-head : (s : Superblock) (number : ℕ) → IsSuperblock s → number < 8 → HasHead number (slot_bytes s)
unfolding slot_bytes
slot-head s number is below =
    let stamp = slot-stamp s number is below in
    let bound = is.bounds.generation in
    let sector = sector-is s.version s.generation 8 number (payload_bytes s) below (omega (arith, length-payload s is)) in
    let head : HasHeadOf s.version number (slot_bytes s) =
    ap (take 16) sector
    ∙ take_at (header_bytes s.version s.generation number) (piece_bytes number (payload_bytes s)) 16 (length-header s.version s.generation number)
    ∙ ap (λ (g : ℕ). header_bytes s.version g number) (sym stamp) in
    record {
      stamp = omega (arith, stamp, bound);
      head = ⊎_elim
          (λ one. inl (subst (λ (v : ℕ). HasHeadOf v number (slot_bytes s)) one.0 head))
          (λ later. inr (⊎_elim
          (λ two. inl (subst (λ (v : ℕ). HasHeadOf v number (slot_bytes s)) two head))
          (λ three. inr (subst (λ (v : ℕ). HasHeadOf v number (slot_bytes s)) three head))
          later))
          is.bounds.version;
    }

-- a sector's stamp stands in its first 16 bytes
in-front : (number : ℕ) (slot : List ℕ) → stamp_of number slot ≡ big_number 8 (drop 8 (take 16 (sector_of number slot)))
in-front number slot =
    ap (big_number 8) (sym (drop-drop 8 (512 * number) slot))
    ∙ sym (big_from-take 0 8 8 (drop 8 (drop (512 * number) slot)) (omega arith))
    ∙ ap (big_number 8) (sym (drop-take 8 8 (drop (512 * number) slot)))
    ∙ ap (λ (xs : List ℕ). big_number 8 (drop 8 xs)) (sym (take-take 16 512 (drop (512 * number) slot) (omega arith)))

-- where these are the same, so is the stamp, and the head
pub front-stamp : (number : ℕ) (a b : List ℕ) → take 16 (sector_of number a) ≡ take 16 (sector_of number b) → stamp_of number a ≡ stamp_of number b
front-stamp number a b is =
    in-front number a ∙ ap (λ (xs : List ℕ). big_number 8 (drop 8 xs)) is ∙ sym (in-front number b)

pub front-head : (number : ℕ) (a b : List ℕ) → take 16 (sector_of number a) ≡ take 16 (sector_of number b) → HasHead number a → HasHead number b
front-head number a b is has =
    let stamp = front-stamp number a b is in
    record {
      stamp = subst (λ (g : ℕ). 1 ≤ g) stamp has.stamp;
      head = ⊎_elim
          (λ one. inl (sym is ∙ one ∙ ap (λ (g : ℕ). header_bytes 1 g number) stamp))
          (λ later. inr (⊎_elim
          (λ two. inl (sym is ∙ two ∙ ap (λ (g : ℕ). header_bytes 2 g number) stamp))
          (λ three. inr (sym is ∙ three ∙ ap (λ (g : ℕ). header_bytes 3 g number) stamp))
          later))
          has.head;
    }

-- as where the sectors are the same
same-head : (number : ℕ) (a b : List ℕ) → sector_of number a ≡ sector_of number b → HasHead number a → HasHead number b
same-head number a b is has = front-head number a b (ap (take 16) is) has

same-bad : (number : ℕ) (a b : List ℕ) → sector_of number a ≡ sector_of number b → IsBad number a → IsBad number b
same-bad number a b is bad = record {
  written = λ blank. bad.written (is ∙ blank);
  headless = λ has. bad.headless (same-head number b a (sym is) has);
}

-- a slot with a bad sector is no superblock's
pub bad-unread : (slot : List ℕ) → HasBadSector slot → ReadsAs slot None
bad-unread slot bad s is at =
    bad.2.headless (subst (λ (xs : List ℕ). HasHead bad.0 xs) (sym at) (slot-head s bad.0 is bad.1))

-- a valid head begins as a superblock's
head-magic : (number : ℕ) (slot : List ℕ) → HasHead number slot → HasMagic number slot
unfolding header_bytes
head-magic number slot has =
    sym (take-take 4 16 (sector_of number slot) (omega arith))
    ∙ ⊎_elim
    (λ one. ap (take 4) one)
    (λ later. ⊎_elim (λ two. ap (take 4) two) (λ three. ap (take 4) three) later)
    has.head

-- all sectors are old, or all are new, where they have one stamp
one-stamp : (old left : List ℕ) (new : Superblock) → IsSuperblock new → length old ≡ 4096
    → HasStampsBelow new.generation old → IsTorn old (slot_bytes new) left → HasOneStamp left
    → (left ≡ old) ⊎ (left ≡ slot_bytes new)
one-stamp old left new is size below torn one =
    ⊎_elim
    (λ was. inl (same-slots left old torn.size size (λ number room.
    ⊎_elim
    (λ same. same)
    (λ now.
    let stamp = sym (slot-stamp new number is room) ∙ sym (same-stamp number left (slot_bytes new) now) ∙ (one number room).1 ∙ same-stamp 0 left old was in
    let low = below 0 (omega arith) (same-magic 0 left old was (head-magic 0 left (one 0 (omega arith)).0)) in
    absurd (omega (arith, stamp, low)))
    (torn.sectors number room))))
    (λ now. inr (same-slots left (slot_bytes new) torn.size (length-slot new is) (λ number room.
    ⊎_elim
    (λ same.
    let stamp = sym (same-stamp number left old same) ∙ (one number room).1 ∙ same-stamp 0 left (slot_bytes new) now ∙ slot-stamp new 0 is (omega arith) in
    let low = below number room (same-magic number left old same (head-magic number left (one number room).0)) in
    absurd (omega (arith, stamp, low)))
    (λ other. other)
    (torn.sectors number room))))
    (torn.sectors 0 (omega arith))

pub torn-undamaged : TornIsUndamaged
torn-undamaged old left new is size below torn undamaged damaged =
    ⊎_elim
    (λ one. ⊎_elim
    (λ was. undamaged (subst (λ (xs : List ℕ). IsDamaged xs) was damaged))
    (λ now. damaged.unread new is now)
    (one-stamp old left new is size below torn one))
    (λ bad. ⊎_elim
    (λ was.
    let here : HasBadSector old = (bad.0, bad.1, same-bad bad.0 left old was bad.2) in
    undamaged record { unread = bad-unread old here; why = inr here })
    (λ now. bad.2.headless (same-head bad.0 (slot_bytes new) left (sym now) (slot-head new bad.0 is bad.1)))
    (torn.sectors bad.0 bad.1))
    damaged.why
