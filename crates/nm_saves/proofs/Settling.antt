-- What the slots of a file are read as, and that no stamp in them is higher.
use Rattle.std.proofs.Common.{◌≡◌, ◌↔◌, ℕ, ◌≤◌, List, length, Option, None, Some, IsTrue, Bool, false, sym, ap, ◌∙◌, subst, refl, arith, max, IfSome}
use Rattle.nm_superblock.specs.declared.superblock.Superblock.{Superblock}
use Rattle.nm_superblock.specs.Bounds.{IsSuperblock}
use Rattle.nm_superblock.specs.Damage.{IsDamagedPlace}
use Rattle.nm_superblock.specs.Layout.{slot_bytes}
use Rattle.nm_superblock.specs.Sectors.{stamp_of}
use Rattle.nm_superblock.specs.Slots.{IsHighestStamp, Place, ReadsAs, ReadsPlace}
use Rattle.nm_superblock.proofs.Torn.{read-magic}
use Rattle.nm_superblock.proofs.Unique.{slot-stamp}
use Rattle.nm_saves.specs.FileState.{HasStampsUpTo, IsSound, IsUpTo, state_of}
use Rattle.nm_saves.specs.SlotFile.{Held, IsDurably, place_of}

-- a slot is read as it is decoded
pub reads-decoded : (slot : List ℕ) (r : Option Superblock)
    → IfSome r (λ s. IsSuperblock s × (slot ≡ slot_bytes s))
    → ((s : Superblock) → IsSuperblock s → slot ≡ slot_bytes s → r ≡ Some s) → ReadsAs slot r
reads-decoded slot None some back = λ s is at.
    let never = back s is at in
    absurd (cc)
reads-decoded slot (Some s) some back = some

-- the superblock that a slot is read as has no higher generation than its stamps
pub read-up_to : (slot : List ℕ) (r : Option Superblock) (highest : ℕ) → ReadsAs slot r → HasStampsUpTo highest slot → IsUpTo highest r
read-up_to slot None highest reads stamps = tt
read-up_to slot (Some s) highest reads stamps =
    subst (λ (k : ℕ). k ≤ highest) (ap (stamp_of 0) reads.1 ∙ slot-stamp s 0 reads.0 (omega arith)) (stamps 0 (omega arith) (read-magic slot s 0 reads (omega arith)))

-- no stamp is above the higher one of two
pub stamps-first : (slot : List ℕ) (a b c : ℕ) → IsHighestStamp 8 slot a → c ≡ max a b → HasStampsUpTo c slot
stamps-first slot a b c is at number below magic =
    let bound = is.bound number below magic in
    omega (arith, bound, at)

pub stamps-second : (slot : List ℕ) (a b c : ℕ) → IsHighestStamp 8 slot b → c ≡ max a b → HasStampsUpTo c slot
stamps-second slot a b c is at number below magic =
    let bound = is.bound number below magic in
    omega (arith, bound, at)

-- a file that durably holds slots which are read so is sound
pub sound-read : (honest : Bool) (held : Held) (first second : List ℕ) (a b : Option Superblock) (highest : ℕ) (damaged : Bool)
    → (IsTrue honest → IsDurably (place_of first second) held)
    → length first ≡ 4096 → length second ≡ 4096 → ReadsAs first a → ReadsAs second b
    → HasStampsUpTo highest first → HasStampsUpTo highest second
    → IsSound honest (state_of held a b highest false damaged)
sound-read honest held first second a b highest damaged durably first_size second_size reads_a reads_b below_a below_b = record {
  first = read-up_to first a highest reads_a below_a;
  second = read-up_to second b highest reads_b below_b;
  settled = λ is fine.
      let at = durably is in
      let durable = at.durable in
      record {
        durable = record { contents = at.contents ∙ sym durable; durable = refl; kept = at.kept };
        reads = subst (λ (p : Place). ReadsPlace p a b) (sym durable) record { first_size = first_size; second_size = second_size; first = reads_a; second = reads_b };
        first_stamps = subst (λ (p : Place). HasStampsUpTo highest p.first) (sym durable) below_a;
        second_stamps = subst (λ (p : Place). HasStampsUpTo highest p.second) (sym durable) below_b;
      };
}

-- and what was found out of its damage is told of what it durably holds
pub damage-told : (held : Held) (first second : List ℕ) (damaged : Bool) → IsDurably (place_of first second) held
    → IsTrue damaged ↔ IsDamagedPlace (place_of first second) → IsTrue damaged ↔ IsDamagedPlace held.durable
damage-told held first second damaged at told =
    subst (λ (p : Place). IsTrue damaged ↔ IsDamagedPlace p) (sym at.durable) told
