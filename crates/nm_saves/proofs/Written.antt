-- A save of a superblock that the file takes.
use Rattle.std.proofs.Common.{◌≡◌, ⊎_elim, ℕ, ◌<◌, ◌≤◌, List, length, Option, None, Some, IsFalse, Bool, true, false, sym, ap, ◌∙◌, subst, refl, arith, nat_lt, Result, Ok, Err, IsErr, is_ok}
use Rattle.std.proofs.lemmas.Bool.Decides.{nat_tests}
use Rattle.nm_superblock.specs.declared.superblock.Superblock.{Superblock}
use Rattle.nm_superblock.specs.Bounds.{IsInBounds, IsSuperblock}
use Rattle.nm_superblock.specs.Layout.{payload_bytes, slot_bytes}
use Rattle.nm_superblock.specs.Slots.{HasStampsBelow, IsTornSave, Place, ReadsPlace, newer_of}
use Rattle.nm_superblock.proofs.Standing.{length-sectors}
use Rattle.nm_superblock.proofs.Torn.{torn-old_or_new}
use Rattle.nm_superblock.proofs.Unique.{length-payload, slot-stamp}
use Rattle.nm_saves.specs.FileState.{FileState, HasStampsUpTo, IsOldOrNew, IsRefused, IsSettled, IsSound, IsUpTo, Saves, SavesFile, newest_in, saves_second, state_of}
use Rattle.nm_saves.specs.SlotFile.{Held, IsDurably, WritesDurably, with_slot}

-- what a file is after a superblock was written into the second slot, or the first
abbrev pub written_in : (second : Bool) → Superblock → Held → FileState → FileState
written_in true s held f = state_of held f.first (Some s) s.generation false f.damaged
written_in false s held f = state_of held (Some s) f.second s.generation false f.damaged

-- and where that failed
abbrev pub failed_in : Superblock → Held → FileState → FileState
failed_in s held f = state_of held f.first f.second s.generation true f.damaged

-- a slot has 4,096 bytes
length-slot : (s : Superblock) → IsSuperblock s → length (slot_bytes s) ≡ 4096
unfolding slot_bytes
length-slot s is = length-sectors s.version s.generation 8 (payload_bytes s) (omega (arith, length-payload s is))

up-to-higher : (a b : ℕ) (r : Option Superblock) → a ≤ b → IsUpTo a r → IsUpTo b r
up-to-higher a b None less is = tt
up-to-higher a b (Some s) less is = omega (arith, less, is)

stamps-higher : (a b : ℕ) (slot : List ℕ) → a ≤ b → HasStampsUpTo a slot → HasStampsUpTo b slot
stamps-higher a b slot less is number below magic =
    let here = is number below magic in
    omega (arith, less, here)

stamps-below : (a b : ℕ) (slot : List ℕ) → a < b → HasStampsUpTo a slot → HasStampsBelow b slot
stamps-below a b slot less is number below magic =
    let here = is number below magic in
    omega (arith, less, here)

own-stamps : (s : Superblock) → IsSuperblock s → HasStampsUpTo s.generation (slot_bytes s)
own-stamps s is number below magic =
    let here = slot-stamp s number is below in
    omega (arith, here)

-- the superblock that was written is the newest one
newest-second : (a b : Option Superblock) (s : Superblock) (h : ℕ) → IsUpTo h a → h < s.generation → newer_of a (Some s) ≡ Some s
newest-second None b s h up less = refl
newest-second (Some x) b s h up less =
    let test : nat_lt x.generation s.generation ≡ true = grind (arith, nat_tests) in
    rw test refl

newest-first : (b : Option Superblock) (s : Superblock) (h : ℕ) → IsUpTo h b → h < s.generation → newer_of (Some s) b ≡ Some s
newest-first None s h up less = refl
newest-first (Some x) s h up less =
    let test : nat_lt s.generation x.generation ≡ false = grind (arith, nat_tests) in
    rw test refl

pub newest-written : (honest second : Bool) (s : Superblock) (held : Held) (f : FileState) → IsSound honest f → f.highest < s.generation
    → newest_in (written_in second s held f) ≡ Some s
newest-written honest true s held f is less = newest-second f.first f.second s f.highest is.first less
newest-written honest false s held f is less = newest-first f.second s f.highest is.second less

-- the slots with the new one
sizes : (second : Bool) (s : Superblock) (old : Place) (a b : Option Superblock) → IsSuperblock s → ReadsPlace old a b
    → (length (with_slot second (slot_bytes s) old).first ≡ 4096) × (length (with_slot second (slot_bytes s) old).second ≡ 4096)
sizes true s old a b is was = (was.first_size, length-slot s is)
sizes false s old a b is was = (length-slot s is, was.second_size)

reads-written : (second : Bool) (s : Superblock) (held : Held) (f : FileState) → IsSuperblock s → ReadsPlace f.held.durable f.first f.second
    → ReadsPlace (with_slot second (slot_bytes s) f.held.durable) (written_in second s held f).first (written_in second s held f).second
reads-written true s held f is was = record {
  first_size = was.first_size;
  second_size = length-slot s is;
  first = was.first;
  second = (is, refl);
}
reads-written false s held f is was = record {
  first_size = length-slot s is;
  second_size = was.second_size;
  first = (is, refl);
  second = was.second;
}

first-stamps : (second : Bool) (s : Superblock) (f : FileState) → IsSuperblock s → IsSettled f → f.highest < s.generation
    → HasStampsUpTo s.generation (with_slot second (slot_bytes s) f.held.durable).first
first-stamps true s f is was less = stamps-higher f.highest s.generation f.held.durable.first (omega (arith, less)) was.first_stamps
first-stamps false s f is was less = own-stamps s is

second-stamps : (second : Bool) (s : Superblock) (f : FileState) → IsSuperblock s → IsSettled f → f.highest < s.generation
    → HasStampsUpTo s.generation (with_slot second (slot_bytes s) f.held.durable).second
second-stamps true s f is was less = own-stamps s is
second-stamps false s f is was less = stamps-higher f.highest s.generation f.held.durable.second (omega (arith, less)) was.second_stamps

held-written : (second : Bool) (s : Superblock) (held : Held) (f : FileState) → (written_in second s held f).held ≡ held
held-written true s held f = refl
held-written false s held f = refl

highest-written : (second : Bool) (s : Superblock) (held : Held) (f : FileState) → (written_in second s held f).highest ≡ s.generation
highest-written true s held f = refl
highest-written false s held f = refl

damage-written : (second : Bool) (s : Superblock) (held : Held) (f : FileState) → (written_in second s held f).damaged ≡ f.damaged
damage-written true s held f = refl
damage-written false s held f = refl

failed-written : (second : Bool) (s : Superblock) (held : Held) (f : FileState) → (written_in second s held f).failed ≡ false
failed-written true s held f = refl
failed-written false s held f = refl

settled-at : (s : Superblock) (place : Place) (g : FileState) → IsDurably place g.held → ReadsPlace place g.first g.second
    → g.highest ≡ s.generation → HasStampsUpTo s.generation place.first → HasStampsUpTo s.generation place.second → IsSettled g
settled-at s place g at reads highest first second =
    let durable = sym at.durable in
    record {
      durable = record { contents = at.contents ∙ durable; durable = refl; kept = at.kept };
      reads = subst (λ (p : Place). ReadsPlace p g.first g.second) durable reads;
      first_stamps = subst (λ (n : ℕ). HasStampsUpTo n g.held.durable.first) (sym highest) (subst (λ (p : Place). HasStampsUpTo s.generation p.first) durable first);
      second_stamps = subst (λ (n : ℕ). HasStampsUpTo n g.held.durable.second) (sym highest) (subst (λ (p : Place). HasStampsUpTo s.generation p.second) durable second);
    }

-- the file is settled again
settled-written : (second : Bool) (s : Superblock) (held : Held) (f : FileState) → IsSuperblock s → IsSettled f → f.highest < s.generation
    → IsDurably (with_slot second (slot_bytes s) f.held.durable) held → IsSettled (written_in second s held f)
settled-written second s held f is was less at =
    settled-at s (with_slot second (slot_bytes s) f.held.durable) (written_in second s held f)
    (subst (λ (h : Held). IsDurably (with_slot second (slot_bytes s) f.held.durable) h) (sym (held-written second s held f)) at)
    (reads-written second s held f is was.reads)
    (highest-written second s held f)
    (first-stamps second s f is was less)
    (second-stamps second s f is was less)

-- what a file is sound by
pub sound-written : (honest second : Bool) (s : Superblock) (held : Held) (f : FileState) → IsSuperblock s → IsSound honest f → IsFalse f.failed
    → f.highest < s.generation → WritesDurably honest true second (slot_bytes s) f.held held
    → IsSound honest (written_in second s held f)
sound-written honest true s held f is was fine less writes = record {
  first = up-to-higher f.highest s.generation f.first (omega (arith, less)) was.first;
  second = omega arith;
  settled = λ honestly _.
      let settled = was.settled honestly fine in
      settled-written true s held f is settled less (writes.written honestly refl f.held.durable settled.durable);
}
sound-written honest false s held f is was fine less writes = record {
  first = omega arith;
  second = up-to-higher f.highest s.generation f.second (omega (arith, less)) was.second;
  settled = λ honestly _.
      let settled = was.settled honestly fine in
      settled-written false s held f is settled less (writes.written honestly refl f.held.durable settled.durable);
}

-- whatever is left of a save is read as before, or as the new one
old-or-new : (s : Superblock) (f : FileState) (left : Place) → IsSuperblock s → IsSettled f → f.highest < s.generation
    → IsTornSave (saves_second f) f.held.durable (slot_bytes s) left → IsOldOrNew (newest_in f) s left
old-or-new s f left is was less torn a b reads =
    torn-old_or_new f.held.durable left s f.first f.second a b is was.reads reads
    (stamps-below f.highest s.generation f.held.durable.first less was.first_stamps)
    (stamps-below f.highest s.generation f.held.durable.second less was.second_stamps)
    torn

-- a save that is done
pub saves-written : (honest : Bool) (s : Superblock) (held : Held) (f : FileState) → IsSuperblock s → IsSound honest f → IsFalse f.failed
    → f.highest < s.generation → WritesDurably honest true (saves_second f) (slot_bytes s) f.held held
    → Saves honest true s f (written_in (saves_second f) s held f)
saves-written honest s held f is was fine less writes =
    let second = saves_second f in
    let same = held-written second s held f in
    record {
      stamp = highest-written second s held f;
      damage = damage-written second s held f;
      newest = λ _. newest-written honest second s held f was less;
      failed = λ _. failed-written second s held f;
      never_again = λ never. absurd (cc);
      settled = λ honestly _. (sound-written honest second s held f is was fine less writes).settled honestly (failed-written second s held f);
      written = λ honestly _.
          let settled = was.settled honestly fine in
          ap (λ (h : Held). h.durable) same ∙ (writes.written honestly refl f.held.durable settled.durable).durable;
      torn = λ honestly.
          let settled = was.settled honestly fine in
          subst (λ (h : Held). IsTornSave second f.held.durable (slot_bytes s) h.durable) (sym same) (writes.durable honestly f.held.durable settled.durable);
      read = λ honestly.
          let settled = was.settled honestly fine in
          subst (λ (h : Held). IsOldOrNew (newest_in f) s h.contents) (sym same)
          (old-or-new s f held.contents is settled less (writes.contents honestly f.held.durable settled.durable));
      left = λ honestly.
          let settled = was.settled honestly fine in
          subst (λ (h : Held). IsOldOrNew (newest_in f) s h.durable) (sym same)
          (old-or-new s f held.durable is settled less (writes.durable honestly f.held.durable settled.durable));
    }

-- and one that failed
pub saves-failed : (honest : Bool) (s : Superblock) (held : Held) (f : FileState) → IsSuperblock s → IsSound honest f → IsFalse f.failed
    → f.highest < s.generation → WritesDurably honest false (saves_second f) (slot_bytes s) f.held held
    → Saves honest false s f (failed_in s held f)
saves-failed honest s held f is was fine less writes =
    record {
      stamp = refl;
      damage = refl;
      newest = λ never. absurd (cc);
      failed = λ never. absurd (cc);
      never_again = λ _. refl;
      settled = λ _ never. absurd (cc);
      written = λ _ never. absurd (cc);
      torn = λ honestly.
          let settled = was.settled honestly fine in
          writes.durable honestly f.held.durable settled.durable;
      read = λ honestly.
          let settled = was.settled honestly fine in
          old-or-new s f held.contents is settled less (writes.contents honestly f.held.durable settled.durable);
      left = λ honestly.
          let settled = was.settled honestly fine in
          old-or-new s f held.durable is settled less (writes.durable honestly f.held.durable settled.durable);
    }

-- a file takes what it has no reason to refuse
pub not-refused : (s : Superblock) (f : FileState) → IsFalse f.failed → f.highest < s.generation → IsInBounds s → IsRefused s f → ⊥
not-refused s f fine more bounds refused =
    ⊎_elim (λ failed. absurd (cc)) (λ rest. ⊎_elim (λ low. absurd (omega (arith, low, more))) (λ out. out bounds) rest) refused

pub saves-file : (honest done : Bool) (s : Superblock) (old new : FileState) → (IsRefused s old → ⊥) → Saves honest done s old new
    → SavesFile honest done s old new
saves-file honest done s old new never saves = record { refused = λ is. absurd (never is); saves = λ _. saves }

-- an error is no success
pub err-not_ok : {T E : Type 0} → (r : Result T E) → IsErr r → is_ok r ≡ false
err-not_ok (Ok x) is = absurd (cc)
err-not_ok (Err e) is = refl
