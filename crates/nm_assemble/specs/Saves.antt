-- The saves of one stripe's part of a superblock to its legs' places, and when a start is sure that
-- it has found the newest.
use Rattle.std.specs.Prelude.{◌≡◌, ◌⊎◌, ◌<◌, ◌≤◌, ℕ, Bool, true, false, List, [], ◌∷◌}

-- A save: its generation, which legs it calls in sync, which it lists (those and the ones that are
-- about to be), which places surely have it, which may have something of it, and whether it was
-- done.
pub record Save : Type 0 where
  pub generation : ℕ
  pub named : ℕ → Bool
  pub listed : ℕ → Bool
  pub reached : ℕ → Bool
  pub touched : ℕ → Bool
  pub done : Bool

-- the save is one of these
abbrev pub IsOneOf : Save → List Save → Type 0
IsOneOf s [] = ⊥
IsOneOf s (e ∷ saves) = (s ≡ e) ⊎ IsOneOf s saves

-- all of them have a lower generation
abbrev pub AllOlder : ℕ → List Save → Type 0
AllOlder generation [] = Unit {0}
AllOlder generation (e ∷ saves) = (e.generation < generation) × AllOlder generation saves

-- this, unless that holds
abbrev pub Unless : Bool → Type 0 → Type 0
Unless true goal = Unit {0}
Unless false goal = goal

-- the legs are listed by each save that may be the durable one, the newest first: those since the
-- last one that was done, and that one
abbrev pub SurelyListed : (ℕ → Bool) → List Save → Type 0
SurelyListed legs [] = Unit {0}
SurelyListed legs (e ∷ saves) =
    ((leg : ℕ) → legs leg ≡ true → e.listed leg ≡ true)
    × Unless e.done (SurelyListed legs saves)

-- a save after these: newer than all, it names a leg, each leg that it names was surely listed, and
-- it is done only if the place of each leg that it names has it, before which no other place is
-- touched
pub record MaySave (e : Save) (saves : List Save) : Type 0 where
  pub newer : AllOlder e.generation saves
  pub some : (leg : ℕ) × (e.named leg ≡ true)
  pub listed : SurelyListed e.named saves
  pub everywhere : e.done ≡ true → (leg : ℕ) → e.named leg ≡ true → e.reached leg ≡ true
  pub first : e.done ≡ false → (leg : ℕ) → e.touched leg ≡ true → e.named leg ≡ true

-- the saves so far, the newest first
abbrev pub AreSaves : List Save → Type 0
AreSaves [] = Unit {0}
AreSaves (e ∷ saves) = MaySave e saves × AreSaves saves

-- what is read at a leg's place is no older than each save that surely reached it
abbrev pub ReadsAt : ℕ → ℕ → List Save → Type 0
ReadsAt leg generation [] = Unit {0}
ReadsAt leg generation (e ∷ saves) =
    (e.reached leg ≡ true → e.generation ≤ generation) × ReadsAt leg generation saves

-- A start is sure: the place of each leg that the superblock lists was read, and none had a newer
-- one.
pub record IsSure (found : Save) (saves : List Save) : Type 0 where
  pub saved : IsOneOf found saves
  pub read : (leg : ℕ) → found.listed leg ≡ true
      → (generation : ℕ) × (generation ≤ found.generation) × ReadsAt leg generation saves

-- then no save that was done is newer
abbrev pub SureIsNewest : Type 0
SureIsNewest =
    (saves : List Save) (found e : Save) → AreSaves saves → IsSure found saves
    → IsOneOf e saves → e.done ≡ true → e.generation ≤ found.generation

-- And whatever stands at a place of a save that is newer, and was not done, was read: so a
-- generation above all that was read is new.
abbrev pub SureSeesAll : Type 0
SureSeesAll =
    (saves : List Save) (found e : Save) → AreSaves saves → IsSure found saves
    → IsOneOf e saves → found.generation < e.generation
    → (e.done ≡ false) × ((leg : ℕ) → e.touched leg ≡ true → found.listed leg ≡ true)
