-- A byte that changes behind a header leaves each head, and so one stamp.
use Rattle.std.proofs.Common.{◌≡◌, ◌⊎◌, ⊎_elim, inl, ℕ, ◌+◌, ◌-◌, ◌*◌, ◌<◌, ◌≤◌, List, take, drop, set, sym, ap, ◌∙◌, arith}
use Rattle.std.proofs.lemmas.List.{drop-set-add, drop-set-lt, take-set-le, take-take}
use Rattle.nm_superblock.specs.Damage.{ChangedPieceIsDamaged}
use Rattle.nm_superblock.specs.Layout.{slot_bytes}
use Rattle.nm_superblock.specs.Sectors.{sector_of}
use Rattle.nm_superblock.proofs.Undamaged.{front-head, front-stamp, slot-head}
use Rattle.nm_superblock.proofs.Unique.{slot-stamp}

-- a byte behind a header is in no sector's first 16
same-front : (slot : List ℕ) (number k at byte : ℕ) → 16 ≤ at → at < 512
    → take 16 (sector_of k slot) ≡ take 16 (sector_of k (set slot (512 * number + at) byte))
same-front slot number k at byte behind within =
    let front = take-take 16 512 (drop (512 * k) slot) (omega arith) in
    let back = take-take 16 512 (drop (512 * k) (set slot (512 * number + at) byte)) (omega arith) in
    ⊎_elim
    (λ least.
    let place : 512 * number + at ≡ 512 * k + (512 * (number - k) + at) = omega (arith, least) in
    let moved : drop (512 * k) (set slot (512 * number + at) byte) ≡ set (drop (512 * k) slot) (512 * (number - k) + at) byte =
    ap (λ (n : ℕ). drop (512 * k) (set slot n byte)) place ∙ drop-set-add (512 * k) slot (512 * (number - k) + at) byte in
    front ∙ sym (back ∙ ap (take 16) moved ∙ take-set-le 16 (drop (512 * k) slot) (512 * (number - k) + at) byte (omega (arith, behind))))
    (λ past.
    front ∙ sym (back ∙ ap (take 16) (drop-set-lt (512 * k) slot (512 * number + at) byte (omega (arith, past, within)))))
    (split k number)
  where
    split : (a b : ℕ) → (a ≤ b) ⊎ (b < a)
    split a b = grind arith

pub changed-piece : ChangedPieceIsDamaged
changed-piece s number at byte is below behind within unread = record {
  unread = unread;
  why = inl (λ k room. (
    front-head k (slot_bytes s) changed (front k) (slot-head s k is room),
    sym (front-stamp k (slot_bytes s) changed (front k)) ∙ slot-stamp s k is room ∙ sym (slot-stamp s 0 is (omega arith)) ∙ front-stamp 0 (slot_bytes s) changed (front 0),
  ));
}
  where
    changed : List ℕ
    changed = set (slot_bytes s) (512 * number + at) byte

    front : (k : ℕ) → take 16 (sector_of k (slot_bytes s)) ≡ take 16 (sector_of k changed)
    front k = same-front (slot_bytes s) number k at byte behind within
