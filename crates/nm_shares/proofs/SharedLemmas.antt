-- Bytes of a shared array: what was kept is what the next good sync makes durable.
use Rattle.std.proofs.Common.{◌≡◌, ⊎_elim, ℕ, ◌+◌, ◌-◌, ◌*◌, ◌/◌, ◌<◌, ◌≤◌, ◌⊎◌, true, not, IsTrue, IsFalse, List, length, get_or, take, drop, refl, ap, sym, ◌∙◌, arith, inl, inr, min, ◌==◌, Result, Ok, Err}
use Rattle.std.proofs.lemmas.Bool.{cases_eq, cases_lt, eq-eqb, true≢false}
use Rattle.std.proofs.lemmas.Bool.Decides.{eqb_tells}
use Rattle.std.proofs.lemmas.List.{ext_get_or, get_or-drop, get_or-take, get_or_past, length-drop, length-take, take_all}
use Rattle.nm_geometry.specs.Geometry.{Geometry, IsGeometry, export_block, stripe_of}
use Rattle.nm_geometry.proofs.Places.{back-and-there}
use Rattle.nm_file_leg.specs.Medium.{Apart, window, WritesMedium, SyncsMedium}
use Rattle.nm_file_leg.specs.Media.{steady}
use Rattle.nm_file_leg.specs.FileLeg.{OwnsBlocks}
use Rattle.nm_shares.specs.SharedMedium.{Bytes, IsArray, share_of}

-- the bytes of equal windows are equal
same-byte : (from n i : ℕ) (xs ys : List ℕ) → window from n xs ≡ window from n ys → from ≤ i → i < from + n → get_or xs i 0 ≡ get_or ys i 0
unfolding window
same-byte from n i xs ys same above below =
    let j : ℕ = i - from in
    let e : from + j ≡ i = omega (arith, above) in
    let low : j < n = omega (arith, above, below) in
    ap (λ (k : ℕ). get_or xs k 0) (sym e) ∙ sym (get_or-drop from xs j 0) ∙ sym (get_or-take n (drop from xs) j 0 low)
    ∙ ap (λ (l : List ℕ). get_or l j 0) same
    ∙ get_or-take n (drop from ys) j 0 low ∙ get_or-drop from ys j 0 ∙ ap (λ (k : ℕ). get_or ys k 0) e

-- windows of equal bytes are equal
same-window : (from n : ℕ) (xs ys : List ℕ) → length xs ≡ length ys → ((i : ℕ) → from ≤ i → i < from + n → get_or xs i 0 ≡ get_or ys i 0) → window from n xs ≡ window from n ys
unfolding window
same-window from n xs ys long same =
    ext_get_or 0 (take n (drop from xs)) (take n (drop from ys))
    (omega (arith, long, length-take n (drop from xs), length-take n (drop from ys), length-drop from xs, length-drop from ys))
    (λ j below.
    let low : j < n = omega (arith, below, length-take n (drop from xs)) in
    get_or-take n (drop from xs) j 0 low ∙ get_or-drop from xs j 0 ∙ same (from + j) (omega arith) (omega (arith, low))
    ∙ sym (get_or-take n (drop from ys) j 0 low ∙ get_or-drop from ys j 0))

-- a byte is kept where what is pending is what reads find
is-kept : (a b : ℕ) → a ≡ b → IsFalse (not (a == b))
is-kept a b same = ap not (eq-eqb a b same)

kept-is : (a b : ℕ) → IsFalse (not (a == b)) → a ≡ b
kept-is a b kept = ⊎_elim (λ same. same.1) (λ other. absurd (true≢false (sym (ap not other.0) ∙ kept))) (eqb_tells a b)

-- bytes that were written over all of others
over-all : (m : ℕ) (part old new : List ℕ) → m ≡ length part → length part ≡ length old → length new ≡ length old → window 0 m new ≡ take m part → new ≡ part
unfolding window
over-all m part old new whole long same is =
    sym (take_all m new (omega (arith, whole, long, same))) ∙ is ∙ take_all m part (omega (arith, whole))

-- and so is a medium that all of them were written to
pub copied : {E : Type 0} (result : Result ℕ E) (part old new : List ℕ) → length part ≡ length old → length new ≡ length old → result ≡ Ok (min (length part) (length old - 0)) → WritesMedium true result 0 part (steady old) (steady new) → new ≡ part
copied result part old new long same done writes =
    let m : ℕ = min (length part) (length old - 0) in
    let whole : m ≡ length part = omega (arith, long) in
    let all : window 0 m new ≡ take m part = (rw done at (writes.written refl (λ j _ _. refl))) in
    over-all m part old new whole long same all

-- one write to both: what reads find, and what is pending
module _ {E : Type 0} (at n : ℕ) (part : List ℕ) (old : Bytes) (contents pending : List ℕ) (is : IsArray old) (many : n ≡ min (length part) (length old.contents - at))
    (contents_long : length contents ≡ length old.contents) (pending_long : length pending ≡ length old.pending)
    (one : WritesMedium {E = E} true (Ok n) at part (steady old.contents) (steady contents)) (two : WritesMedium {E = E} true (Ok n) at part (steady old.pending) (steady pending)) where
  abbrev new : Bytes
  new = record { contents = contents; pending = pending; durable = old.durable }

  -- each byte is written in both, or in none
  each-byte : (i : ℕ) → ((get_or contents i 0 ≡ get_or old.contents i 0) × (get_or pending i 0 ≡ get_or old.pending i 0)) ⊎ (get_or pending i 0 ≡ get_or contents i 0)
  each-byte i =
      ⊎_elim
      (λ (before : i < at). inl (left (inl (omega (arith, before)))))
      (λ (above : at ≤ i).
      ⊎_elim
      (λ (inside : i < at + n). inr (same-byte at n i pending contents (two.written refl (λ j _ _. refl) ∙ sym (one.written refl (λ j _ _. refl))) above inside))
      (λ (past : at + n ≤ i).
      ⊎_elim
      (λ (short : i < at + length part).
      let ends : length old.contents ≤ i = omega (arith, past, short, many, above) in
      inl (
        get_or_past contents i 0 (omega (arith, ends, contents_long)) ∙ sym (get_or_past old.contents i 0 ends),
        get_or_past pending i 0 (omega (arith, ends, pending_long, is.pending_length)) ∙ sym (get_or_past old.pending i 0 (omega (arith, ends, is.pending_length))),
      ))
      (λ behind. inl (left (inr behind)))
      (cases_lt i (at + length part)))
      (cases_lt i (at + n)))
      (cases_lt i at)
    where
      left : Apart at (length part) i 1 → (get_or contents i 0 ≡ get_or old.contents i 0) × (get_or pending i 0 ≡ get_or old.pending i 0)
      left apart = (
        same-byte i 1 i contents old.contents (one.others refl i 1 apart) (omega arith) (omega arith),
        same-byte i 1 i pending old.pending (two.others refl i 1 apart) (omega arith) (omega arith),
      )

  pub array-written : IsArray new
  array-written = record {
    pending_length = pending_long ∙ is.pending_length ∙ sym contents_long;
    durable_length = is.durable_length ∙ sym contents_long;
    each = λ i differs.
        ⊎_elim
        (λ as_before. as_before.1 ∙ is.each i (λ same. differs (as_before.1 ∙ same ∙ sym as_before.0)))
        (λ written. absurd (differs written))
        (each-byte i);
  }

  pub writes-share : (result : Result ℕ E) (stripe : ℕ) (shape : Geometry) → result ≡ Ok n → WritesMedium true result at part (share_of stripe shape old) (share_of stripe shape new)
  writes-share result stripe shape done = rw done (record {
    own = λ _. refl;
    written = λ _ _. one.written refl (λ j _ _. refl);
    kept = λ _ i above below. is-kept (get_or pending i 0) (get_or contents i 0) (same-byte at n i pending contents (two.written refl (λ j _ _. refl) ∙ sym (one.written refl (λ j _ _. refl))) above below);
    others = λ _ from span apart. one.others refl from span apart;
    durable_others = λ _ from span apart. refl;
    kept_others = λ _ from span kept i above below.
        is-kept (get_or pending i 0) (get_or contents i 0)
        (⊎_elim (λ as_before. as_before.1 ∙ kept-is (get_or old.pending i 0) (get_or old.contents i 0) (kept i above below) ∙ sym as_before.0) (λ written. written) (each-byte i));
  })

-- a sync that succeeds: what is pending is durable
pub array-synced : (old : Bytes) → IsArray old → IsArray (record { contents = old.contents; pending = old.pending; durable = old.pending })
array-synced old is = record { pending_length = is.pending_length; durable_length = is.pending_length; each = λ i _. refl }

pub syncs-share : {E : Type 0} (stripe : ℕ) (shape : Geometry) (old : Bytes) → IsArray old
    → SyncsMedium {E = E} true (Ok tt) (share_of stripe shape old) (share_of stripe shape (record { contents = old.contents; pending = old.pending; durable = old.pending }))
syncs-share stripe shape old is = record {
  own = λ _. refl;
  durable = λ _ from many kept. same-window from many old.pending old.contents is.pending_length (λ i above below. kept-is (get_or old.pending i 0) (get_or old.contents i 0) (kept i above below));
  kept = λ _ from many kept. kept;
  kept_durable = λ _ from many kept _. kept;
  contents = λ _. refl;
  durable_kept = λ _ from many same. same-window from many old.pending old.durable (is.pending_length ∙ sym is.durable_length) (λ i above below.
      ⊎_elim (λ found. found ∙ sym (same-byte from many i old.durable old.contents same above below)) (λ other. is.each i other)
      (cases_eq (get_or old.pending i 0) (get_or old.contents i 0)));
}

-- a sync that fails: what was pending is lost
pub array-lost : (old : Bytes) → IsArray old → IsArray (record { contents = old.contents; pending = old.durable; durable = old.durable })
array-lost old is = record { pending_length = is.durable_length; durable_length = is.durable_length; each = λ i _. refl }

pub fails-share : {E : Type 0} (stripe : ℕ) (shape : Geometry) (old : Bytes) (fault : E)
    → SyncsMedium {E = E} true (Err fault) (share_of stripe shape old) (share_of stripe shape (record { contents = old.contents; pending = old.durable; durable = old.durable }))
fails-share stripe shape old fault = record {
  own = λ _. refl;
  durable = λ _. tt;
  kept = λ _. tt;
  kept_durable = λ _ from many _ same i above below. is-kept (get_or old.durable i 0) (get_or old.contents i 0) (same-byte from many i old.durable old.contents same above below);
  contents = λ _. refl;
  durable_kept = λ _ from many _. refl;
}

-- the user of a stripe owns each of its blocks
pub owns-share : (stripe : ℕ) (shape : Geometry) (bytes : Bytes) → IsGeometry shape → stripe < shape.stripes → OwnsBlocks (share_of stripe shape bytes) stripe shape
owns-share stripe shape bytes bounds own block _ at above below =
    let e : ℕ = export_block stripe block shape in
    let whole : at / 512 ≡ e = one-block e at above below in
    is-same (stripe_of (at / 512) shape) stripe (ap (λ (k : ℕ). stripe_of k shape) whole ∙ (back-and-there shape stripe block bounds own).stripe_back)
  where
    one-block : (e at : ℕ) → 512 * e ≤ at → at < 512 * e + 512 → at / 512 ≡ e
    one-block e at above below = omega (arith, above, below)

    is-same : (a b : ℕ) → a ≡ b → IsTrue (a == b)
    is-same a b same = eq-eqb a b same
