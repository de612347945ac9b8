-- What a leg remembers of its regions, as numbers in places.
use Rattle.std.proofs.Common.{◌≡◌, ⊎_elim, ◌⊎◌, ℕ, zero, suc, ◌+◌, ◌-◌, ◌*◌, ◌/◌, ◌<◌, ◌≤◌, ◌&&◌, ◌||◌, if◌then◌else◌, Bool, true, false, List, length, get_or, map, replicate, refl, ap, sym, ◌∙◌, subst, arith, nat_le, nat_lt, inl, inr}
use Rattle.std.proofs.Math.Nat.{div-mul-le_self}
use Rattle.std.proofs.lemmas.Nat.{le-div, mul-le}
use Rattle.std.proofs.lemmas.Bool.{cases_lt, le-leb, lt-leb, lt-ltb, le-ltb}
use Rattle.std.proofs.lemmas.List.{get_or-map, get_or-replicate, length-replicate}
use Rattle.nm_geometry.specs.Geometry.{regions_for}
use Rattle.nm_file_leg.specs.Remembered.{Remembered, Periods, IsInPeriod, remembered, count_regions, is_written, cursor_in, cursor_lost, cursors_lost, cursor_moved, learnt, touches, Changes, Begins, NotesWrite, NotesSync, LearnsLoss}

-- a region begins inside the stripe
pub begins-inside : (region blocks r : ℕ) → 1 ≤ region → r < regions_for region blocks → r * region < blocks
begins-inside region blocks r some low =
    let regions : ℕ = (blocks + region - 1) / region in
    let whole : regions * region ≤ blocks + region - 1 = div-mul-le_self (blocks + region - 1) region in
    let fits : (r + 1) * region ≤ regions * region = mul-le (r + 1) region regions region (omega (arith, low)) (omega arith) in
    let spread : (r + 1) * region ≡ r * region + region = grind arith in
    omega (arith, whole, fits, spread, some)

-- where it ends fits too
pub ends-inside : (region blocks r : ℕ) → 1 ≤ region → r < regions_for region blocks → (r + 1) * region < blocks + region
ends-inside region blocks r some low =
    let begins : r * region < blocks = begins-inside region blocks r some low in
    let spread : (r + 1) * region ≡ r * region + region = grind arith in
    omega (arith, begins, spread)

-- there are no more regions than blocks
pub region-few : (region blocks r : ℕ) → 1 ≤ region → r < regions_for region blocks → r < blocks
region-few region blocks r some low =
    let begins : r * region < blocks = begins-inside region blocks r some low in
    let wide : r * 1 ≤ r * region = mul-le r 1 r region (omega arith) some in
    omega (arith, begins, wide)

-- the region of a block of the stripe is one of its regions
pub region-inside : (region blocks at : ℕ) → 1 ≤ region → at < blocks → at / region + 1 ≤ regions_for region blocks
region-inside region blocks at some low =
    let whole : at / region * region ≤ at = div-mul-le_self at region in
    let spread : (at / region + 1) * region ≡ at / region * region + region = grind arith in
    le-div (at / region + 1) (blocks + region - 1) region some (omega (arith, whole, spread, low, some))

-- whether a region was written is told by the period of its last write
pub written-in : (covered r : ℕ) (xs : List ℕ) → r < length xs → get_or (map (λ last. nat_lt covered last) xs) r false ≡ nat_lt covered (get_or xs r 0)
written-in covered r xs low = get_or-map (λ last. nat_lt covered last) xs r 0 false low

-- a place lies between two others, or not
pub between : (from last r : ℕ) → (((nat_le from r && nat_le r last) ≡ true) × ((from ≤ r) × (r < last + 1))) ⊎ (((nat_le from r && nat_le r last) ≡ false) × ((r < from) ⊎ (last + 1 ≤ r)))
between from last r =
    ⊎_elim
    (λ (low : r < from). inr (rw (lt-leb from r low) refl, inl low))
    (λ (high : from ≤ r).
    ⊎_elim
    (λ (above : last < r). inr (rw (le-leb from r high, lt-leb r last above) refl, inr (omega (arith, above))))
    (λ (within : r ≤ last). inl (rw (le-leb from r high, le-leb r last within) refl, (high, omega (arith, within))))
    (cases_lt last r))
    (cases_lt r from)

-- a leg as it is made
pub begins : (region blocks regions : ℕ) → regions ≡ regions_for region blocks → Begins region blocks (remembered region blocks (record { running = 1; covered = 0 }) (replicate regions 1) (replicate regions blocks))
begins region blocks regions is = record {
  region_is = refl;
  blocks_is = refl;
  written = λ r low.
      let inside : r < regions = omega (arith, is, low) in
      let ones : List ℕ = replicate regions 1 in
      let long : length ones ≡ regions = length-replicate regions 1 in
      written-in 0 r ones (omega (arith, long, inside)) ∙ ap (λ (n : ℕ). nat_lt 0 n) (get_or-replicate regions r 1 0 inside);
  whole = λ r low. get_or-replicate regions r blocks 0 (omega (arith, is, low));
}

-- a sync that succeeded
pub notes-sync : (region blocks : ℕ) (old new : Periods) (xs ys cursors : List ℕ) → length ys ≡ regions_for region blocks
    → ((r : ℕ) → r < regions_for region blocks → get_or ys r 0 ≤ new.covered)
    → NotesSync (remembered region blocks old xs cursors) (remembered region blocks new ys cursors)
notes-sync region blocks old new xs ys cursors long later = record {
  sizes = record { region = refl; blocks = refl };
  written = λ r low. written-in new.covered r ys (omega (arith, long, low)) ∙ le-ltb new.covered (get_or ys r 0) (later r low);
  again = λ r _. refl;
}

-- whether regions were written once a write of a run is noted
pub noted : (region blocks : ℕ) (periods : Periods) (at count : ℕ) (xs ys cursors moved : List ℕ)
    → periods.covered < periods.running → length xs ≡ regions_for region blocks
    → Changes (λ _. periods.running) (at / region) ((at + count - 1) / region + 1) xs ys
    → (r : ℕ) → r < regions_for region blocks
    → is_written r (remembered region blocks periods ys moved)
    ≡ (touches at count r (remembered region blocks periods xs cursors) || is_written r (remembered region blocks periods xs cursors))
noted region blocks periods at count xs ys cursors moved uncovered long puts r low =
    let from = at / region in
    let last = (at + count - 1) / region in
    let covered = periods.covered in
    let old : get_or (map (λ last. nat_lt covered last) xs) r false ≡ nat_lt covered (get_or xs r 0) = written-in covered r xs (omega (arith, long, low)) in
    let new : get_or (map (λ last. nat_lt covered last) ys) r false ≡ nat_lt covered (get_or ys r 0) = written-in covered r ys (omega (arith, long, puts.length_is, low)) in
    ⊎_elim
    (λ w. new ∙ rw w.0 (lt-ltb covered (get_or ys r 0) (omega (arith, uncovered, puts.changed r w.1.0 w.1.1))))
    (λ w.
    let same : get_or ys r 0 ≡ get_or xs r 0 = ⊎_elim (λ low. puts.before r low) (λ high. puts.behind r high) w.1 in
    new ∙ ap (λ (n : ℕ). nat_lt covered n) same ∙ rw w.0 (sym old))
    (between from last r)

-- a write of a run
pub notes-write : (region blocks : ℕ) (periods : Periods) (at count end : ℕ) (succeeded : Bool) (xs ys cursors moved : List ℕ)
    → periods.covered < periods.running → length xs ≡ regions_for region blocks → end ≡ (if succeeded then at + count else at)
    → Changes (λ _. periods.running) (at / region) ((at + count - 1) / region + 1) xs ys
    → Changes (cursor_moved at end) (at / region) ((at + count - 1) / region + 1) cursors moved
    → NotesWrite succeeded at count (remembered region blocks periods xs cursors) (remembered region blocks periods ys moved)
notes-write region blocks periods at count end succeeded xs ys cursors moved uncovered long is puts moves = record {
  sizes = record { region = refl; blocks = refl };
  written = λ r low. noted region blocks periods at count xs ys cursors moved uncovered long puts r low;
  again = λ r low.
      let from = at / region in
      let last = (at + count - 1) / region in
      ⊎_elim
      (λ w. rw w.0 (moves.changed r w.1.0 w.1.1 ∙ ap (λ (e : ℕ). cursor_moved at e (get_or cursors r 0)) is))
      (λ w. rw w.0 (⊎_elim (λ low. moves.before r low) (λ high. moves.behind r high) w.1))
      (between from last r);
}

-- and it is of the period that runs
pub in-period : (region blocks : ℕ) (periods : Periods) (at count : ℕ) (xs ys cursors moved : List ℕ)
    → Changes (λ _. periods.running) (at / region) ((at + count - 1) / region + 1) xs ys
    → IsInPeriod at count (remembered region blocks periods xs cursors) (remembered region blocks periods ys moved)
in-period region blocks periods at count xs ys cursors moved puts = record {
  running = refl;
  last = λ r low.
      let from = at / region in
      let last = (at + count - 1) / region in
      ⊎_elim
      (λ w. rw w.0 (puts.changed r w.1.0 w.1.1))
      (λ w. rw w.0 (⊎_elim (λ low. puts.before r low) (λ high. puts.behind r high) w.1))
      (between from last r);
}

-- where the cursor of one of so many regions stands once a sync has failed
lost-at : (memory : Remembered) (n region k : ℕ) → k < n → get_or (cursors_lost memory n region) k 0 ≡ cursor_lost (region + k) memory
lost-at memory zero region k low = absurd (let e : ⊥ = omega (arith, low) in e)
lost-at memory (suc n) region zero low = ap (λ (r : ℕ). cursor_lost r memory) (let e : region ≡ region + 0 = omega arith in e)
lost-at memory (suc n) region (suc k) low =
    lost-at memory n (region + 1) k (omega (arith, low)) ∙ ap (λ (r : ℕ). cursor_lost r memory) (let e : region + 1 + k ≡ region + suc k = omega arith in e)

-- a write is noted on what was learnt before it
pub notes-learnt : (lost succeeded : Bool) (at count : ℕ) (old known new : Remembered) → LearnsLoss lost old known → NotesWrite succeeded at count known new
    → NotesWrite succeeded at count (learnt lost old) new
notes-learnt false succeeded at count old known new same notes = subst (λ (m : Remembered). NotesWrite succeeded at count m new) same notes
notes-learnt true succeeded at count old known new lost notes =
    let few : (r : ℕ) → r < count_regions old → r < count_regions known = λ r low.
    let same : count_regions known ≡ count_regions old = ap (λ (n : ℕ). regions_for n known.blocks) lost.sizes.region ∙ ap (λ (n : ℕ). regions_for old.region n) lost.sizes.blocks in
    omega (arith, same, low) in
    let is : (r : ℕ) → r < count_regions old → cursor_in r (learnt true old) ≡ cursor_lost r old = λ r low.
    lost-at old (count_regions old) 0 r low ∙ ap (λ (k : ℕ). cursor_lost k old) (let e : 0 + r ≡ r = omega arith in e) in
    let touched : (r : ℕ) → touches at count r known ≡ touches at count r old = λ r.
    ap (λ (n : ℕ). nat_le (at / n) r && nat_le r ((at + count - 1) / n)) lost.sizes.region in
    record {
      sizes = record { region = notes.sizes.region ∙ lost.sizes.region; blocks = notes.sizes.blocks ∙ lost.sizes.blocks };
      written = λ r low. notes.written r (few r low) ∙ ap (λ (b : Bool). b || is_written r known) (touched r) ∙ ap (λ (b : Bool). touches at count r old || b) (lost.written r low);
      again = λ r low.
          let end : ℕ = if succeeded then at + count else at in
          notes.again r (few r low)
          ∙ ap (λ (b : Bool). if b then cursor_moved at end (cursor_in r known) else cursor_in r known) (touched r)
          ∙ ap (λ (c : ℕ). if touches at count r old then cursor_moved at end c else c) (lost.again r low ∙ sym (is r low));
    }
