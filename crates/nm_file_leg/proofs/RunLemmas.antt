-- A run of blocks by one call of the medium for each region: each call is a run of its own, and two
-- runs one after the other are one.
use Rattle.std.proofs.Common.{◌≡◌, ⊎_elim, ℕ, ◌+◌, ◌-◌, ◌*◌, ◌/◌, ◌<◌, ◌≤◌, Bool, true, false, IsTrue, List, [], ◌++◌, length, length-append, take, drop, refl, ap, sym, ◌∙◌, subst, arith, inl, inr, Result, Ok}
use Rattle.std.proofs.lemmas.Bool.{cases_lt}
use Rattle.std.proofs.lemmas.List.{take_all, take-append-le, drop-append-le, drop-drop, drop_at, length-drop}
use Rattle.nm_leg.specs.Leg.{blocks_in}
use Rattle.nm_geometry.specs.Geometry.{Geometry, IsGeometry}
use Rattle.nm_file_leg.specs.Medium.{Held, Owns, Kept, Apart, window, ReadsMedium, WritesMedium}
use Rattle.nm_file_leg.specs.Blocks.{first_byte}
use Rattle.nm_file_leg.specs.Runs.{run_places, bytes_of, OwnsRun, KeepsRun, IsApart, ReadsRun, WritesRun}
use Rattle.nm_file_leg.proofs.WindowLemmas.{window-inside}
use Rattle.nm_file_leg.proofs.PlaceLemmas.{blocks-apart}

-- blocks that follow one another from `first` on
abbrev pub Follow : (places : ℕ → ℕ) → (first count : ℕ) → Type 0
Follow places first count = (i : ℕ) → i < count → places i ≡ first + 512 * i

module _ (places : ℕ → ℕ) (first n : ℕ) (follow : Follow places first n) where
  -- their bytes are the user's own if each block is
  owns-all : (held : Held) → OwnsRun held places n → Owns held first (512 * n)
  owns-all held owns at above below =
      let i : ℕ = (at - first) / 512 in
      let low : i < n = omega (arith, above, below) in
      let place : places i ≡ first + 512 * i = follow i low in
      owns i low at (omega (arith, place, above)) (omega (arith, place, above))

  -- their bytes are kept if each block is
  pub keeps-all : (held : Held) → KeepsRun held places n → Kept held first (512 * n)
  keeps-all held keeps at above below =
      let i : ℕ = (at - first) / 512 in
      let low : i < n = omega (arith, above, below) in
      let place : places i ≡ first + 512 * i = follow i low in
      keeps i low at (omega (arith, place, above)) (omega (arith, place, above))

  -- a block of them, where all their bytes are known
  one-of : (i : ℕ) (bytes held : List ℕ) → i < n → window first (512 * n) held ≡ bytes → window (places i) 512 held ≡ bytes_of i bytes
  one-of i bytes held low is =
      ap (λ (k : ℕ). window k 512 held) (follow i low)
      ∙ sym (window-inside first (512 * n) (512 * i) 512 held (omega (arith, low)))
      ∙ ap (λ (ys : List ℕ). window (512 * i) 512 ys) is

  -- what is apart from each block is apart from all their bytes
  apart-all : (from many : ℕ) → 0 < n → 0 < many → IsApart places n from many → Apart first (512 * n) from many
  apart-all from many some more apart =
      ⊎_elim
      (λ (before : from < first + 512 * n).
      ⊎_elim
      (λ (meets : first < from + many).
      let i : ℕ = (from - first) / 512 in
      let low : i < n = omega (arith, before, some) in
      let place : places i ≡ first + 512 * i = follow i low in
      ⊎_elim (λ below. absurd (let e : ⊥ = omega (arith, below, place, meets, more) in e)) (λ above. absurd (let e : ⊥ = omega (arith, above, place) in e)) (apart i low))
      (λ ends. inl ends)
      (cases_lt first (from + many)))
      (λ past. inr past)
      (cases_lt from (first + 512 * n))

-- a call that read all it was asked for
pub reads-stretch : {E : Type 0} (honest : Bool) (places : ℕ → ℕ) (first : ℕ) (result : Result ℕ E) (old new : Held) (filled : List ℕ)
    → length filled ≡ 512 * blocks_in filled → Follow places first (blocks_in filled) → result ≡ Ok (length filled) → ReadsMedium honest result first old new filled
    → ReadsRun honest true places old new filled
reads-stretch honest places first result old new filled whole follow done reads = record {
  found = λ is_honest _ owns number below.
      let all : Owns old first (length filled) = subst (λ (m : ℕ). Owns old first m) (sym whole) (owns-all places first (blocks_in filled) follow old owns) in
      let read : Owns old first (length filled) → take (length filled) filled ≡ window first (length filled) old.contents = rw done at (reads.found is_honest) in
      let is : window first (512 * blocks_in filled) old.contents ≡ filled =
      ap (λ (m : ℕ). window first m old.contents) (sym whole) ∙ sym (read all) ∙ take_all (length filled) filled (omega arith) in
      one-of places first (blocks_in filled) follow number filled old.contents below is;
  same = reads.same;
}

-- a call that wrote all it was given
pub writes-stretch : {E : Type 0} (honest : Bool) (places : ℕ → ℕ) (first : ℕ) (result : Result ℕ E) (bytes : List ℕ) (old new : Held)
    → 0 < blocks_in bytes → length bytes ≡ 512 * blocks_in bytes → Follow places first (blocks_in bytes) → result ≡ Ok (length bytes) → WritesMedium honest result first bytes old new
    → WritesRun honest true places bytes old new
writes-stretch honest places first result bytes old new some whole follow done writes =
    let n = blocks_in bytes in
    let clear : (from many : ℕ) → 0 < many → IsApart places n from many → Apart first (length bytes) from many =
    λ from many more apart. subst (λ (m : ℕ). Apart first m from many) (sym whole) (apart-all places first n follow from many some more apart) in
    record {
      own = writes.own;
      written = λ is_honest _ owns number below.
          let all : Owns old first (length bytes) = subst (λ (m : ℕ). Owns old first m) (sym whole) (owns-all places first n follow old owns) in
          let wrote : window first (length bytes) new.contents ≡ take (length bytes) bytes = rw done at (writes.written is_honest all) in
          let is : window first (512 * n) new.contents ≡ bytes = ap (λ (m : ℕ). window first m new.contents) (sym whole) ∙ wrote ∙ take_all (length bytes) bytes (omega arith) in
          one-of places first n follow number bytes new.contents below is;
      kept = λ is_honest _ number below at above short.
          let all : Kept new first (length bytes) = rw done at (writes.kept is_honest) in
          let place : places number ≡ first + 512 * number = follow number below in
          all at (omega (arith, above, place)) (omega (arith, short, place, below, whole));
      others = λ is_honest from many more apart. writes.others is_honest from many (clear from many more apart);
      durable_others = λ is_honest from many more apart. writes.durable_others is_honest from many (clear from many more apart);
      kept_others = writes.kept_others;
    }

-- a call that did not write all it was given
pub writes-torn : {E : Type 0} (honest : Bool) (places : ℕ → ℕ) (first : ℕ) (result : Result ℕ E) (bytes : List ℕ) (old new : Held)
    → 0 < blocks_in bytes → length bytes ≡ 512 * blocks_in bytes → Follow places first (blocks_in bytes) → WritesMedium honest result first bytes old new
    → WritesRun honest false places bytes old new
writes-torn honest places first result bytes old new some whole follow writes =
    let n = blocks_in bytes in
    let clear : (from many : ℕ) → 0 < many → IsApart places n from many → Apart first (length bytes) from many =
    λ from many more apart. subst (λ (m : ℕ). Apart first m from many) (sym whole) (apart-all places first n follow from many some more apart) in
    record {
      own = writes.own;
      written = λ _ q. absurd (let e : ⊥ = cc in e);
      kept = λ _ q. absurd (let e : ⊥ = cc in e);
      others = λ is_honest from many more apart. writes.others is_honest from many (clear from many more apart);
      durable_others = λ is_honest from many more apart. writes.durable_others is_honest from many (clear from many more apart);
      kept_others = writes.kept_others;
    }

-- a write that failed in the first blocks of a run failed in the run
pub writes-longer : (honest : Bool) (places : ℕ → ℕ) (part bytes : List ℕ) (old new : Held) → blocks_in part ≤ blocks_in bytes → WritesRun honest false places part old new → WritesRun honest false places bytes old new
writes-longer honest places part bytes old new most writes = record {
  own = writes.own;
  written = λ _ q. absurd (let e : ⊥ = cc in e);
  kept = λ _ q. absurd (let e : ⊥ = cc in e);
  others = λ is_honest from many more apart. writes.others is_honest from many more (λ i low. apart i (omega (arith, low, most)));
  durable_others = λ is_honest from many more apart. writes.durable_others is_honest from many more (λ i low. apart i (omega (arith, low, most)));
  kept_others = writes.kept_others;
}

-- the blocks of two runs one after the other
module _ (front back : List ℕ) (whole : length front ≡ 512 * blocks_in front) (rest : length back ≡ 512 * blocks_in back) where
  pub both : blocks_in (front ++ back) ≡ blocks_in front + blocks_in back
  both = omega (arith, whole, rest, length-append front back)

  pub of-front : (number : ℕ) → number < blocks_in front → bytes_of number (front ++ back) ≡ bytes_of number front
  unfolding window
  of-front number low =
      let inside : 512 * number ≤ length front = omega (arith, low, whole) in
      let long : 512 ≤ length (drop (512 * number) front) = omega (arith, low, whole, length-drop (512 * number) front) in
      ap (λ (ys : List ℕ). take 512 ys) (drop-append-le (512 * number) front back inside) ∙ take-append-le 512 (drop (512 * number) front) back long

  pub of-back : (number : ℕ) → bytes_of (blocks_in front + number) (front ++ back) ≡ bytes_of number back
  unfolding window
  of-back number =
      let e : length front + 512 * number ≡ 512 * (blocks_in front + number) = omega (arith, whole) in
      ap (λ (ys : List ℕ). take 512 ys)
      (sym (ap (λ (k : ℕ). drop k (front ++ back)) e) ∙ sym (drop-drop (512 * number) (length front) (front ++ back))
      ∙ ap (λ (ys : List ℕ). drop (512 * number) ys) (drop_at front back (length front) refl))

  -- the places of the second
  pub next-place : (s : ℕ) (p : Geometry) (at number : ℕ) → run_places s p (at + blocks_in front) number ≡ run_places s p at (blocks_in front + number)
  next-place s p at number = ap (λ (k : ℕ). first_byte s p k) (let e : at + blocks_in front + number ≡ at + (blocks_in front + number) = omega arith in e)

  pub reads-join : (honest succeeded : Bool) (s : ℕ) (p : Geometry) (at : ℕ) (old mid new : Held)
      → ReadsRun honest true (run_places s p at) old mid front → ReadsRun honest succeeded (run_places s p (at + blocks_in front)) mid new back
      → ReadsRun honest succeeded (run_places s p at) old new (front ++ back)
  reads-join honest succeeded s p at old mid new a b = record {
    found = λ is_honest done owns number below.
        ⊎_elim
        (λ low. a.found is_honest refl (λ i l. owns i (omega (arith, l, both))) number low ∙ sym (of-front number low))
        (λ high.
        let i : ℕ = number - blocks_in front in
        let is : blocks_in front + i ≡ number = omega (arith, high) in
        let own : OwnsRun mid (run_places s p (at + blocks_in front)) (blocks_in back) =
        subst (λ (h : Held). OwnsRun h (run_places s p (at + blocks_in front)) (blocks_in back)) (sym (a.same is_honest))
        (λ j l. subst (λ (k : ℕ). Owns old k 512) (sym (next-place s p at j)) (owns (blocks_in front + j) (omega (arith, l, both)))) in
        let here : window (run_places s p (at + blocks_in front) i) 512 mid.contents ≡ bytes_of i back = b.found is_honest done own i (omega (arith, below, both, high)) in
        ap (λ (k : ℕ). window (run_places s p at k) 512 old.contents) (sym is)
        ∙ ap (λ (k : ℕ). window k 512 old.contents) (sym (next-place s p at i))
        ∙ ap (λ (h : Held). window (run_places s p (at + blocks_in front) i) 512 h.contents) (sym (a.same is_honest))
        ∙ here ∙ sym (of-back i) ∙ ap (λ (k : ℕ). bytes_of k (front ++ back)) is)
        (cases_lt number (blocks_in front));
    same = λ is_honest. b.same is_honest ∙ a.same is_honest;
  }

  pub writes-join : (honest succeeded : Bool) (s : ℕ) (p : Geometry) (at : ℕ) (old mid new : Held) → IsGeometry p → s < p.stripes
      → WritesRun honest true (run_places s p at) front old mid → WritesRun honest succeeded (run_places s p (at + blocks_in front)) back mid new
      → WritesRun honest succeeded (run_places s p at) (front ++ back) old new
  writes-join honest succeeded s p at old mid new bounds own a b =
      let first : (from many : ℕ) → IsApart (run_places s p at) (blocks_in (front ++ back)) from many → IsApart (run_places s p at) (blocks_in front) from many =
      λ from many apart i low. apart i (omega (arith, low, both)) in
      let second : (from many : ℕ) → IsApart (run_places s p at) (blocks_in (front ++ back)) from many → IsApart (run_places s p (at + blocks_in front)) (blocks_in back) from many =
      λ from many apart i low. subst (λ (k : ℕ). Apart k 512 from many) (sym (next-place s p at i)) (apart (blocks_in front + i) (omega (arith, low, both))) in
      record {
        own = λ is_honest. b.own is_honest ∙ a.own is_honest;
        written = λ is_honest done owns number below.
            ⊎_elim
            (λ low.
            b.others is_honest (run_places s p at number) 512 (omega arith)
            (λ j _. blocks-apart s p (at + blocks_in front + j) (at + number) bounds own (λ same. omega (arith, same, low)))
            ∙ a.written is_honest refl (λ i l. owns i (omega (arith, l, both))) number low ∙ sym (of-front number low))
            (λ high.
            let i : ℕ = number - blocks_in front in
            let is : blocks_in front + i ≡ number = omega (arith, high) in
            let all : OwnsRun mid (run_places s p (at + blocks_in front)) (blocks_in back) =
            λ j l k above short. subst (λ (o : ℕ → Bool). IsTrue (o k)) (sym (a.own is_honest))
            (subst (λ (m : ℕ). Owns old m 512) (sym (next-place s p at j)) (owns (blocks_in front + j) (omega (arith, l, both))) k above short) in
            ap (λ (k : ℕ). window (run_places s p at k) 512 new.contents) (sym is)
            ∙ ap (λ (k : ℕ). window k 512 new.contents) (sym (next-place s p at i))
            ∙ b.written is_honest done all i (omega (arith, below, both, high)) ∙ sym (of-back i) ∙ ap (λ (k : ℕ). bytes_of k (front ++ back)) is)
            (cases_lt number (blocks_in front));
        kept = λ is_honest done number below.
            ⊎_elim
            (λ low. b.kept_others is_honest (run_places s p at number) 512 (a.kept is_honest refl number low))
            (λ high.
            let i : ℕ = number - blocks_in front in
            let is : blocks_in front + i ≡ number = omega (arith, high) in
            subst (λ (k : ℕ). Kept new k 512) (next-place s p at i ∙ ap (λ (k : ℕ). run_places s p at k) is) (b.kept is_honest done i (omega (arith, below, both, high))))
            (cases_lt number (blocks_in front));
        others = λ is_honest from many more apart. b.others is_honest from many more (second from many apart) ∙ a.others is_honest from many more (first from many apart);
        durable_others = λ is_honest from many more apart. b.durable_others is_honest from many more (second from many apart) ∙ a.durable_others is_honest from many more (first from many apart);
        kept_others = λ is_honest from many kept. b.kept_others is_honest from many (a.kept_others is_honest from many kept);
      }
