-- A write of a run is a write of its first block, and then one of the others.
use Rattle.std.proofs.Common.{◌≡◌, ◌≢◌, ⊎_elim, inl, inr, ℕ, zero, suc, ◌+◌, Bool, true, IsTrue, List, [], ◌∷◌, length, map, Option, None, Some, refl, sym, ap, ◌∙◌, subst, arith, slice_get, slice_set}
use Rattle.std.specs.Option.{option_map}
use Rattle.std.proofs.lemmas.Bool.{cases_lt}
use Rattle.std.proofs.lemmas.List.{length-set, set-set, map-set}
use Rattle.std.proofs.lemmas.Option.{same_Some, slice_get_within, slice_get-map}
use Rattle.nm_replay.specs.declared.block.Block.{Block}
use Rattle.nm_replay.specs.Array.{Array}
use Rattle.nm_replay.proofs.Arrays.{slice_get-set_same, slice_get-set_other}
use Rattle.nm_leg.specs.Leg.{IsOutside, Leg, LegType, set_run}
use Rattle.nm_leg.specs.LegCalls.{ChangesLeg}
use Rattle.nm_rules.specs.BlockCalls.{WritesBlock, WritesBlockAt}
use Rattle.nm_rules.specs.RunCalls.{WritesRun, WritesRunAt}
use Rattle.nm_rules.proofs.HeldLemmas.{held_type}
use Rattle.nm_rules.proofs.RecordLemmas.{one_or_two}

-- a run leaves every other block
pub set_run-outside : (at k : ℕ) (blocks : List Block) (xs : Array) → IsOutside at (length blocks) k → slice_get (set_run at blocks xs) k ≡ slice_get xs k
set_run-outside at k [] xs out = refl
set_run-outside at k (b ∷ blocks) xs out =
    let rest : IsOutside (at + 1) (length blocks) k = ⊎_elim (λ low. inl (omega (arith, low))) (λ high. inr (omega (arith, high))) out in
    let other : at ≢ k = ⊎_elim (λ low. λ e. omega (arith, low, e)) (λ high. λ e. omega (arith, high, e)) out in
    set_run-outside (at + 1) k blocks (slice_set xs at b) rest ∙ slice_get-set_other xs at k b other

-- a block that stands in one of two arrays of one length stands in the other
none-alike : (xs ys : Array) (i : ℕ) → length xs ≡ length ys → slice_get xs i ≡ None → slice_get ys i ≡ None
none-alike [] [] i long none = refl
none-alike [] (y ∷ ys) i long none = absurd (let e : ⊥ = omega (arith, long) in e)
none-alike (x ∷ xs) [] i long none = refl
none-alike (x ∷ xs) (y ∷ ys) zero long none = cc
none-alike (x ∷ xs) (y ∷ ys) (suc i) long none = none-alike xs ys i (omega (arith, long)) none

-- the array with what is there, if anything is, in a place
abbrev pub put_at : Array → ℕ → Option Block → Array
put_at xs at None = xs
put_at xs at (Some b) = slice_set xs at b

length-put_at : (xs : Array) (at : ℕ) (o : Option Block) → length (put_at xs at o) ≡ length xs
length-put_at xs at None = refl
length-put_at xs at (Some b) = length-set xs at b

put_at-other : (xs : Array) (at k : ℕ) (o : Option Block) → at ≢ k → slice_get (put_at xs at o) k ≡ slice_get xs k
put_at-other xs at k None other = refl
put_at-other xs at k (Some b) other = slice_get-set_other xs at k b other

put_at-same : (xs ys : Array) (at : ℕ) (o : Option Block) → length ys ≡ length xs → slice_get ys at ≡ o → slice_get (put_at xs at o) at ≡ o
put_at-same xs ys at None long is = none-alike ys xs at long is
put_at-same xs ys at (Some b) long is = slice_get-set_same xs at b (omega (arith, slice_get_within ys at b is, long))

-- the leg once the first block is written, and not the others
abbrev pub between : ℕ → Block → Leg → Leg → Leg
between at block old new = record {
  contents = slice_set old.contents at block;
  durable = put_at old.durable at (slice_get new.durable at);
  unsynced = old.unsynced;
  faults = old.faults;
}

module _ (honest : Bool) (at : ℕ) (block : Block) (blocks : List Block) (old new : Leg) (w : WritesRun honest true at (block ∷ blocks) old new) where
  abbrev mid : Leg
  mid = between at block old new

  pub first-writes : WritesBlock honest true at block.0 old mid
  first-writes = record {
    calls = record {
      contents_length = length-set old.contents at block;
      durable_length = length-put_at old.durable at (slice_get new.durable at);
      faults = refl;
      fault_moves = λ q. absurd (let e : ⊥ = cc in e);
    };
    written = λ is_honest done. refl;
    others = λ is_honest k other. slice_get-set_other old.contents at k block (λ e. other (sym e));
    durable_others = λ is_honest k other. put_at-other old.durable at k (slice_get new.durable at) (λ e. other (sym e));
  }

  out_of_all : (k : ℕ) → k ≢ at → IsOutside (at + 1) (length blocks) k → IsOutside at (length (block ∷ blocks)) k
  out_of_all k other out = ⊎_elim (λ low. inl (omega (arith, low, other))) (λ high. inr (omega (arith, high))) out

  rest-durable : IsTrue honest → (k : ℕ) → IsOutside (at + 1) (length blocks) k → slice_get new.durable k ≡ slice_get mid.durable k
  rest-durable is_honest k out =
      ⊎_elim
      (λ is. subst (λ (i : ℕ). slice_get new.durable i ≡ slice_get mid.durable i) (sym is)
      (sym (put_at-same old.durable new.durable at (slice_get new.durable at) w.calls.durable_length refl)))
      (λ other. w.durable_others is_honest k (out_of_all k other out) ∙ sym (put_at-other old.durable at k (slice_get new.durable at) (λ e. other (sym e))))
      (one_or_two k at)

  pub rest-writes : WritesRun honest true (at + 1) blocks mid new
  rest-writes = record {
    calls = record {
      contents_length = w.calls.contents_length ∙ sym (length-set old.contents at block);
      durable_length = w.calls.durable_length ∙ sym (length-put_at old.durable at (slice_get new.durable at));
      faults = w.calls.faults;
      fault_moves = λ q. absurd (let e : ⊥ = cc in e);
    };
    written = λ is_honest done. w.written is_honest done;
    others = λ is_honest k out.
        ap (λ xs. slice_get xs k) (w.written is_honest refl) ∙ set_run-outside (at + 1) k blocks (slice_set old.contents at block) out;
    durable_others = rest-durable;
  }

-- a run of one block is a block
pub last-writes : (honest : Bool) (at : ℕ) (block : Block) (old new : Leg) → WritesRun honest true at (block ∷ []) old new → WritesBlock honest true at block.0 old new
last-writes honest at block old new w = record {
  calls = w.calls;
  written = λ is_honest done. w.written is_honest done;
  others = λ is_honest k other. w.others is_honest k (outside k other);
  durable_others = λ is_honest k other. w.durable_others is_honest k (outside k other);
}
  where
    outside : (k : ℕ) → k ≢ at → IsOutside at (length (block ∷ [])) k
    outside k other = ⊎_elim (λ low. inl low) (λ high. inr (omega (arith, high, other))) (cases_lt k at)

-- a leg of a list is changed, and its length is not
pub changes : (old : List Leg) (place : ℕ) (before after : Leg) → slice_get old place ≡ Some before → length after.contents ≡ length before.contents → ChangesLeg (λ (leg : Leg). leg) place old (slice_set old place after) before after
changes old place before after was long = record {
  was = was;
  others = refl;
  lengths = λ blocks each j leg at.
      ⊎_elim
      (λ is.
      let here : leg ≡ after = same_Some leg after (sym at ∙ ap (λ (i : ℕ). slice_get (slice_set old place after) i) is ∙ slice_get-set_same old place after (slice_get_within old place before was)) in
      ap (λ (l : Leg). length l.contents) here ∙ long ∙ each place before was)
      (λ other. each j leg (sym (slice_get-set_other old place j after (λ e. other (sym e))) ∙ at))
      (one_or_two j place);
}

module _ (honest : Bool) (place at : ℕ) (block : Block) (blocks : List Block) (old new : List Leg) (w : WritesRunAt (held_type honest) true place at (block ∷ blocks) old new) where
  abbrev middle : Leg
  middle = between at block w.before w.after

  abbrev pub mid_legs : List Leg
  mid_legs = slice_set old place middle

  pub first-writes_at : WritesBlockAt (held_type honest) true place at block.0 old mid_legs
  first-writes_at = record {
    before = w.before;
    after = middle;
    change = changes old place w.before middle w.change.was (length-set w.before.contents at block);
    writes = first-writes honest at block blocks w.before w.after w.writes;
  }

  now_middle : slice_get mid_legs place ≡ Some middle
  now_middle = slice_get-set_same old place middle (slice_get_within old place w.before w.change.was)

  pub rest-writes_at : WritesRunAt (held_type honest) true place (at + 1) blocks mid_legs new
  rest-writes_at =
      let rest = rest-writes honest at block blocks w.before w.after w.writes in
      let same : slice_set mid_legs place w.after ≡ new = set-set old place middle w.after ∙ sym w.change.others in
      record {
        before = middle;
        after = w.after;
        change = subst (λ (ls : List Leg). ChangesLeg (λ (leg : Leg). leg) place mid_legs ls middle w.after) same
            (changes mid_legs place middle w.after now_middle rest.calls.contents_length);
        writes = rest;
      }

pub last-writes_at : (honest : Bool) (place at : ℕ) (block : Block) (old new : List Leg) → WritesRunAt (held_type honest) true place at (block ∷ []) old new → WritesBlockAt (held_type honest) true place at block.0 old new
last-writes_at honest place at block old new w = record { before = w.before; after = w.after; change = w.change; writes = last-writes honest at block w.before w.after w.writes }

-- what a call of a leg does is seen of what the leg holds
pub writes-seen : {L : Type 0} (type : LegType L) (succeeded : Bool) (place at : ℕ) (blocks : List Block) (old new : List L) → WritesRunAt type succeeded place at blocks old new
    → WritesRunAt (held_type type.honest) succeeded place at blocks (map type.model old) (map type.model new)
writes-seen type succeeded place at blocks old new w =
    let was : slice_get (map type.model old) place ≡ Some (type.model w.before) = slice_get-map type.model old place ∙ ap (λ o. option_map type.model o) w.change.was in
    let is : slice_set (map type.model old) place (type.model w.after) ≡ map type.model new = sym (map-set type.model old place w.after) ∙ ap (λ ls. map type.model ls) (sym w.change.others) in
    record {
      before = type.model w.before;
      after = type.model w.after;
      change = subst (λ (ls : List Leg). ChangesLeg (λ (leg : Leg). leg) place (map type.model old) ls (type.model w.before) (type.model w.after)) is
          (changes (map type.model old) place (type.model w.before) (type.model w.after) was w.writes.calls.contents_length);
      writes = w.writes;
    }
