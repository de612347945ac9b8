-- The calls of a medium in memory.
use Rattle.std.proofs.Common.{◌≡◌, ℕ, ◌≤◌, true, List, length, take, refl, ap, sym, ◌∙◌, arith, Ok}
use Rattle.std.proofs.lemmas.List.{length-take-le}
use Rattle.nm_file_leg.specs.Medium.{window, spliced, ReadsMedium, WritesMedium}
use Rattle.nm_file_leg.specs.Media.{steady}
use Rattle.nm_leg.proofs.WindowLemmas.{window-none, window-spliced}
use Rattle.nm_file_leg.proofs.WindowLemmas.{window-apart}

-- a read past the end finds nothing
pub reads-none : {E : Type 0} (at : ℕ) (bytes filled : List ℕ) → ReadsMedium {E = E} true (Ok 0) at (steady bytes) (steady bytes) filled
reads-none at bytes filled = record {
  bound = omega arith;
  found = λ _ _. sym (window-none at bytes);
  same = λ _. refl;
}

-- a write past the end writes nothing
pub writes-none : {E : Type 0} (at : ℕ) (bytes held : List ℕ) → WritesMedium {E = E} true (Ok 0) at bytes (steady held) (steady held)
writes-none at bytes held = record {
  own = λ _. refl;
  written = λ _ _. window-none at held;
  kept = λ _ i _ _. refl;
  others = λ _ from many _. refl;
  durable_others = λ _ from many _. refl;
  kept_others = λ _ from many kept. kept;
}

-- a write changes the bytes in its place
pub writes-steady : {E : Type 0} (at n : ℕ) (bytes held : List ℕ) → at ≤ length held → n ≤ length bytes
    → WritesMedium {E = E} true (Ok n) at bytes (steady held) (steady (spliced at (take n bytes) held))
writes-steady at n bytes held inside short =
    let e : length (take n bytes) ≡ n = length-take-le n bytes short in
    let fits : length (take n bytes) ≤ length bytes = omega (arith, e, short) in
    record {
      own = λ _. refl;
      written = λ _ _. ap (λ (m : ℕ). window at m (spliced at (take n bytes) held)) (sym e) ∙ window-spliced at (take n bytes) held inside;
      kept = λ _ i _ _. refl;
      others = λ _ from many apart. window-apart at (length bytes) from many (take n bytes) held inside fits apart;
      durable_others = λ _ from many apart. window-apart at (length bytes) from many (take n bytes) held inside fits apart;
      kept_others = λ _ from many kept. kept;
    }
