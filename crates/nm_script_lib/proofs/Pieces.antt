-- A text is cut at its first separator.
use Rattle.std.proofs.Common.{◌≡◌, ℕ, ◌+◌, ◌-◌, ◌≤◌, Bool, true, false, cond, not, ltb, List, [], ◌∷◌, length, take, drop, Some, None, Option, ◌==◌, refl, arith, position, suc, ◌⊎◌, inl, inr, Bor, MatchBool, ◌≢◌, is_some}
use Rattle.std.specs.List.{slice_split, onto_first, position_or_len}
use Rattle.std.specs.Option.{option_copied}
use Rattle.std.proofs.lemmas.Bool.{cases_Bool, ltb-true, ltb-false}
use Rattle.std.proofs.lemmas.Option.{cond_some}
use Rattle.std.proofs.lemmas.List.{take_rest}
use Rattle.std.proofs.lemmas.List.Splits.{slice_split_first}
use Rattle.nm_script_lib.specs.Reading.{pieces, pieces_of_rest}

cond_none : {A : Type 0} (b : Bool) (x : A) → cond b (Some x) None ≡ None → b ≡ false
cond_none true x h = cc
cond_none false x h = refl

-- a text with a separator
pub pieces_cut : (at : ℕ) (text : List ℕ) (k : ℕ) → position (λ b. b == at) text ≡ Some k →
    pieces at text ≡ take k text ∷ pieces at (take (length text - (k + 1)) (drop (k + 1) text))
pieces_cut at text k h =
    let p : ℕ → Bool = λ b. b == at in
    let found = cond_some (ltb (position_or_len p text) (length text)) (position_or_len p text) k h
    in
    let here : position_or_len p text ≡ k = found.1 in
    let inside = ltb-true (position_or_len p text) (length text) found.0 in
    let e = slice_split_first p text 0 inside in
    rw (take_rest text (k + 1)) (rw here at e)

pub split_whole : {X : Type 0} (p : X → Bool) (xs : List X) → length xs ≤ position_or_len p xs →
    slice_split p xs ≡ xs ∷ []
split_whole p [] h = refl
split_whole p (x ∷ xs) h = split_step p x xs (split_whole p xs) (cases_Bool (p x)) h
  where
    split_step : {X : Type 0} (p : X → Bool) (x : X) (xs : List X) →
        (length xs ≤ position_or_len p xs → slice_split p xs ≡ xs ∷ []) →
        (p x ≡ true) ⊎ (p x ≡ false) → length (x ∷ xs) ≤ position_or_len p (x ∷ xs) →
        slice_split p (x ∷ xs) ≡ (x ∷ xs) ∷ []
    split_step p x xs rest (inl here) h = absurd (let k : suc (length xs) ≤ 0 = rw here at h in
        omega arith)
    split_step p x xs rest (inr other) h =
        let k : suc (length xs) ≤ 1 + position_or_len p xs = rw other at h in
        rw (other, rest (omega arith)) refl

-- a text with no separator
pub pieces_whole : (at : ℕ) (text : List ℕ) → position (λ b. b == at) text ≡ None →
    pieces at text ≡ text ∷ []
pieces_whole at text h =
    let p : ℕ → Bool = λ b. b == at in
    let outside = ltb-false (position_or_len p text) (length text)
    (cond_none (ltb (position_or_len p text) (length text)) (position_or_len p text) h) in
    split_whole p text outside

-- a text has at least one piece
pub some_piece : (at : ℕ) (text : List ℕ) → pieces at text ≡ [] → ⊥
some_piece at [] h = cc
some_piece at (c ∷ text) h = some_step (c == at) c (pieces at text) h
  where
    some_onto : (c : ℕ) (ps : List (List ℕ)) → onto_first c ps ≡ [] → ⊥
    some_onto c [] h = cc
    some_onto c (p ∷ ps) h = cc

    some_step : (b : Bool) (c : ℕ) (ps : List (List ℕ)) → cond b ([] ∷ ps) (onto_first c ps) ≡ [] →
        ⊥
    some_step true c ps h = cc
    some_step false c ps h = some_onto c ps h

pub at_end : (rest : Option (Bor (List ℕ))) (b : Bool) → is_some rest ≡ not b →
    MatchBool b (pieces_of_rest 32 (option_copied rest) ≡ []) (pieces_of_rest 32 (option_copied rest) ≢ [])
at_end None true h = refl
at_end None false h = cc
at_end (Some text) true h = cc
at_end (Some text) false h = some_piece 32 text.now
