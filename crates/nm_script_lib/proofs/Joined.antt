-- Joining the pieces of a text gives the text, and cutting what is joined gives the pieces.
use Rattle.std.proofs.Common.{◌≡◌, ℕ, ◌<◌, Bool, true, false, cond, List, [], ◌∷◌, length, ◌==◌, refl, sym, ap, ◌∙◌, arith}
use Rattle.std.specs.List.{onto_first, join_with_byte, All, AllByRecursion}
use Rattle.std.proofs.lemmas.Bool.{ne_eqb, eqb-false, eq-eqb}
use Rattle.std.proofs.lemmas.List.Elements.{All-from_recursion}
use Rattle.std.proofs.lemmas.List.Splits.{slice_split_none, slice_split_at, join_with_byte-slice_split}
use Rattle.nm_script_lib.specs.Forms.{AreSeparated}
use Rattle.nm_script_lib.specs.Reading.{pieces}
use Rattle.nm_script_lib.proofs.Pieces.{some_piece}

-- no byte of a piece is the separator
abbrev Lacks : ℕ → List ℕ → Type 0
Lacks at piece = AllByRecursion (λ b. b ≡ at → ⊥) piece

lacks_tests : (at : ℕ) (piece : List ℕ) → Lacks at piece →
    AllByRecursion (λ b. (b == at) ≡ false) piece
lacks_tests at [] h = tt
lacks_tests at (b ∷ bytes) h = (ne_eqb b at h.0, lacks_tests at bytes h.1)

passes : (at : ℕ) (piece : List ℕ) → Lacks at piece → All (λ b. (b == at) ≡ false) piece
passes at piece h = All-from_recursion (λ b. (b == at) ≡ false) piece (lacks_tests at piece h)

pieces_joined : (at : ℕ) (ps : List (List ℕ)) → 0 < length ps → AllByRecursion (Lacks at) ps →
    pieces at (join_with_byte at ps) ≡ ps
pieces_joined at [] some each = absurd (omega arith)
pieces_joined at (p ∷ []) some each = slice_split_none (λ b. b == at) p (passes at p each.0)
pieces_joined at (p ∷ q ∷ ps) some each =
    let rest = pieces_joined at (q ∷ ps) (omega arith) each.1 in
    slice_split_at (λ b. b == at) p at (join_with_byte at (q ∷ ps)) (passes at p each.0)
    (eq-eqb at at refl) ∙ ap (λ r. p ∷ r) rest

onto_lacks : (at c : ℕ) (ps : List (List ℕ)) → (c ≡ at → ⊥) → AllByRecursion (Lacks at) ps →
    AllByRecursion (Lacks at) (onto_first c ps)
onto_lacks at c [] ne each = ((ne, tt), tt)
onto_lacks at c (p ∷ ps) ne each = ((ne, each.0), each.1)

lack_step : (at c : ℕ) (ps : List (List ℕ)) → AllByRecursion (Lacks at) ps → (b : Bool) →
    (c == at) ≡ b →
    AllByRecursion (Lacks at) (cond b ([] ∷ ps) (onto_first c ps))
lack_step at c ps each true e = (tt, each)
lack_step at c ps each false e = onto_lacks at c ps (eqb-false c at e) each

pieces_lack : (at : ℕ) (text : List ℕ) → AllByRecursion (Lacks at) (pieces at text)
pieces_lack at [] = (tt, tt)
pieces_lack at (c ∷ text) = lack_step at c (pieces at text) (pieces_lack at text) (c == at) refl

some_length : (ps : List (List ℕ)) → (ps ≡ [] → ⊥) → 0 < length ps
some_length [] h = absurd (h refl)
some_length (p ∷ ps) h = omega arith

pub are_separated : (at : ℕ) (text : List ℕ) → AreSeparated at text (pieces at text)
are_separated at text = record {
  joined = sym (join_with_byte-slice_split at text);
  some = some_length (pieces at text) (some_piece at text);
  each = pieces_lack at text;
}

pub pieces_are : (at : ℕ) (text : List ℕ) (ps : List (List ℕ)) → AreSeparated at text ps →
    pieces at text ≡ ps
pieces_are at text ps h = ap (pieces at) h.joined ∙ pieces_joined at ps h.some h.each
