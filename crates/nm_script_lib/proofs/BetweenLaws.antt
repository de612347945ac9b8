-- A line stands between a load and a start where a load was read before it, and a start is read after it.
use Rattle.std.proofs.Common.{◌≡◌, ℕ, ◌<◌, true, false, List, [], ◌∷◌, ◌++◌, length, zero, suc, Some, None, Option, refl, ap, ◌∙◌, arith, ◌⊎◌, inl, inr}
use Rattle.std.specs.List.{Any, list_any}
use Rattle.std.specs.Option.{is_some}
use Rattle.std.proofs.lemmas.Bool.{both_ways}
use Rattle.std.proofs.lemmas.List.Folds.{Any-from_list_any, list_any-from_Any}
use Rattle.nm_script_lib.specs.declared.load.Load.{Load}
use Rattle.nm_script_lib.specs.declared.mirror_line.MirrorLine.{MirrorLine}
use Rattle.nm_script_lib.specs.Grammar.{start_form, has_content}
use Rattle.nm_script_lib.specs.BadLine.{HasContent, IsStart}
use Rattle.nm_script_lib.specs.Reading.{read_line}
use Rattle.nm_script_lib.specs.ScriptReading.{is_start, is_between}
use Rattle.nm_script_lib.proofs.FormLaws.{line_sound, line_complete}

-- a load stands before: it is among these, or among these lines
abbrev pub IsLoaded : List Load → List (List ℕ) → Type 0
IsLoaded sofar before = (0 < length sofar) ⊎ Any HasContent before

-- a line stands between a load and a start
abbrev pub IsBetweenFrom : MirrorLine → List Load → List (List ℕ) → List (List ℕ) → Type 0
IsBetweenFrom m sofar before after = IsLoaded sofar before × Any (IsStart m) after

is_read : (m : MirrorLine) (line : List ℕ) (master : Option ℕ) → read_line (start_form m) line ≡ master →
    is_some master ≡ true → IsStart m line
is_read m line None e h = cc
is_read m line (Some master) e h = (master, line_sound (start_form m) line master e)

start_read : (m : MirrorLine) (line : List ℕ) → is_start m line ≡ true → IsStart m line
start_read m line h = is_read m line (read_line (start_form m) line) refl h

start_is_read : (m : MirrorLine) (line : List ℕ) → IsStart m line → is_start m line ≡ true
start_is_read m line is = ap is_some (line_complete (start_form m) line is.0 is.1)

pub between_read : (m : MirrorLine) (sofar : List Load) (lines : List (List ℕ)) →
    is_between m sofar lines ≡ true → IsBetweenFrom m sofar [] lines
between_read m [] lines h = cc
between_read m (load ∷ sofar) lines h =
    let a = Any-from_list_any (is_start m) lines h in
    (inl (omega arith), (a.0, a.1, a.2, a.3, start_read m a.1 a.4))

pub between_is_read : (m : MirrorLine) (sofar : List Load) (lines : List (List ℕ)) →
    is_between m sofar lines ≡ false → IsBetweenFrom m sofar [] lines → ⊥
between_is_read m [] lines h (inl some, a) = absurd (omega (arith, some))
between_is_read m [] lines h (inr some, a) = absurd (omega (arith, some.2))
between_is_read m (load ∷ sofar) lines h is =
    let a = is.1 in
    both_ways (list_any (is_start m) lines) h
    (list_any-from_Any (is_start m) lines (a.0, a.1, a.2, a.3, start_is_read m a.1 a.4))

-- a load more stands before
pub loaded_here : (sofar : List Load) (load : Load) (line : List ℕ) (before : List (List ℕ)) →
    IsLoaded sofar (line ∷ before) → IsLoaded (sofar ++ load ∷ []) before
loaded_here sofar load line before some = inl (some_more sofar load)
  where
    some_more : (sofar : List Load) (load : Load) → 0 < length (sofar ++ load ∷ [])
    some_more [] load = omega arith
    some_more (l ∷ sofar) load = omega arith

pub loaded_back : (sofar more : List Load) (line : List ℕ) (before : List (List ℕ)) →
    has_content line ≡ true → IsLoaded more before → IsLoaded sofar (line ∷ before)
loaded_back sofar more line before full some = inr (0, line, omega arith, refl, full)

-- a line without content is no load
pub skipped_here : (sofar : List Load) (line : List ℕ) (before : List (List ℕ)) → has_content line ≡ false →
    IsLoaded sofar (line ∷ before) → IsLoaded sofar before
skipped_here sofar line before empty (inl some) = inl some
skipped_here sofar line before empty (inr (zero, other, k, is, full)) =
    let same : line ≡ other = is in
    absurd (both_ways (has_content line) empty (ap has_content same ∙ full))
skipped_here sofar line before empty (inr (suc i, other, k, is, full)) =
    inr (i, other, omega (arith, k), is, full)

pub skipped_back : (sofar : List Load) (line : List ℕ) (before : List (List ℕ)) →
    IsLoaded sofar before → IsLoaded sofar (line ∷ before)
skipped_back sofar line before (inl some) = inl some
skipped_back sofar line before (inr a) = inr (suc a.0, a.1, omega (arith, a.2), a.3, a.4)
