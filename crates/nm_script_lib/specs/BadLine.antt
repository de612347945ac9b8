-- Which line is named where a text is no script.
use Rattle.std.specs.Prelude.{◌≡◌, ℕ, ◌+◌, List, ◌∷◌, ◌++◌, length, ◌==◌, IsTrue, IsUtf8, Some, ◌⊎◌}
use Rattle.std.specs.Prelude.{codes}
use Rattle.std.specs.Prelude.{filter}
use Rattle.std.specs.List.{before_first, AllByRecursion, Any}
use Rattle.nm_script_lib.specs.declared.load.Load.{Load}
use Rattle.nm_script_lib.specs.declared.mirror_line.MirrorLine.{MirrorLine}
use Rattle.nm_script_lib.specs.declared.step.Step.{Step}
use Rattle.nm_script_lib.specs.Forms.{IsLine}
use Rattle.nm_script_lib.specs.Grammar.{IsMirrorLine, IsOpening, IsStepLine, AreLines, has_content}
use Rattle.nm_script_lib.specs.Grammar.{load_form, start_form}

-- The number, counted from 1, of the first line for which a fact holds.
pub record IsFirst (Holds : List ℕ → Type 0) (lines : List (List ℕ)) (n : ℕ) : Type 0 where
  pub before : List (List ℕ)
  pub line : List ℕ
  pub after : List (List ℕ)
  pub split : lines ≡ before ++ (line ∷ after)
  pub number : n ≡ length before + 1
  pub none_before : AllByRecursion (λ other. Holds other → ⊥) before
  pub holds : Holds line

abbrev pub IsNotUtf8 : List ℕ → Type 0
IsNotUtf8 line = IsUtf8 line → ⊥

abbrev pub HasContent : List ℕ → Type 0
HasContent line = IsTrue (has_content line)

-- The line's first word is `mirror`.
abbrev pub NamesMirror : List ℕ → Type 0
NamesMirror line = before_first (λ b. b == 32) line ≡ codes "mirror"

-- The line is no mirror line.
abbrev pub IsBadMirror : List ℕ → Type 0
IsBadMirror line = (m : MirrorLine) → IsMirrorLine line m → ⊥

-- The line has content, and is no step on this mirror.
abbrev pub IsBadStep : MirrorLine → List ℕ → Type 0
IsBadStep m line = HasContent line × ((s : Step) → IsStepLine m line s → ⊥)

-- The line has content, and is no load on this mirror.
abbrev pub IsNoLoad : MirrorLine → List ℕ → Type 0
IsNoLoad m line = HasContent line × ((load : Load) → IsLine (load_form m) line load → ⊥)

-- The line is a start on this mirror.
abbrev pub IsStart : MirrorLine → List ℕ → Type 0
IsStart m line = (master : ℕ) × IsLine (start_form m) line master

-- A line stands between a load and a start: after these lines, of which those with content are
-- loads, and before these.
abbrev pub IsBetween : MirrorLine → List (List ℕ) → List (List ℕ) → Type 0
IsBetween m before after = Any HasContent before × Any (IsStart m) after

-- The i-th of the lines after the mirror line is wrong in its place: it is the first with content
-- that is no load, and it is no start. It is no step either, or it is one between a load and a
-- start.
pub record IsWrongOpening (m : MirrorLine) (lines : List (List ℕ)) (i : ℕ) : Type 0 where
  pub next : IsFirst (IsNoLoad m) lines i
  pub no_start : IsStart m next.line → ⊥
  pub wrong : ((s : Step) → IsStepLine m next.line s → ⊥) ⊎ IsBetween m next.before next.after

-- The lines after the opening, of which the first is the one after line j. The first line with
-- content that is no load decides: where it is a start, they are those after it; where it is a
-- step that does not stand between a load and a start, or there is none, nothing is opened, and
-- they are all lines.
pub data FollowsOpening (m : MirrorLine) (lines : List (List ℕ)) : ℕ → List (List ℕ) → Type 0 where
  Opens : (before after : List (List ℕ)) (loads : List Load) (master : ℕ) → lines ≡ before ++ after
      → IsOpening m (filter has_content before) loads (Some master)
      → FollowsOpening m lines (length before) after
  StepFollows : (i : ℕ) (next : IsFirst (IsNoLoad m) lines i) (s : Step) → IsStepLine m next.line s
      → (IsBetween m next.before next.after → ⊥) → FollowsOpening m lines 0 lines
  NothingFollows : AllByRecursion (λ line. IsNoLoad m line → ⊥) lines
      → FollowsOpening m lines 0 lines

-- Line n is named. The first line that is not UTF-8 is, whatever stands before it. In a text that
-- is UTF-8: where no line's first word is `mirror`, line 1; else the first line with content, if it
-- is no mirror line; else the line that is wrong in its opening; else the first line after it, or
-- after the start of its opening, that has content and is no step: so a load that no start follows.
pub data Names (lines : List (List ℕ)) : ℕ → Type 0 where
  NotUtf8 : (n : ℕ) → IsFirst IsNotUtf8 lines n → Names lines n
  NoMirrorLine : AllByRecursion IsUtf8 lines
      → AllByRecursion (λ line. NamesMirror line → ⊥) lines → Names lines 1
  WrongMirrorLine : (n : ℕ) → AllByRecursion IsUtf8 lines → Any NamesMirror lines
      → (first : IsFirst HasContent lines n) → IsBadMirror first.line → Names lines n
  WrongOpening : (n i : ℕ) (m : MirrorLine) → AllByRecursion IsUtf8 lines
      → (first : IsFirst HasContent lines n) → IsMirrorLine first.line m
      → IsWrongOpening m first.after i → Names lines (n + i)
  WrongStep : (n j k : ℕ) (m : MirrorLine) → AllByRecursion IsUtf8 lines
      → (first : IsFirst HasContent lines n) → IsMirrorLine first.line m
      → (after : List (List ℕ)) → FollowsOpening m first.after j after
      → IsFirst (IsBadStep m) after k → Names lines (n + j + k)

-- Line n of the text is named.
abbrev pub NamesLine : List ℕ → ℕ → Type 0
NamesLine text n = (lines : List (List ℕ)) × AreLines text lines × Names lines n
