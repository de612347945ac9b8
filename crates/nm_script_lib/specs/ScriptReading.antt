-- What reading a text from its first line on gives; the laws in proofs/ tie it to the grammar.
use Rattle.std.specs.Prelude.{◌≡◌, ℕ, ◌+◌, Bool, false, not, ◌++◌, List, [], ◌∷◌, Option, Some}
use Rattle.std.specs.Prelude.{None, Result, Ok, Err, if◌then◌else◌, codes}
use Rattle.std.specs.List.{list_any}
use Rattle.std.specs.Option.{is_some}
use Rattle.std.specs.Str.{is_utf8}
use Rattle.nm_script_lib.specs.declared.load.Load.{Load}
use Rattle.nm_script_lib.specs.declared.mirror_line.MirrorLine.{MirrorLine}
use Rattle.nm_script_lib.specs.declared.script.Script.{Script}
use Rattle.nm_script_lib.specs.declared.step.Step.{Step}
use Rattle.nm_script_lib.specs.declared.parse_error.ParseError.{ParseError}
use Rattle.nm_script_lib.specs.declared.parse_error.ParseError.TheVariants.{Memory, BadStep}
use Rattle.nm_script_lib.specs.Grammar.{has_content, load_form, mirror_form, start_form, step_form}
use Rattle.nm_script_lib.specs.Reading.{pieces, is_word, read_line}

-- the number of the first line that passes a test, where the first line here is the n-th
abbrev pub first_where : (List ℕ → Bool) → ℕ → List (List ℕ) → Option ℕ
first_where test n [] = None
first_where test n (line ∷ lines) = if test line then Some n else first_where test (n + 1) lines

-- the first line with content, its number, and the lines after it
abbrev pub content_from : ℕ → List (List ℕ) → Option (ℕ × List ℕ × List (List ℕ))
content_from n [] = None
content_from n (line ∷ lines) =
    if has_content line then Some (n, line, lines) else content_from (n + 1) lines

-- a step before others, or the number of the line that is none
abbrev pub onto_steps : Option Step → ℕ → Result (List Step) ℕ → Result (List Step) ℕ
onto_steps None n read = Err n
onto_steps (Some step) n (Ok steps) = Ok (step ∷ steps)
onto_steps (Some step) n (Err bad) = Err bad

-- the steps of the lines, or the number of the first that is none
abbrev pub steps_of : MirrorLine → ℕ → List (List ℕ) → Result (List Step) ℕ
steps_of m n [] = Ok []
steps_of m n (line ∷ lines) =
    if has_content line
    then onto_steps (read_line (step_form m) line) n (steps_of m (n + 1) lines)
    else steps_of m (n + 1) lines

-- what stands before the steps: the loads and the leg of the start, the number of the line after
-- them, and the lines after them
abbrev pub Opened : Type 0
Opened = List Load × Option ℕ × ℕ × List (List ℕ)

-- the line is a start
abbrev pub is_start : MirrorLine → List ℕ → Bool
is_start m line = is_some (read_line (start_form m) line)

-- a line stands between a load and a start: after these loads, and before these lines
abbrev pub is_between : MirrorLine → List Load → List (List ℕ) → Bool
is_between m [] lines = false
is_between m (load ∷ loads) lines = list_any (is_start m) lines

-- the opening that a start ends; where a step stands in its place, and not between a load and a
-- start, none; else the line's number
abbrev pub by_start : Option ℕ → Option Step → Bool → Opened → List Load → ℕ → List (List ℕ)
    → Result Opened ℕ
by_start (Some master) step between none loads n lines = Ok (loads, Some master, n + 1, lines)
by_start None (Some step) between none loads n lines = if between then Err n else Ok none
by_start None None between none loads n lines = Err n

-- the opening after one load more, or another
abbrev pub by_load : Option Load → (Load → Result Opened ℕ) → Result Opened ℕ → Result Opened ℕ
by_load (Some load) on other = on load
by_load None on other = other

-- the opening of the lines, of which the first is line n, after these loads; where a step or the
-- end stands in the place of the start, and no start follows, none; else the number of the line
-- that is no load
abbrev pub opening_from : MirrorLine → Opened → List Load → ℕ → List (List ℕ) → Result Opened ℕ
opening_from m none loads n [] = Ok none
opening_from m none loads n (line ∷ lines) =
    if has_content line
    then by_load (read_line (load_form m) line)
    (λ load. opening_from m none (loads ++ (load ∷ [])) (n + 1) lines)
    (by_start (read_line (start_form m) line) (read_line (step_form m) line)
    (is_between m loads lines) none loads n lines)
    else opening_from m none loads (n + 1) lines

-- the opening of the lines; where there is none, the steps begin with them
abbrev pub opening_of : MirrorLine → ℕ → List (List ℕ) → Result Opened ℕ
opening_of m n lines = opening_from m ([], None, n, lines) [] n lines

-- some steps before those that were read
abbrev pub with_prefix : List Step → Result (List Step) ℕ → Result (List Step) ℕ
with_prefix prefix (Ok steps) = Ok (prefix ++ steps)
with_prefix prefix (Err bad) = Err bad

-- a line's first word is `mirror`
abbrev pub names_mirror : List ℕ → Bool
names_mirror line = first_is (pieces 32 line)
  where
    first_is : List (List ℕ) → Bool
    first_is [] = false
    first_is (word ∷ words) = is_word word (codes "mirror")

-- a reader gave what reading gives, unless memory ran out
abbrev pub Reads : {X Y : Type 0} → (X → Y) → Result X ParseError → Result Y ℕ → Type 0
Reads view (Ok x) read = read ≡ Ok (view x)
Reads view (Err Memory) read = Unit {0}
Reads view (Err (BadStep line)) read = read ≡ Err line

-- a script's parts: its mirror, its loads and the leg of its start, and its steps
abbrev pub Said : Type 0
Said = MirrorLine × List Load × Option ℕ × List Step

-- the mirror and the opening beside the steps that were read
abbrev pub with_opening : MirrorLine → Opened → Result (List Step) ℕ → Result Said ℕ
with_opening m o (Ok steps) = Ok (m, o.0, o.1, steps)
with_opening m o (Err bad) = Err bad

-- the script of the lines after the mirror line
abbrev pub from_opening : MirrorLine → Result Opened ℕ → Result Said ℕ
from_opening m (Ok o) = with_opening m o (steps_of m o.2 o.3)
from_opening m (Err bad) = Err bad

-- the script of the first line with content and the lines after it, by the mirror of that line
abbrev pub after_mirror : List (List ℕ) → ℕ → List (List ℕ) → Option MirrorLine → Result Said ℕ
after_mirror lines n rest None = Err (if list_any names_mirror lines then n else 1)
after_mirror lines n rest (Some m) = from_opening m (opening_of m (n + 1) rest)

-- the script of the lines, by the first with content
abbrev pub from_content : List (List ℕ) → Option (ℕ × List ℕ × List (List ℕ)) → Result Said ℕ
from_content lines None = Err 1
from_content lines (Some (n, line, rest)) = after_mirror lines n rest (read_line mirror_form line)

-- the same, by the first line that is not UTF-8
abbrev pub from_utf8 : List (List ℕ) → Option ℕ → Result Said ℕ
from_utf8 lines (Some n) = Err n
from_utf8 lines None = from_content lines (content_from 1 lines)

-- what the lines of a text say, or the number of the line to name
unfoldable pub script_of : List (List ℕ) → Result Said ℕ
script_of lines = from_utf8 lines (first_where (λ line. not (is_utf8 line)) 1 lines)

-- a script has these parts
pub record SaysAll (m : MirrorLine) (loads : List Load) (master : Option ℕ) (steps : List Step)
    (script : Script) : Type 0 where
  pub same_mirror : script.mirror ≡ m
  pub same_loads : script.loads.items ≡ loads
  pub same_master : script.master ≡ master
  pub same_steps : script.steps.items ≡ steps
