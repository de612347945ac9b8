-- A word that is a number is text, and a line asks for nothing but what a row of the table says.
use Rattle.std.proofs.Common.{◌≡◌, ◌<◌, ◌≤◌, ◌∙◌, ℕ, List, [], ◌∷◌, ◌++◌, length, take, codes}
use Rattle.std.proofs.Common.{Option, Some, None, IfSome, ap, sym, refl, append_assoc}
use Rattle.std.specs.Str.{IsUtf8}
use Rattle.std.specs.Str.Parse.{digits_value}
use Rattle.std.proofs.lemmas.Option.{slice_get_within}
use Rattle.std.proofs.lemmas.Str.{IsUtf8-from_ascii}
use Rattle.std.proofs.lemmas.Fmt.{IsAscii-from_digits}
use Rattle.std.proofs.Math.Seq.{take-append_seam}
use Rattle.nm_commands.specs.ControlLine.{Asks, IsByRow, IsLineOf, IsNumberedLine, IsNumeralOf}
use Rattle.nm_commands.specs.ControlLine.{IsPassed, IsRow, IsSaid, IsWithNumber, command_of}
use Rattle.nm_commands.specs.ControlLine.{least_of, most_of, row_of, rows}
use Rattle.nm_commands.specs.declared.command_word.Argument.{Argument}
use Rattle.nm_commands.specs.declared.command_word.Argument.TheVariants.{Nothing, Leg, Stripe}
use Rattle.nm_commands.specs.declared.command_word.Argument.TheVariants.{Client, Mib, Seconds}
use Rattle.nm_commands.specs.declared.command_word.CommandWord.{CommandWord}
use Rattle.nm_commands.specs.declared.command_word.CommandWord.TheVariants as row
use Rattle.nm_commands.specs.declared.control_command.ControlCommand.{ControlCommand}

-- a word of digits is text
pub named_is_text : (word : List ℕ) (leg : ℕ) → IsNumeralOf word leg → IsUtf8 word
named_is_text word leg named = IsUtf8-from_ascii word (IsAscii-from_digits word named.digits.1)

cancel : (start a b : List ℕ) → start ++ a ≡ start ++ b → a ≡ b
cancel [] a b e = e
cancel (c ∷ cs) a b e = let rest : cs ++ a ≡ cs ++ b = cc in cancel cs a b rest

pub number_found : (start line word : List ℕ) (found : Option ℕ) → line ≡ start ++ word →
    IfSome found (λ leg. IsNumeralOf word leg) → IfSome found (λ leg. IsWithNumber start line leg)
number_found start line word None e named = tt
number_found start line word (Some leg) e named = (word, e, named)

pub no_number_after : (start line word : List ℕ) → line ≡ start ++ word →
    ((leg : ℕ) → IsNumeralOf word leg → ⊥) → (leg : ℕ) → IsWithNumber start line leg → ⊥
no_number_after start line word e none leg named =
    let same : word ≡ named.0 = cancel start word named.0 (sym e ∙ named.1) in
    none leg (rw same named.2)

-- a line has one number
pub one_number : (start line : List ℕ) (one other : ℕ) → IsWithNumber start line one →
    IsWithNumber start line other → one ≡ other
one_number start line one other first second =
    let same : first.0 ≡ second.0 = cancel start first.0 second.0 (sym first.1 ∙ second.1) in
    sym first.2.value ∙ (ap (digits_value 10) same ∙ second.2.value)

-- a line whose number is out of bounds has no other number within them
pub out_of_bounds : (argument : Argument) (word line : List ℕ) (found : ℕ) →
    IsWithNumber (word ++ codes " ") line found →
    ((least_of argument ≤ found) × (found ≤ most_of argument) → ⊥) →
    (number : ℕ) → IsNumberedLine argument word line number → ⊥
out_of_bounds argument word line found named out number is =
    let same : number ≡ found =
    one_number (word ++ codes " ") line number found is.numeral named in
    let least : least_of argument ≤ number = is.least in
    let most : number ≤ most_of argument = is.most in
    out (rw same at least, rw same at most)

pub other_start : (start line word : List ℕ) → (take (length start) line ≡ start → ⊥) →
    line ≡ start ++ word → ⊥
other_start start line word other e =
    other (ap (take (length start)) e ∙ take-append_seam start word)

-- what stands behind a word and then behind a blank stands behind both
pub behind_both : (word blank line rest tail : List ℕ) → line ≡ word ++ rest →
    rest ≡ blank ++ tail → line ≡ (word ++ blank) ++ tail
behind_both word blank line rest tail e f =
    e ∙ (ap (λ (r : List ℕ). word ++ r) f ∙ sym (append_assoc word blank tail))

pub no_word : (word blank line : List ℕ) → ((rest : List ℕ) → line ≡ word ++ rest → ⊥) →
    (tail : List ℕ) → line ≡ (word ++ blank) ++ tail → ⊥
no_word word blank line none tail e =
    none (blank ++ tail) (e ∙ append_assoc word blank tail)

pub no_blank : (word blank line rest : List ℕ) → line ≡ word ++ rest →
    ((tail : List ℕ) → rest ≡ blank ++ tail → ⊥) →
    (tail : List ℕ) → line ≡ (word ++ blank) ++ tail → ⊥
no_blank word blank line rest e none tail f = none tail
    (cancel word rest (blank ++ tail) (sym e ∙ (f ∙ append_assoc word blank tail)))

-- where something follows a word, a line of it has a number
pub said : (argument : Argument) (word line : List ℕ) (number : ℕ) →
    (argument ≡ Nothing → ⊥) → IsNumberedLine argument word line number →
    IsSaid argument word line number
said Nothing word line number some is = absurd (some refl)
said Leg word line number some is = is
said Stripe word line number some is = is
said Client word line number some is = is
said Mib word line number some is = is
said Seconds word line number some is = is

pub numbered : (argument : Argument) (word line : List ℕ) (number : ℕ) →
    (argument ≡ Nothing → ⊥) → IsSaid argument word line number →
    IsNumberedLine argument word line number
numbered Nothing word line number some is = absurd (some refl)
numbered Leg word line number some is = is
numbered Stripe word line number some is = is
numbered Client word line number some is = is
numbered Mib word line number some is = is
numbered Seconds word line number some is = is

pub said_if_any : (argument : Argument) (word line : List ℕ) (found : Option ℕ) →
    (argument ≡ Nothing → ⊥) → IfSome found (IsNumberedLine argument word line) →
    IfSome found (IsSaid argument word line)
said_if_any argument word line None some is = tt
said_if_any argument word line (Some number) some is = said argument word line number some is

-- each row is in the table
pub is_row : (word : CommandWord) → IsRow word
is_row row.Status = (0, refl)
is_row row.Unread = (1, refl)
is_row row.History = (2, refl)
is_row row.Info = (3, refl)
is_row row.Metrics = (4, refl)
is_row row.Fail = (5, refl)
is_row row.Attach = (6, refl)
is_row row.Replace = (7, refl)
is_row row.Retire = (8, refl)
is_row row.Pause = (9, refl)
is_row row.Resume = (10, refl)
is_row row.Reopen = (11, refl)
is_row row.ReopenAll = (12, refl)
is_row row.CopyRate = (13, refl)
is_row row.SetCopyRate = (14, refl)
is_row row.DefaultCopyRate = (15, refl)
is_row row.Verify = (16, refl)
is_row row.VerifyRepair = (17, refl)
is_row row.VerifyStop = (18, refl)
is_row row.Quit = (19, refl)
is_row row.QuitWithin = (20, refl)
is_row row.Clients = (21, refl)
is_row row.Kick = (22, refl)

-- a line of a row asks for what the row does
pub asks_by : (word : CommandWord) (number : ℕ) (line : List ℕ) → IsLineOf word line number →
    Asks line (command_of word number)
asks_by row.Status number line is = is
asks_by row.Unread number line is = is
asks_by row.History number line is = is
asks_by row.Info number line is = is
asks_by row.Metrics number line is = is
asks_by row.Fail number line is = is
asks_by row.Attach number line is = is
asks_by row.Replace number line is = is
asks_by row.Retire number line is = is
asks_by row.Pause number line is = is
asks_by row.Resume number line is = is
asks_by row.Reopen number line is = is
asks_by row.ReopenAll number line is = is
asks_by row.CopyRate number line is = is
asks_by row.SetCopyRate number line is = is
asks_by row.DefaultCopyRate number line is = is
asks_by row.Verify number line is = is
asks_by row.VerifyRepair number line is = is
asks_by row.VerifyStop number line is = is
asks_by row.Quit number line is = is
asks_by row.QuitWithin number line is = is
asks_by row.Clients number line is = is
asks_by row.Kick number line is = is

-- a line that no row has asks for nothing
pub asks_nothing : (line : List ℕ) → ((place : ℕ) → place < length rows → IsPassed line place) →
    (command : ControlCommand) → Asks line command → ⊥
asks_nothing line passed command = by_row (row_of command)
  where
    by_row : (one : Option (CommandWord × ℕ)) → IsByRow line one → ⊥
    by_row None is = is
    by_row (Some one) is =
        let place = is_row one.0 in
        let within : place.0 < length rows = slice_get_within rows place.0 one.0 place.1 in
        passed place.0 within one.0 one.1 place.1 is
