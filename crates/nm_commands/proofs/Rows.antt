-- The rows of the table of options, and their rules.
use Rattle.std.proofs.Common.{◌≡◌, ℕ, zero, suc, List, [], ◌∷◌, Option, None, Some, map, is_some, true}
use Rattle.std.proofs.Common.{true≢false, sym}
use Rattle.std.specs.Borrow.{Bor}
use Rattle.clap.specs.Words.{App, Text, with_rule}
use Rattle.clap.specs.declared.builder.value_parser.ValueParser.TheVariants as vp
use Rattle.nm_commands.specs.CommandLine.{ArePolicies, AreStarts, option_rules}
use Rattle.nm_commands.specs.OptionRows.{IsTable, rule_of_row}
use Rattle.nm_commands.specs.declared.option_row.OptionRow.{OptionRow}
use Rattle.nm_commands.specs.declared.option_row.Value.{Value}
use Rattle.nm_commands.specs.declared.option_row.Value.TheVariants as value

-- the command, and the option of a row
abbrev pub with_row : App → OptionRow → App
with_row app row = with_rule app (rule_of_row row)

-- the names that a value may be one of
abbrev pub names_of : Value → Option (Bor (List (Bor Text)))
names_of (value.Parsed name default (vp.Names names)) = Some names
names_of _ = None

-- the names that the value of the nth row may be one of
abbrev pub names_at : ℕ → List OptionRow → Option (Bor (List (Bor Text)))
names_at n [] = None
names_at zero (row ∷ rows) = names_of row.value
names_at (suc n) (row ∷ rows) = names_at n rows

-- what an option has
abbrev pub the : {A : Type 0} (o : Option A) → is_some o ≡ true → A
the (Some x) some = x
the None some = absurd (true≢false (sym some))

-- the rows are the table, where the names of the sixth row are the policies, and those of the
-- eighth row the starts
pub is_table : (rows : List OptionRow) (policies : is_some (names_at 5 rows) ≡ true)
    (starts : is_some (names_at 7 rows) ≡ true) → ArePolicies (the (names_at 5 rows) policies) →
    AreStarts (the (names_at 7 rows) starts) →
    (map rule_of_row rows
    ≡ option_rules (the (names_at 5 rows) policies) (the (names_at 7 rows) starts)) → IsTable rows
is_table rows policies starts known known_starts same = record {
  policies = the (names_at 5 rows) policies;
  known = known;
  starts = the (names_at 7 rows) starts;
  known_starts = known_starts;
  rules = same;
}
