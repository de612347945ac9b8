-- The rule of an option, by its row in the table.
use Rattle.std.specs.Prelude.{◌≡◌, ℕ, List, Option, None, Some, map}
use Rattle.std.specs.Borrow.{Bor}
use Rattle.clap.specs.Words.{Rule, Text}
use Rattle.nm_commands.specs.CommandLine.{ArePolicies, AreStarts, bare_rule, flag_rule, lettered}
use Rattle.nm_commands.specs.CommandLine.{option_rule, option_rules, parsed_rule, repeated_rule}
use Rattle.nm_commands.specs.declared.option_row.OptionRow.{OptionRow}
use Rattle.nm_commands.specs.declared.option_row.Value.{Value}
use Rattle.nm_commands.specs.declared.option_row.Value.TheVariants as value

-- The rule of an option that takes this value.
abbrev pub rule_of_value : Text → Value → Rule
rule_of_value word value.Flag = flag_rule word
rule_of_value word (value.Text name default) = option_rule word default.now
rule_of_value word (value.Parsed name default parser) = parsed_rule word default.now parser
rule_of_value word (value.Bare name parser) = bare_rule word parser
rule_of_value word (value.Repeated name parser) = repeated_rule word parser

-- The rule, with its letter if there is one.
abbrev pub with_letter : Option ℕ → Rule → Rule
with_letter None rule = rule
with_letter (Some letter) rule = lettered letter rule

-- The rule of a row.
abbrev pub rule_of_row : OptionRow → Rule
rule_of_row row = with_letter row.letter (rule_of_value row.word.now row.value)

-- The rules of the rows are those of the options, with these policies and starts.
pub record IsTable (rows : List OptionRow) : Type 0 where
  pub policies : Bor (List (Bor Text))
  pub known : ArePolicies policies
  pub starts : Bor (List (Bor Text))
  pub known_starts : AreStarts starts
  pub rules : map rule_of_row rows ≡ option_rules policies starts
