-- The command line of nbdmirror, as clap is told of it.
use Rattle.std.specs.Prelude.{◌≡◌, ℕ, ℤ, List, [], ◌∷◌, Some, true, codes, pos, map, ◌^◌, ◌-◌}
use Rattle.std.specs.Borrow.{Bor}
use Rattle.std.specs.List.{fold}
use Rattle.clap.specs.Words.{App, Rule, Text, new_app, new_rule, with_rule}
use Rattle.clap.specs.Simple.{on_top}
use Rattle.clap.specs.declared.builder.value_parser.ValueParser.{ValueParser}
use Rattle.clap.specs.declared.builder.value_parser.ValueParser.TheVariants as vp
use Rattle.clap.specs.declared.builder.action.ArgAction.TheVariants.{Append, SetTrue}

-- An option --ID with one value, which is this text where the words have none.
abbrev pub option_rule : Text → Text → Rule
option_rule id default =
    record (new_rule id) { long = Some id; value_names = 1; defaults = default ∷ [] }

-- The same, whose value passes a parser.
abbrev pub parsed_rule : Text → Text → ValueParser → Rule
parsed_rule id default parser = record (option_rule id default) { parser = Some parser }

-- The same, whose value is a number from `least` to `most`.
abbrev pub number_rule : Text → Text → ℤ → ℤ → Rule
number_rule id default least most = parsed_rule id default (vp.Signed least most)

-- The option --ID with one value that passes a parser, and none where the words have none.
abbrev pub bare_rule : Text → ValueParser → Rule
bare_rule id parser = record (new_rule id) {
  long = Some id;
  value_names = 1;
  parser = Some parser;
}

-- The same, whose value is a number from `least` to `most`.
abbrev pub bare_number_rule : Text → ℤ → ℤ → Rule
bare_number_rule id least most = bare_rule id (vp.Signed least most)

-- The option --ID that may come more than once, each time with one value that passes a parser.
abbrev pub repeated_rule : Text → ValueParser → Rule
repeated_rule id parser = record (bare_rule id parser) { action = Some Append }

-- The option --ID, without a value.
abbrev pub flag_rule : Text → Rule
flag_rule id = record (new_rule id) { long = Some id; action = Some SetTrue }

-- The same option, by this letter too.
abbrev pub lettered : ℕ → Rule → Rule
lettered letter rule = record rule { short = Some letter }

-- One or more words that are no options.
abbrev pub words_rule : Text → Rule
words_rule id = record (new_rule id) {
  value_names = 1;
  range = Some (record { start_inclusive = 1; end_inclusive = 2 ^ 64 - 1 });
  required = true;
}

-- The policies that the command line knows.
abbrev pub ArePolicies : Bor (List (Bor Text)) → Type 0
ArePolicies names =
    map (λ name. name.now) names.now ≡ codes "round-robin" ∷ codes "striped" ∷ []

-- The starts that the command line knows.
abbrev pub AreStarts : Bor (List (Bor Text)) → Type 0
AreStarts names =
    map (λ name. name.now) names.now ≡ codes "compare" ∷ codes "full" ∷ codes "equal" ∷ []

-- The program, which tells its version.
abbrev pub program : App
program = on_top (λ shape. record shape { has_version = true }) (new_app (codes "nbdmirror"))

-- The options, with their defaults and ranges. `p` is 112, `v` 118, and `r` 114.
abbrev pub option_rules : (policies starts : Bor (List (Bor Text))) → List Rule
option_rules policies starts =
    option_rule (codes "listen") (codes "127.0.0.1:10809")
    ∷ lettered 112 (bare_number_rule (codes "port") (pos 0) (pos 65535))
    ∷ option_rule (codes "control") (codes "127.0.0.1:10810")
    ∷ option_rule (codes "name") (codes "disk")
    ∷ number_rule (codes "stripes") (codes "16") (pos 1) (pos 64)
    ∷ parsed_rule (codes "policy") (codes "round-robin") (vp.Names policies)
    ∷ bare_number_rule (codes "master") (pos 0) (pos 7)
    ∷ parsed_rule (codes "start") (codes "compare") (vp.Names starts)
    ∷ flag_rule (codes "auto-attach")
    ∷ bare_number_rule (codes "copy-rate") (pos 1) (pos 65535)
    ∷ bare_number_rule (codes "leg-timeout") (pos 1) (pos 86400)
    ∷ parsed_rule (codes "superblock") (codes "beside") vp.NonEmptyString
    ∷ bare_rule (codes "superblock-from") vp.NonEmptyString
    ∷ flag_rule (codes "degraded")
    ∷ bare_number_rule (codes "force-master") (pos 0) (pos 7)
    ∷ repeated_rule (codes "add-leg") (vp.Signed (pos 0) (pos 7))
    ∷ repeated_rule (codes "moved") (vp.Signed (pos 0) (pos 7))
    ∷ flag_rule (codes "shrink")
    ∷ bare_number_rule (codes "idle-limit") (pos 1) (pos 86400)
    ∷ lettered 118 (flag_rule (codes "verbose"))
    ∷ number_rule (codes "sessions") (codes "16") (pos 1) (pos 64)
    ∷ number_rule (codes "history") (codes "16") (pos 0) (pos 1024)
    ∷ lettered 114 (flag_rule (codes "read-only"))
    ∷ flag_rule (codes "force-in-use")
    ∷ []

-- The app, and the options of these rules in turn.
abbrev pub with_rules : App → List Rule → App
with_rules app rules = fold with_rule app rules

-- The command line: the program, its options, and the legs.
abbrev pub nbdmirror : (policies starts : Bor (List (Bor Text))) → App
nbdmirror policies starts =
    with_rule (with_rules program (option_rules policies starts)) (words_rule (codes "leg"))
