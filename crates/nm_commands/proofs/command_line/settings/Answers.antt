use Rattle.std.proofs.Common.{◌∙◌, ◌≡◌, ◌⊎◌, [], ap, sym, map, List}
use Rattle.clap.specs.Words.{Text, App, app_of, fault_of, found_of, is_simple, is_simple_and_free, kind_of, matches_of, rows_of}
use Rattle.clap.specs.declared.error.kind.ErrorKind.TheVariants.{ArgumentConflict, OutOfMemory}
use Rattle.nm_commands.proofs.Said.{simple, simple_and_free, handed_on, said_fault, said_two}
use Rattle.nm_commands.specs.CommandLine.{nbdmirror}
use Rattle.nm_commands.specs.Settings.{IsRefusal, NamesTwo}
use Rattle.nm_commands.proofs.command_line.settings.Goals as goal

pub returns-clause-asked : goal.returns-clause-asked
returns-clause-asked g c =
    let line = c.in_ok-command.ensures.ok in
    let words : List Text = map g.S.AsStr.text c.args.words.now in
    let f = found_of c.in_ok-matches.matches in
    let rows = matches_of (nbdmirror line.0 line.2.0) words in
    let e : rows_of f ≡ rows =
    (c.in_ok-matches.ensures.ok.2 (ap is_simple line.2.2 ∙ simple line.0 line.2.0)).0
    ∙ ap (λ (a : App). matches_of a words) line.2.2 in
    record {
      policies = line.0;
      known = line.1;
      starts = line.2.0;
      known_starts = line.2.1;
      faultless = ap (λ (a : App). fault_of a words) (sym line.2.2)
          ∙ c.in_ok-matches.ensures.kinds (ap is_simple_and_free line.2.2 ∙ simple_and_free line.0 line.2.0);
      one_place = λ two.
          let both : NamesTwo (rows_of f) = rw e two in
          c.in_ok-refuse_two.ensures.ok both;
      settings = rw (← e) c.in_ok-settings.ensures.ok;
    }

pub returns-in_err-refuse_two-clause-refused : goal.returns-in_err-refuse_two-clause-refused
returns-in_err-refuse_two-clause-refused g c =
    let line = c.in_ok-command.ensures.ok in
    let words : List Text = map g.S.AsStr.text c.args.words.now in
    let f = found_of c.in_ok-matches.matches in
    let rows = matches_of (nbdmirror line.0 line.2.0) words in
    let e : rows_of f ≡ rows =
    (c.in_ok-matches.ensures.ok.2 (ap is_simple line.2.2 ∙ simple line.0 line.2.0)).0
    ∙ ap (λ (a : App). matches_of a words) line.2.2 in
    let faultless : fault_of (nbdmirror line.0 line.2.0) words ≡ [] =
    ap (λ (a : App). fault_of a words) (sym line.2.2)
    ∙ c.in_ok-matches.ensures.kinds (ap is_simple_and_free line.2.2 ∙ simple_and_free line.0 line.2.0) in
    let error = c.in_err-refuse_two.field-0.0 in
    let two : (kind_of error ≡ OutOfMemory) ⊎ (NamesTwo rows × (kind_of error ≡ ArgumentConflict)) =
    rw (← e) c.in_err-refuse_two.ensures.refused in
    let refusal = said_two line.0 line.2.0 words error line.1 line.2.1 faultless two in
    handed_on c.from_residual-in_err-refuse_two.result error (IsRefusal words)
    c.from_residual-in_err-refuse_two.ensures.1 refusal

pub returns-in_err-matches-clause-refused : goal.returns-in_err-matches-clause-refused
returns-in_err-matches-clause-refused g c =
    let line = c.in_ok-command.ensures.ok in
    let words : List Text = map g.S.AsStr.text c.args.words.now in
    let refusal = said_fault line.0 line.2.0 (app_of c.in_ok-command.command) words
    c.in_err-matches.field-0.0 line.1 line.2.1 line.2.2
    (c.in_err-matches.ensures.kinds (ap is_simple_and_free line.2.2 ∙ simple_and_free line.0 line.2.0)) in
    handed_on c.from_residual-in_err-matches.result c.in_err-matches.field-0.0
    (IsRefusal words) c.from_residual-in_err-matches.ensures.1 refusal
