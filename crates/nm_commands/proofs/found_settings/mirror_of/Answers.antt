use Rattle.std.proofs.Common.{codes, refl}
use Rattle.clap.specs.Words.{found_of, rows_of}
use Rattle.nm_commands.proofs.Said.{said_flag, said_number, said_text, said_words}
use Rattle.nm_commands.proofs.found_settings.mirror_of.Goals as goal

pub returns-clause-ok : goal.returns-clause-ok
returns-clause-ok c =
    let f = found_of c.args.matches.now in
    let rows = rows_of f in
    record {
      legs = said_words f rows (codes "leg") _ refl c.in_ok-legs.ensures.ok;
      force_in_use = said_flag f rows (codes "force-in-use") _ refl c.get_flag.ensures.value
          c.get_flag.ensures.other;
      stripes = said_number f rows (codes "stripes") _ refl c.in_ok-stripes.ensures.ok;
      names_stripes = c.is_named.ensures;
      policy = said_text f rows (codes "policy") _ refl c.in_ok-policy.ensures.ok;
      history = said_number f rows (codes "history") _ refl c.in_ok-history.ensures.ok;
    }
