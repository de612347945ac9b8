use Rattle.std.proofs.Common.{codes, refl}
use Rattle.clap.specs.Words.{found_of, rows_of}
use Rattle.nm_commands.proofs.Said.{said_flag, said_number, said_number_if_any, said_text}
use Rattle.nm_commands.proofs.found_settings.clients_of.Goals as goal

pub returns-clause-ok : goal.returns-clause-ok
returns-clause-ok c =
    let f = found_of c.args.matches.now in
    let rows = rows_of f in
    record {
      export = said_text f rows (codes "name") _ refl c.in_ok-export.ensures.ok;
      read_only = said_flag f rows (codes "read-only") _ refl c.get_flag.ensures.value
          c.get_flag.ensures.other;
      sessions = said_number f rows (codes "sessions") _ refl c.in_ok-sessions.ensures.ok;
      idle_limit = said_number_if_any f rows (codes "idle-limit") _ refl
          c.in_ok-idle_limit.ensures.some c.in_ok-idle_limit.ensures.none;
      verbose = said_flag f rows (codes "verbose") _ refl c.get_flag-2.ensures.value
          c.get_flag-2.ensures.other;
    }
