use Rattle.std.proofs.Common.{codes, refl}
use Rattle.clap.specs.Words.{found_of, rows_of}
use Rattle.nm_commands.proofs.Said.{said_number_if_any, said_text}
use Rattle.nm_commands.proofs.found_settings.listening_of.Goals as goal

pub returns-clause-ok : goal.returns-clause-ok
returns-clause-ok c =
    let f = found_of c.args.matches.now in
    let rows = rows_of f in
    record {
      address = said_text f rows (codes "listen") _ refl c.in_ok-address.ensures.ok;
      port = said_number_if_any f rows (codes "port") _ refl c.in_ok-port.ensures.some
          c.in_ok-port.ensures.none;
      control = said_text f rows (codes "control") _ refl c.in_ok-control.ensures.ok;
    }
