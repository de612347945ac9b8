use Rattle.std.proofs.Common.{codes, refl}
use Rattle.clap.specs.Words.{found_of, rows_of}
use Rattle.nm_commands.proofs.Said.{said_flag, said_number_if_any}
use Rattle.nm_commands.proofs.found_settings.copies_of.Goals as goal

pub returns-clause-ok : goal.returns-clause-ok
returns-clause-ok c =
    let f = found_of c.args.matches.now in
    let rows = rows_of f in
    record {
      auto_attach = said_flag f rows (codes "auto-attach") _ refl c.get_flag.ensures.value
          c.get_flag.ensures.other;
      copy_rate = said_number_if_any f rows (codes "copy-rate") _ refl
          c.in_ok-copy_rate.ensures.some c.in_ok-copy_rate.ensures.none;
      leg_timeout = said_number_if_any f rows (codes "leg-timeout") _ refl
          c.in_ok-leg_timeout.ensures.some c.in_ok-leg_timeout.ensures.none;
    }
