use Rattle.std.proofs.Common.{codes, refl}
use Rattle.clap.specs.Words.{found_of, rows_of}
use Rattle.nm_commands.proofs.Said.{said_all, said_flag, said_number_if_any, said_place}
use Rattle.nm_commands.proofs.Said.{said_place_if_any, said_text}
use Rattle.nm_commands.proofs.found_settings.opening_of.Goals as goal

pub returns-clause-ok : goal.returns-clause-ok
returns-clause-ok c =
    let f = found_of c.args.matches.now in
    let rows = rows_of f in
    record {
      master = said_number_if_any f rows (codes "master") _ refl c.in_ok-master.ensures.some
          c.in_ok-master.ensures.none;
      start = said_text f rows (codes "start") _ refl c.in_ok-start.ensures.ok;
      superblock = said_place f rows (codes "superblock") _ refl c.in_ok-superblock.ensures.ok;
      names_superblock = c.is_named.ensures;
      superblock_from = said_place_if_any f rows (codes "superblock-from") _ refl
          c.place_from-superblock_from.ensures;
      degraded = said_flag f rows (codes "degraded") _ refl c.get_flag.ensures.value
          c.get_flag.ensures.other;
      force_master = said_number_if_any f rows (codes "force-master") _ refl
          c.in_ok-force_master.ensures.some c.in_ok-force_master.ensures.none;
      added = said_all f rows (codes "add-leg") _ refl c.in_ok-added.ensures.ok;
      moved = said_all f rows (codes "moved") _ refl c.in_ok-moved.ensures.ok;
      shrink = said_flag f rows (codes "shrink") _ refl c.get_flag-2.ensures.value
          c.get_flag-2.ensures.other;
    }
