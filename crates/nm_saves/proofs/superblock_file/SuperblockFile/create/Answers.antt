-- Both slots were written with zeroes.
use Rattle.std.proofs.Common.{replicate, sym, subst, refl}
use Rattle.nm_saves.specs.SlotFile.{Held, IsDurably, place_of}
use Rattle.nm_saves.proofs.superblock_file.SuperblockFile.create.Goals as goal

pub returns-clause-blank : goal.returns-clause-blank
returns-clause-blank g c honestly =
    subst (λ (h : Held). IsDurably (place_of (replicate 4096 0) (replicate 4096 0)) h) (sym c.of_slots.ensures.held)
    (c.in_ok-write_blank.ensures honestly refl)
