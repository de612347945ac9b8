-- The file of one leg more is read again.
use Rattle.std.proofs.Common.{refl, ◌∙◌, arith, set}
use Rattle.std.proofs.lemmas.List.{length-set}
use Rattle.nm_saves.proofs.ErrorLemmas.{tells-on}
use Rattle.nm_saves.proofs.Reread.{reread-on}
use Rattle.nm_saves.proofs.rereading.read_failed.Goals as goal

pub legs-preserved : goal.legs-preserved
legs-preserved g c =
    let before = c.legs.invariant in
    let read = c.read_failed_at.ensures in
    let last = c.read_failed_at.new.last in (
      reread-on g.F.SlotFile.honest c.legs.leg c.args.files.now c.legs.files c.read_failed_at.new.files before.0 read.file,
      tells-on g.F.SlotFile.honest c.legs.leg c.args.files.now c.legs.files c.read_failed_at.new.files c.args.errors.now c.legs.errors (set c.legs.errors c.legs.leg last) last
          (omega (arith, before.2)) refl before.0.others before.1 read.file read.error,
      length-set c.legs.errors c.legs.leg last ∙ before.2,
    )
