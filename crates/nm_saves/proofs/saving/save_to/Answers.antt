-- One leg more is passed.
use Rattle.std.proofs.Common.{length, List, Option, subst, not, sym, ap, ◌∙◌, arith}
use Rattle.std.proofs.lemmas.List.{length-set}
use Rattle.nm_saves.specs.FileState.{FileState}
use Rattle.nm_saves.specs.Files.{SavesAt}
use Rattle.nm_saves.proofs.ErrorLemmas.{keeps-at, keeps-by}
use Rattle.nm_saves.proofs.Rounds.{goes-by, goes-to, rest-fine, still-fine}
use Rattle.nm_saves.proofs.saving.save_to.Goals as goal
use Rattle.nm_saves.proofs.saving.save_to.Goals.{then-has, else-has}

pub legs-preserved : goal.legs-preserved
legs-preserved g c =
    let invariant = c.legs.invariant in
    elim c.if-has.branch [
      | then-has w ↦
          let is = w.failed-is ∙ w.set.ensures in (
            ap length is ∙ length-set c.legs.failed c.legs.leg (not w.has_saved.result) ∙ invariant.0,
            goes-to g.F.SlotFile.honest w.has_saved.result c.legs.leg c.args.next.now c.args.to.now c.legs.failed c.if-has.failed c.args.files.now c.legs.files c.if-has.files
                (omega arith) (sym c.has.ensures ∙ w.if-has.true) is invariant.1
                (subst (λ (fs : List (Option FileState)). SavesAt g.F.SlotFile.honest w.has_saved.result c.legs.leg c.args.next.now c.legs.files fs) (sym w.files-is) w.has_saved.ensures.file),
            rest-fine c.legs.leg (not w.has_saved.result) c.legs.failed c.if-has.failed is invariant.2,
            keeps-at c.legs.leg w.has_saved.result c.legs.failed c.if-has.failed c.args.errors.now c.legs.errors c.if-has.errors w.has_saved.new.first
                (omega arith) (omega arith) (invariant.2 c.legs.leg (omega arith)) is w.errors-is invariant.3 w.has_saved.ensures.error,
            ap length w.errors-is ∙ length-set c.legs.errors c.legs.leg w.has_saved.new.first ∙ invariant.4,
          )
      | else-has w ↦ (
        ap length w.failed-is ∙ invariant.0,
        goes-by g.F.SlotFile.honest c.legs.leg c.args.next.now c.args.to.now c.legs.failed c.if-has.failed c.args.files.now c.legs.files c.if-has.files
            (sym c.has.ensures ∙ w.if-has.false) (invariant.2 c.legs.leg (omega arith)) w.failed-is w.files-is invariant.1,
        still-fine c.legs.leg c.legs.failed c.if-has.failed w.failed-is invariant.2,
        keeps-by c.legs.failed c.if-has.failed c.args.errors.now c.legs.errors c.if-has.errors w.failed-is w.errors-is invariant.3,
        ap length w.errors-is ∙ invariant.4,
      )
    ]
