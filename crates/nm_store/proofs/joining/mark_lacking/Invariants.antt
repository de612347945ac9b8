-- The regions so far are marked where the leg may lack something.
use Rattle.std.proofs.Common.{◌≡◌}
use Rattle.nm_regions.specs.Changes.{with_leg}
use Rattle.nm_rules.specs.Attach.{may_lack}
use Rattle.nm_rules.specs.Reopening.{Marks}
use Rattle.nm_store.proofs.ReopeningLemmas.{marked_upto}
use Rattle.nm_store.proofs.joining.mark_lacking.Given as goal

abbrev pub invariant-loop-region : goal.invariant-loop-region
invariant-loop-region g l =
    let marks : Marks = record { marked = l.marked; span = l.span } in
    let test = may_lack marks (g.L.LegPart.model l.part).unsynced l.fn.regions in
    l.regions ≡ with_leg (λ x. record x { behind = marked_upto test l.region x.behind }) l.leg l.fn.regions
