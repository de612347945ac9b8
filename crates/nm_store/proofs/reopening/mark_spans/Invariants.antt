-- The regions so far are marked as their spans are.
use Rattle.std.proofs.Common.{◌≡◌}
use Rattle.nm_regions.specs.Changes.{with_leg}
use Rattle.nm_rules.specs.Reopening.{Marks, is_in_marked}
use Rattle.nm_store.proofs.ReopeningLemmas.{marked_upto}
use Rattle.nm_store.proofs.reopening.mark_spans.Given as goal

abbrev pub invariant-loop-region : goal.invariant-loop-region
invariant-loop-region l =
    let marks : Marks = record { marked = l.marked; span = l.span } in
    l.regions ≡ with_leg (λ x. record x { behind = marked_upto (is_in_marked marks) l.region x.behind }) l.leg l.fn.regions
