-- A leg that is marked and attached is changed once.
use Rattle.std.proofs.Common.{length, ap, ◌∙◌}
use Rattle.nm_regions.specs.Changes as changes
use Rattle.nm_regions.specs.LegFlags.{attached}
use Rattle.nm_regions.specs.Table.{RegionTable}
use Rattle.nm_rules.specs.Attach.{fallen, lacking_from}
use Rattle.nm_rules.specs.Reopening.{Marks}
use Rattle.nm_store.proofs.TableLemmas.{with-twice}
use Rattle.nm_store.proofs.joining.return_regions.Goals as goal

pub returns : goal.returns
returns g c =
    let marks : Marks = record { marked = c.args.marked.now; span = c.args.span } in
    let t = c.args.regions.now in
    c.attach.ensures
    ∙ ap (λ (u : RegionTable). changes.attached c.args.leg u) c.mark_lacking.ensures
    ∙ with-twice attached (fallen (lacking_from marks (g.L.LegPart.model c.args.part.now).unsynced t (length t.writes) 0)) c.args.leg t c.requires.leg
