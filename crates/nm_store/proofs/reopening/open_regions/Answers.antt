-- A leg that was set aside is marked, and then it is changed once.
use Rattle.std.proofs.Common.{ℕ, Bool, List, true, false, length, replicate, sym, ap, ◌∙◌, slice_set}
use Rattle.std.proofs.lemmas.List.{length-replicate}
use Rattle.nm_regions.specs.Changes.{attached, with_leg}
use Rattle.nm_regions.specs.LegFlags.{LegRegions}
use Rattle.nm_regions.specs.LegFlags as leg_flags
use Rattle.nm_regions.specs.Table.{RegionTable}
use Rattle.nm_rules.specs.declared.leg_opening.LegOpening.{LegOpening}
use Rattle.nm_rules.specs.Attach.{fallen}
use Rattle.nm_rules.specs.Reopening.{Marks, marks_from, reopened_leg}
use Rattle.nm_store.proofs.ReopeningLemmas.{from-none}
use Rattle.nm_store.proofs.TableLemmas.{with-twice}
use Rattle.nm_store.proofs.reopening.open_regions.Goals as goal

pub returns-in-Partial : goal.returns-in-Partial
returns-in-Partial c =
    let marks : Marks = record { marked = c.args.marked.now; span = c.args.span } in
    let t = c.args.regions.now in
    let n : ℕ = length t.writes in
    let more = marks_from marks n 0 in
    c.attach.ensures
    ∙ ap (λ (u : RegionTable). attached c.args.leg u) c.mark_spans.ensures
    ∙ with-twice leg_flags.attached (fallen more) c.args.leg t c.requires.leg
    ∙ ap (λ (l : LegRegions). let x : RegionTable = record t { legs = slice_set t.legs c.args.leg (leg_flags.attached (fallen more l)) } in x) c.requires.aside
    ∙ ap (λ (behind : List Bool). let x : RegionTable = record t { legs = slice_set t.legs c.args.leg (record { out = false; behind = behind }) } in x) (from-none marks n)
    ∙ ap (λ (o : LegOpening). with_leg (λ l. reopened_leg marks n o) c.args.leg t) (sym c.in-Partial.is)

pub returns-in-Whole : goal.returns-in-Whole
returns-in-Whole c =
    let marks : Marks = record { marked = c.args.marked.now; span = c.args.span } in
    let t = c.args.regions.now in
    let n : ℕ = length t.writes in
    c.replace.ensures
    ∙ with-twice leg_flags.attached leg_flags.all_marked c.args.leg t c.requires.leg
    ∙ ap (λ (l : LegRegions). let x : RegionTable = record t { legs = slice_set t.legs c.args.leg (leg_flags.attached (leg_flags.all_marked l)) } in x) c.requires.aside
    ∙ ap (λ (k : ℕ). let x : RegionTable = record t { legs = slice_set t.legs c.args.leg (record { out = false; behind = replicate k true }) } in x) (length-replicate n false)
    ∙ ap (λ (o : LegOpening). with_leg (λ l. reopened_leg marks n o) c.args.leg t) (sym c.in-Whole.is)
