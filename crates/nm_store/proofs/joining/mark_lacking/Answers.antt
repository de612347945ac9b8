-- Once all regions were seen, each is marked in which the leg may lack something.
use Rattle.std.proofs.Common.{rules, arith, ◌≡◌, ◌+◌, ℕ, suc, Bool, cond, true, false, List, length, sym, ap, ◌∙◌, slice_set}
use Rattle.nm_regions.specs.Changes as changes
use Rattle.nm_regions.specs.Changes.{with_leg}
use Rattle.nm_regions.specs.LegFlags.{marked, no_leg}
use Rattle.nm_regions.specs.Table.{RegionTable, leg_at}
use Rattle.nm_rules.specs.Attach.{either, may_lack}
use Rattle.nm_rules.specs.Reopening.{Marks}
use Rattle.nm_store.proofs.ReopeningLemmas.{all-marked, lacking-are, marked_upto}
use Rattle.nm_store.proofs.TableLemmas.{with-twice}
use Rattle.nm_store.proofs.joining.mark_lacking.Goals as goal
use Rattle.nm_store.proofs.joining.mark_lacking.Goals.{then-may_lack, else-may_lack}

pub loop-region-preserved : goal.loop-region-preserved
loop-region-preserved g c =
    let marks : Marks = record { marked = c.args.marked.now; span = c.args.span } in
    let t = c.args.regions.now in
    let region = c.loop-region.region in
    let test = may_lack marks (g.L.LegPart.model c.args.part.now).unsynced t in
    let same : c.may_lack.result ≡ test region = c.may_lack.ensures ∙ ap (λ (u : RegionTable). may_lack marks (g.L.LegPart.model c.args.part.now).unsynced u region) c.loop-region.invariant in
    let decides : (b : Bool) → c.may_lack.result ≡ b → with_leg (λ x. record x { behind = cond b (slice_set (marked_upto test region x.behind) region true) (marked_upto test region x.behind) }) c.args.leg t ≡ with_leg (λ x. record x { behind = marked_upto test (region + 1) x.behind }) c.args.leg t =
    λ b is. ap (λ (d : Bool). with_leg (λ x. record x { behind = cond d (slice_set (marked_upto test region x.behind) region true) (marked_upto test region x.behind) }) c.args.leg t) (sym is ∙ same)
    ∙ ap (λ (k : ℕ). with_leg (λ x. record x { behind = marked_upto test k x.behind }) c.args.leg t) (let e : suc region ≡ region + 1 = omega arith in e) in
    elim c.if-may_lack.branch [
      | then-may_lack w ↦
          w.regions-is ∙ w.mark.ensures ∙ ap (λ (u : RegionTable). changes.marked c.args.leg region u) c.loop-region.invariant
          ∙ with-twice (marked region) (λ x. record x { behind = marked_upto test region x.behind }) c.args.leg t c.requires.leg
          ∙ decides true w.if-may_lack.true
      | else-may_lack w ↦ w.regions-is ∙ c.loop-region.invariant ∙ decides false w.if-may_lack.false
    ]

pub returns : goal.returns
returns g c =
    let marks : Marks = record { marked = c.args.marked.now; span = c.args.span } in
    let t = c.args.regions.now in
    let unsynced = (g.L.LegPart.model c.args.part.now).unsynced in
    let test = may_lack marks unsynced t in
    let n : ℕ = length t.writes in
    let all : c.loop-region.region ≡ n = search rules in
    let long : length (leg_at c.args.leg t).behind ≡ n = c.is_sound.ensures.table.flags c.args.leg no_leg c.requires.leg in
    c.loop-region.invariant
    ∙ ap (λ (k : ℕ). with_leg (λ x. record x { behind = marked_upto test k x.behind }) c.args.leg t) all
    ∙ ap (λ (behind : List Bool). with_leg (λ x. record x { behind = behind }) c.args.leg t)
    (all-marked test n (leg_at c.args.leg t).behind long ∙ ap (λ (more : List Bool). either (leg_at c.args.leg t).behind more) (lacking-are marks unsynced t n 0))
