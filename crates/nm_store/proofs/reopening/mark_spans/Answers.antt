-- Once all regions were seen, each is marked as its span is.
use Rattle.std.proofs.Common.{rules, ◌≡◌, ℕ, Bool, List, length, ap, ◌∙◌}
use Rattle.nm_regions.specs.Changes.{with_leg}
use Rattle.nm_regions.specs.LegFlags.{no_leg}
use Rattle.nm_regions.specs.Table.{leg_at}
use Rattle.nm_rules.specs.Attach.{either}
use Rattle.nm_rules.specs.Reopening.{Marks, is_in_marked}
use Rattle.nm_store.proofs.ReopeningLemmas.{all-marked, marked_upto, marks-are}
use Rattle.nm_store.proofs.reopening.mark_spans.Goals as goal

pub returns : goal.returns
returns c =
    let marks : Marks = record { marked = c.args.marked.now; span = c.args.span } in
    let t = c.args.regions.now in
    let n : ℕ = length t.writes in
    let all : c.loop-region.region ≡ n = search rules in
    let long : length (leg_at c.args.leg t).behind ≡ n = c.is_sound.ensures.table.flags c.args.leg no_leg c.requires.leg in
    c.loop-region.invariant
    ∙ ap (λ (k : ℕ). with_leg (λ x. record x { behind = marked_upto (is_in_marked marks) k x.behind }) c.args.leg t) all
    ∙ ap (λ (behind : List Bool). with_leg (λ x. record x { behind = behind }) c.args.leg t) (all-marked (is_in_marked marks) n (leg_at c.args.leg t).behind long
    ∙ ap (λ (more : List Bool). either (leg_at c.args.leg t).behind more) (marks-are marks n 0))
