-- One run more is compared.
use Rattle.std.proofs.Common.{◌+◌, ℕ, ◌∷◌, sym, ap, ◌∙◌, subst}
use Rattle.nm_leg.specs.Leg.{leg_type}
use Rattle.nm_rules.specs.declared.at.At.{At}
use Rattle.nm_rules.specs.RunComparing.{ComparesRun}
use Rattle.nm_rules.specs.Runs.{FitsRun}
use Rattle.nm_store.specs.Comparing.{ComparesNext}
use Rattle.nm_store.proofs.ComparingLemmas.{run-comparing}
use Rattle.nm_store.proofs.store.Store.compare_runs.Goals as goal

pub loop-block-preserved : goal.loop-block-preserved
loop-block-preserved g c =
    let type = leg_type g.L.LegPart.model g.L.LegPart.honest in
    let block = c.loop-block.block in
    let mid = c.loop-block.self in
    let new = c.compare_next.new.self in
    let count = c.in_ok-block.field-0 in
    let so_far = c.loop-block.invariant in
    let next : ComparesNext type block mid new count = c.in_ok-block.ensures.compares in
    let kept = run-comparing type block count mid new so_far.comparing next.compares in
    let fits : FitsRun c.args.self.now.place block count = subst (λ (p : At). FitsRun p block count) so_far.place next.fits in
    record {
      counts = count ∷ so_far.counts;
      upto = ap (λ (n : ℕ). n + count) so_far.upto;
      most = fits.inside;
      compares = (
        mid,
        so_far.compares,
        subst (λ (n : ℕ). FitsRun c.args.self.now.place n count) (sym so_far.upto) fits,
        subst (λ (n : ℕ). ComparesRun type n count mid new) (sym so_far.upto) next.compares,
      );
      comparing = kept.0;
      place = kept.1 ∙ so_far.place;
      held = c.compare_next.auto.held ∙ so_far.held;
      found = c.compare_next.auto.found ∙ so_far.found;
    }
