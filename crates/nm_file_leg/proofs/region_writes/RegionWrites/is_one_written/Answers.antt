-- A region that is looked at and passed was not written.
use Rattle.std.proofs.Common.{rules, ◌≡◌, ⊎_elim, ℕ, ◌<◌, ◌≤◌, nat_lt, false, IsFalse, get_or, length, sym, ◌∙◌, subst, arith}
use Rattle.std.proofs.lemmas.Bool.{cases_lt, le-ltb}
use Rattle.std.proofs.lemmas.Option.{same_Some, slice_get-get_or}
use Rattle.nm_file_leg.specs.Remembered.{Remembered, is_written}
use Rattle.nm_file_leg.proofs.RememberedLemmas.{written-in}
use Rattle.nm_file_leg.proofs.region_writes.RegionWrites.is_one_written.Goals as goal

pub loop-region-preserved : goal.loop-region-preserved
loop-region-preserved c =
    let at = c.loop-region.region in
    let numbers = c.self.inside.written_in.items in
    let inside : at < length numbers = search rules in
    let number : get_or numbers at 0 ≡ c.index.result.now =
    same_Some _ _ (sym (slice_get-get_or numbers at 0 inside) ∙ slice_get-get_or numbers at c.index.result.now inside) ∙ sym c.index.ensures in
    let other : nat_lt c.self.inside.covered (get_or numbers at 0) ≡ false = le-ltb c.self.inside.covered (get_or numbers at 0) (omega (arith, number, c.if-self-index.false)) in
    let here : IsFalse (is_written at c.args.self.now) =
    subst (λ (memory : Remembered). IsFalse (is_written at memory)) c.self.view_is (written-in c.self.inside.covered at numbers inside ∙ other) in
    record {
      behind = omega (arith, c.loop-region.invariant.behind);
      none = λ region above below.
          ⊎_elim
          (λ (low : region < at). c.loop-region.invariant.none region above low)
          (λ (high : at ≤ region).
          let same : at ≡ region = omega (arith, high, below) in
          subst (λ (r : ℕ). IsFalse (is_written r c.args.self.now)) same here)
          (cases_lt region at);
    }
