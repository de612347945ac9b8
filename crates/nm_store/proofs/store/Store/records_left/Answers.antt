-- The blocks of one run more.
use Rattle.std.proofs.Common.{rules, ◌≡◌, ◌*◌, ◌≤◌, ap, ◌∙◌, arith, length}
use Rattle.nm_fanout.specs.Runs.{flat}
use Rattle.nm_fanout.proofs.RunOrder.{run-at}
use Rattle.nm_rules.specs.State.{StripeState}
use Rattle.nm_store.proofs.StoreLemmas.{left-none, left-step}
use Rattle.nm_store.proofs.store.Store.records_left.Goals as goal

pub overflow_add-blocks : goal.overflow_add-blocks
overflow_add-blocks g c =
    let run = run-at c.self.inside.records c.loop-place.place c.at.result.now c.at.ensures.in_order.runs c.at.ensures.found in
    let some : c.blocks-blocks.result ≤ 128 = omega (arith, c.blocks-blocks.ensures, run.filled.most) in
    let few : c.loop-place.blocks ≤ 128 * 256 = omega (arith, c.loop-place.invariant.few, c.loop-place-test.true, c.len-place-end.ensures.len, c.at.ensures.in_order.few) in
    search (rules, some, few)

pub loop-place-preserved : goal.loop-place-preserved
loop-place-preserved g c =
    let run = run-at c.self.inside.records c.loop-place.place c.at.result.now c.at.ensures.in_order.runs c.at.ensures.found in
    let step = left-step c.loop-place.place c.self.inside.records c.at.result.now c.at.ensures.found in
    record {
      few = omega (arith, c.loop-place.invariant.few, c.blocks-blocks.ensures, run.filled.most);
      left = omega (arith, c.loop-place.invariant.left, c.blocks-blocks.ensures, step);
    }

pub returns : goal.returns
returns g c =
    let none = left-none c.loop-place.place c.self.inside.records (omega (arith, c.loop-place-test.false, c.len-place-end.ensures.len)) in
    let all : c.loop-place.blocks ≡ length (flat c.self.inside.records) = omega (arith, c.loop-place.invariant.left, none) in
    all ∙ ap (λ (s : StripeState _). length s.records) c.self.view_is
