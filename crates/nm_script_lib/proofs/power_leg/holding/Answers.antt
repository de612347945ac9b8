-- One block more is written, and at last all are.
use Rattle.std.proofs.Common.{rules, ◌≡◌, true, is_ok, refl}
use Rattle.std.proofs.lemmas.Option.{slice_get-get_or}
use Rattle.nm_leg.specs.TestLegs.{of_fuse}
use Rattle.nm_rules.proofs.BlockCallLemmas.{one-writes}
use Rattle.nm_script_lib.proofs.Copies.{all-copied, one-copied}
use Rattle.nm_script_lib.proofs.power_leg.holding.Goals as goal

pub loop-at-preserved : goal.loop-at-preserved
loop-at-preserved c =
    let at = c.loop-at.at in
    let blocks = c.args.blocks.now in
    let done : is_ok c.write.result ≡ true = search rules in
    one-copied at blocks (of_fuse c.loop-at.leg).contents (of_fuse c.write.new.self).contents _ c.loop-at-test.true
    (slice_get-get_or blocks at _ c.loop-at-test.true) c.loop-at.invariant
    ((one-writes true _ at _ (of_fuse c.loop-at.leg) (of_fuse c.write.new.self) (search rules) c.write.ensures.writes).written refl done)

pub returns-clause-holds : goal.returns-clause-holds
returns-clause-holds c = all-copied c.loop-at.at c.args.blocks.now (of_fuse c.loop-at.leg).contents c.loop-at-test.false c.loop-at.invariant
