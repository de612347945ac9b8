-- One block more of the front of the leg.
use Rattle.std.proofs.Common.{◌++◌, ◌∷◌, [], ap, sym, ◌∙◌, take, arith}
use Rattle.std.proofs.lemmas.List.{take_more}
use Rattle.std.proofs.lemmas.Option.{get_or_from_slice_get}
use Rattle.nm_replay.specs.declared.block.Block.{Block}
use Rattle.nm_replay.specs.Array.{Array}
use Rattle.nm_leg.specs.TestLegs.{of_fuse}
use Rattle.nm_script_lib.proofs.power_leg.copy_of.Goals as goal

pub loop-at-preserved : goal.loop-at-preserved
loop-at-preserved c =
    let at = c.loop-at.at in
    let all : Array = (of_fuse c.args.leg.now).contents in
    let block : Block = c.block.result.now in
    let more = take_more all at block (omega (arith, c.loop-at-test.true, c.len-at-end.ensures)) in
    c.in_ok-push.ensures.items
    ∙ ap (λ (xs : Array). xs ++ block ∷ []) c.loop-at.invariant
    ∙ ap (λ (b : Block). take at all ++ b ∷ []) (sym (get_or_from_slice_get all at block block c.block.ensures))
    ∙ sym more
