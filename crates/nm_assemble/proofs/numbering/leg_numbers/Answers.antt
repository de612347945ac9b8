-- One leg more has its number, and the others keep theirs.
use Rattle.std.proofs.Common.{◌<◌, ◌∙◌, arith, length}
use Rattle.std.proofs.lemmas.List.{length-set}
use Rattle.nm_assemble.proofs.NumberingLemmas.{below-more, numbers-more}
use Rattle.nm_assemble.proofs.numbering.leg_numbers.Goals as goal

pub legs-preserved : goal.legs-preserved
legs-preserved c =
    let so = c.legs.invariant in
    let size = so.0 in
    let low = c.legs-test.true in
    let bound = c.requires in
    let inside : c.legs.leg < length c.legs.numbers = omega (arith, size, low, bound) in (
      length-set c.legs.numbers c.legs.leg c.in_ok-number.number ∙ so.0,
      so.1,
      numbers-more c.legs.leg c.args.count c.legs.next c.in_ok-number.number c.in_ok-number.after
          c.args.said.now c.legs.numbers inside so.2 so.3 c.in_ok-number.ensures.own
          c.in_ok-number.ensures.left,
      below-more c.legs.leg c.args.count c.legs.next c.in_ok-number.number c.in_ok-number.after
          c.args.said.now c.legs.numbers inside so.3 c.in_ok-number.ensures.own
          c.in_ok-number.ensures.left,
    )
