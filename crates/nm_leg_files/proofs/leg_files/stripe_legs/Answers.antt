-- The leg that was pushed stands on the next file.
use Rattle.std.proofs.Common.{arith, ◌≡◌, ◌<◌, length, true, not, is_ok, ap, ◌∙◌}
use Rattle.nm_leg_files.specs.Files.{leg_place, place_on}
use Rattle.nm_leg_files.proofs.Pushing.{has-one-more, one-made-more}
use Rattle.nm_leg_files.proofs.leg_files.stripe_legs.Goals as goal

pub loop-number-preserved : goal.loop-number-preserved
loop-number-preserved c =
    let went : is_ok c.push.result ≡ true =
    c.is_err.ensures.negation ∙ ap not c.if-is_err.false in
    let pushed = has-one-more (is_ok c.push.result) c.loop-number.legs.items
    c.push.new.self.items _ went c.push.ensures.items in
    let inside : c.loop-number.number < length c.args.files.now.files.items = omega arith in
    one-made-more c.loop-number.legs.items c.push.new.self.items _
    (λ leg. leg_place leg.medium leg.stripe leg.shape) (place_on c.args.stripe c.args.shape.now)
    c.args.files.now.files.items _ c.loop-number.number pushed inside c.loop-number.invariant
    (rw c.deref-file-items.ensures.value at c.file-item.is) c.in-Ok.ensures
