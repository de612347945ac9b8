-- The leg that was pushed is of the stripe too.
use Rattle.std.proofs.Common.{◌≡◌, true, not, is_ok, ap, ◌∙◌}
use Rattle.nm_leg_files.specs.Files.{IsOfStripe, leg_place}
use Rattle.nm_leg_files.proofs.PlaceLemmas.{of-stripe, one-longer}
use Rattle.nm_leg_files.proofs.Pushing.{all-more, has-one-more}
use Rattle.nm_leg_files.proofs.leg_maker.LegMakerMakesLegsLeg.make.Goals as goal

pub loop-number-preserved : goal.loop-number-preserved
loop-number-preserved c =
    let went : is_ok c.push.result ≡ true =
    c.is_err.ensures.negation ∙ ap not c.if-is_err.false in
    let leg = c.in-Ok.leg in
    let pushed = has-one-more (is_ok c.push.result) c.loop-number.legs.items
    c.push.new.self.items leg went c.push.ensures.items in (
      one-longer c.loop-number.legs.items c.push.new.self.items leg c.loop-number.number pushed c.loop-number.invariant.0,
      all-more c.loop-number.legs.items c.push.new.self.items leg
          (λ own. IsOfStripe c.args.stripe c.args.self.now.shape (leg_place own.medium own.stripe own.shape))
          pushed c.loop-number.invariant.1
          (of-stripe c.args.stripe c.args.self.now.shape c.deref-in-loop-number.result.now
          (leg_place leg.medium leg.stripe leg.shape) c.in-Ok.ensures),
    )
