-- The leg that was pushed is that of the next stripe.
use Rattle.std.proofs.Common.{◌≡◌, ℕ, true, not, is_ok, ap, sym, ◌∙◌, add-one}
use Rattle.nm_leg_files.specs.Files.{file_places, leg_place, place_on}
use Rattle.nm_leg_files.proofs.Pushing.{has-one-more, one-row-more}
use Rattle.nm_leg_files.proofs.file_legs.legs_on.Goals as goal

pub loop-stripe-preserved : goal.loop-stripe-preserved
loop-stripe-preserved c =
    let went : is_ok c.push.result ≡ true =
    c.is_err.ensures.negation ∙ ap not c.if-is_err.false in
    let pushed = has-one-more (is_ok c.push.result) c.loop-stripe.legs.items
    c.push.new.self.items _ went c.push.ensures.items in
    let stripe = c.loop-stripe.stripe in
    let shape = c.args.shape.now in
    let file = c.args.file.now in
    one-row-more c.loop-stripe.legs.items c.push.new.self.items _
    (λ leg. leg_place leg.medium leg.stripe leg.shape)
    (file_places stripe shape file) (place_on stripe shape file) pushed c.loop-stripe.invariant c.in-Ok.ensures
    ∙ sym (ap (λ (n : ℕ). file_places n shape file) (add-one stripe))
