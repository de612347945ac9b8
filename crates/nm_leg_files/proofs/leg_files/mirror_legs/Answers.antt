-- The list that was pushed is that of the next stripe.
use Rattle.std.proofs.Common.{◌≡◌, ℕ, true, not, is_ok, ap, sym, ◌∙◌, map, add-one}
use Rattle.nm_leg_files.specs.Files.{leg_place, places_of, stripe_places}
use Rattle.nm_leg_files.proofs.Pushing.{has-one-more, one-row-more}
use Rattle.nm_leg_files.proofs.leg_files.mirror_legs.Goals as goal

pub loop-stripe-preserved : goal.loop-stripe-preserved
loop-stripe-preserved c =
    let went : is_ok c.push.result ≡ true =
    c.is_err.ensures.negation ∙ ap not c.if-is_err.false in
    let pushed = has-one-more (is_ok c.push.result) c.loop-stripe.all.items
    c.push.new.self.items _ went c.push.ensures.items in
    let stripe = c.loop-stripe.stripe in
    let shape = c.args.shape.now in
    let files = c.args.files.now in
    one-row-more c.loop-stripe.all.items c.push.new.self.items _
    (λ own. map (λ leg. leg_place leg.medium leg.stripe leg.shape) own.items)
    (places_of stripe shape files) (stripe_places stripe shape files) pushed c.loop-stripe.invariant c.in-Ok.ensures
    ∙ sym (ap (λ (n : ℕ). places_of n shape files) (add-one stripe))
