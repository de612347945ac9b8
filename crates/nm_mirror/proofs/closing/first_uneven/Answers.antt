-- The locks keep their numbers.
use Rattle.std.proofs.Common.{◌∙◌, rules}
use Rattle.nm_mirror.proofs.NumberLemmas.{kept-number}
use Rattle.nm_mirror.proofs.closing.first_uneven.Goals as goal

pub returns-then-not-is_even-clause-numbers : goal.returns-then-not-is_even-clause-numbers
returns-then-not-is_even-clause-numbers g c =
    kept-number (λ lock. lock.number) c.loop-stripe.locks c.loop-stripe.stripe c.end-end.new.self c.index-locks-stripe.result c.end-end.ensures ∙ c.loop-stripe.invariant.1

pub loop-stripe-preserved : goal.loop-stripe-preserved
loop-stripe-preserved g c = (
  search rules,
  kept-number (λ lock. lock.number) c.loop-stripe.locks c.loop-stripe.stripe c.end-end.new.self c.index-locks-stripe.result c.end-end.ensures ∙ c.loop-stripe.invariant.1,
)
