use Rattle.std.proofs.Common.{rules, ◌≡◌, [], ◌∷◌, sym, ◌∙◌}
use Rattle.std.proofs.lemmas.List.Elements.{All-append}
use Rattle.nm_mailbox.specs.Ends.{outcomes_by}
use Rattle.crossbeam_channel.specs.Ends.{sends_on, receives_on}
use Rattle.nm_mailbox.proofs.Rules.{begins, forks}
use Rattle.nm_mailbox.proofs.opening.mailbox.Goals as goal

pub bounded_with-requires-clause-rule : goal.bounded_with-requires-clause-rule
bounded_with-requires-clause-rule g c = begins

pub another-receiving-requires-clause-rule : goal.another-receiving-requires-clause-rule
another-receiving-requires-clause-rule g c = forks _ _ (search rules) (search rules)

pub loop-preserved : goal.loop-preserved
loop-preserved g c = let inv = c.loop.invariant in let end = c.in_ok-outcome_end.field-0 in let from = c.in_ok-sender.receiver in (
  inv.0 ∙ sym c.in_ok-outcome_end.ensures.channel,
  c.in_ok-outcome_end.ensures.pieces ∙ inv.1,
  rw c.in_ok-push.ensures.items (All-append (λ e. receives_on from ≡ sends_on e.sender) _ (end ∷ []) inv.2 (search rules)),
  rw c.in_ok-push.ensures.items (All-append (λ e. outcomes_by e ≡ []) _ (end ∷ []) inv.3 (search rules)),
  search rules,
)
