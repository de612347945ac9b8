use Rattle.std.proofs.Common.{rules}
use Rattle.nm_mailbox.proofs.Rules.{tells}
use Rattle.nm_mailbox.proofs.outcome_end.OutcomeEnd.send.Goals as goal

pub send_as-requires-clause-rule : goal.send_as-requires-clause-rule
send_as-requires-clause-rule g c = (tells _ _ _ _ (search rules), λ waiting logs holds at. tt)
