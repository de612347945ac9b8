use Rattle.std.proofs.Common.{rules}
use Rattle.nm_mailbox.proofs.Rules.{gets}
use Rattle.nm_mailbox.proofs.inbox.Inbox.try_recv.Goals as goal

pub try_recv_as-requires-clause-rule : goal.try_recv_as-requires-clause-rule
try_recv_as-requires-clause-rule g c = (gets _ _ (search rules), λ waiting logs holds at. tt)
