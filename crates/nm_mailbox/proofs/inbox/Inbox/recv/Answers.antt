use Rattle.std.proofs.Common.{rules}
use Rattle.nm_mailbox.proofs.Rules.{gets}
use Rattle.nm_mailbox.proofs.inbox.Inbox.recv.Goals as goal

pub recv_as-requires-clause-rule : goal.recv_as-requires-clause-rule
recv_as-requires-clause-rule g c = (gets _ _ (search rules), λ waiting logs holds at. tt)
