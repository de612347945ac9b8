use Rattle.std.proofs.Common.{rules}
use Rattle.nm_mailbox.proofs.Rules.{sends}
use Rattle.nm_mailbox.proofs.piece_end.PieceEnd.send.Goals as goal

pub send_as-requires-clause-rule : goal.send_as-requires-clause-rule
send_as-requires-clause-rule g c = (sends _ _ _ _ (search rules), λ waiting logs holds at. tt)
