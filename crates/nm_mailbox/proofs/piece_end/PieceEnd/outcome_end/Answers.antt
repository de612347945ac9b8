use Rattle.nm_mailbox.proofs.Rules.{hires}
use Rattle.nm_mailbox.proofs.piece_end.PieceEnd.outcome_end.Goals as goal

pub another-pass-requires-clause-rule : goal.another-pass-requires-clause-rule
another-pass-requires-clause-rule g c = hires _ _
