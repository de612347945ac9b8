use Rattle.std.proofs.Common.{rules}
use Rattle.nm_mailbox.proofs.Rules.{merges, totals}
use Rattle.nm_mailbox.proofs.piece_end.PieceEnd.settle.Goals as goal

pub absorb-requires-clause-rule : goal.absorb-requires-clause-rule
absorb-requires-clause-rule g c = merges _ _ _ _ (search rules) (search rules)

pub learn_as-requires-clause-rule : goal.learn_as-requires-clause-rule
learn_as-requires-clause-rule g c = totals _ _ (search rules) (search rules)
