-- The rule of the channel holds always.
use Rattle.nm_workers.proofs.permits.permit_channel.Goals as goal

pub bounded_with-requires-clause-rule : goal.bounded_with-requires-clause-rule
bounded_with-requires-clause-rule c = tt

pub another-receiving-requires-clause-rule : goal.another-receiving-requires-clause-rule
another-receiving-requires-clause-rule c = λ waiting passes holds at. tt
