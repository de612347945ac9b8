-- The rule of the channel holds always.
use Rattle.nm_workers.proofs.permits.PermitSender.send.Goals as goal

pub send_as-requires-clause-rule : goal.send_as-requires-clause-rule
send_as-requires-clause-rule g c = (λ waiting passes room holds at. (tt, tt, tt), λ waiting passes holds at. tt)
