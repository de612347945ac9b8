-- The rule of the channel holds always.
use Rattle.nm_workers.proofs.permits.PermitReceiver.recv.Goals as goal

pub recv_as-requires-clause-rule : goal.recv_as-requires-clause-rule
recv_as-requires-clause-rule g c = (λ leave waiting passes holds at. (tt, tt, tt), λ waiting passes holds at. tt)
