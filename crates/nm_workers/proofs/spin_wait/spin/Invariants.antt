-- So far no message was taken.
use Rattle.std.proofs.Common.{◌≡◌}
use Rattle.nm_mailbox.specs.Ends.{received_by, IsSameInbox}
use Rattle.nm_workers.proofs.spin_wait.spin.Given as goal

abbrev pub invariant-spins : goal.invariant-spins
invariant-spins g l = record {
  received : received_by l.inbox ≡ received_by l.fn.inbox;
  channel : IsSameInbox l.inbox l.fn.inbox;
}
