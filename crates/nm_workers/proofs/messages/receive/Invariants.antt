-- So far messages were taken.
use Rattle.std.proofs.Common.{ℕ, List, Option}
use Rattle.nm_mailbox.specs.Ends.{received_by, IsSameInbox}
use Rattle.nm_workers.specs.Results.{IsNoted, moment}
use Rattle.nm_workers.specs.Moving.{owner_state, Moves, IsKnown}
use Rattle.nm_workers.proofs.messages.receive.Given as goal

abbrev pub invariant-messages : goal.invariant-messages
invariant-messages g l = record {
  moves : (output : Option (List ℕ))
      → Moves (IsNoted g.T.Target g.T.Log.SessionLog g.E.Extent.session)
      (owner_state (moment l.fn.core l.fn.log) (received_by l.fn.inbox) output)
      (owner_state (moment l.core l.log) (received_by l.inbox) output);
  known : IsKnown l.state (received_by l.inbox);
  channel : IsSameInbox l.inbox l.fn.inbox;
}
