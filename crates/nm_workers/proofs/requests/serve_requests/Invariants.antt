-- So far the session went on.
use Rattle.nm_mailbox.specs.Ends.{received_by, IsSameInbox}
use Rattle.nm_workers.specs.Results.{IsNoted}
use Rattle.nm_workers.specs.Moving.{state_of, Moves, IsKnown}
use Rattle.nm_workers.specs.Reading.{reader_of}
use Rattle.nm_workers.specs.Reading.{ReadsFurther}
use Rattle.nm_workers.proofs.requests.serve_requests.Given as goal

abbrev pub invariant-rounds : goal.invariant-rounds
invariant-rounds g l = record {
  moves : Moves (IsNoted g.T.Target g.T.Log.SessionLog g.E.Extent.session)
      (state_of g.O.Write.contents l.fn.owner) (state_of g.O.Write.contents l.owner);
  known : IsKnown l.state (received_by l.owner.inbox);
  channel : IsSameInbox l.owner.inbox l.fn.owner.inbox;
  reads : ReadsFurther g.I.Read.remaining l.fn.reader (reader_of l.by);
}
