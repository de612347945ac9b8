-- So far the client and the server haggled.
use Rattle.std.proofs.Common.{◌≡◌, []}
use Rattle.nm_replies.specs.Sending.{device_of}
use Rattle.nm_workers.specs.Results.{no_note}
use Rattle.nm_workers.specs.Serving.{io, Goes}
use Rattle.nm_workers.proofs.negotiation.negotiate.Given as goal

abbrev pub invariant-pieces : goal.invariant-pieces
invariant-pieces g l = record {
  goes : Goes no_note l.fn.core l.core
      (io (g.I.Read.remaining l.fn.reader) (g.O.Write.contents (device_of l.fn.sender)) tt)
      (io (g.I.Read.remaining l.reader) (g.O.Write.contents (device_of l.sender)) tt);
  idle : l.core.outstanding ≡ [];
}
