-- A session is its haggling and then its requests.
use Rattle.std.proofs.Common.{None}
use Rattle.nm_replies.specs.Sending.{device_of}
use Rattle.nm_workers.specs.Serving.{io, left, Negotiates}
use Rattle.nm_workers.proofs.Owning.{sizes_stay}
use Rattle.nm_workers.specs.Results.{moment, no_note}
use Rattle.nm_workers.proofs.ResultRuns.{runs_of}
use Rattle.nm_workers.proofs.WholeSessions.{breaks_at_once, ends_or_breaks_on, haggled, haggled_ends, haggled_breaks}
use Rattle.nm_workers.proofs.session.serve_core.Goals as goal

pub returns-in_default : goal.returns-in_default
returns-in_default g c = record {
  ends = breaks_at_once c.args.core (g.I.Read.remaining c.args.reader) (g.O.Write.contents (device_of c.args.sender))
      c.args.backend.log;
}

pub transmit-requires-clause-size : goal.transmit-requires-clause-size
transmit-requires-clause-size g c κs within =
    let greets : Negotiates None c.args.core c.negotiate.new.core
    (io (g.I.Read.remaining c.args.reader) (g.O.Write.contents (device_of c.args.sender)) tt)
    (io (g.I.Read.remaining c.negotiate.new.reader) (g.O.Write.contents (device_of c.negotiate.new.sender)) tt) =
    rw c.in-Ok-None.field-0-is at c.in-Ok-None.ensures.ok in
    sizes_stay g.T.Target.size c.args.core c.negotiate.new.core greets.0.events c.args.backend.targets.items
    (runs_of no_note (moment c.args.core tt) (moment c.negotiate.new.core tt) greets.0.events greets.0.runs)
    c.requires.size

pub returns-in-Ok-None : goal.returns-in-Ok-None
returns-in-Ok-None g c =
    let input = g.I.Read.remaining c.args.reader in
    let output = g.O.Write.contents (device_of c.args.sender) in
    let rest = g.I.Read.remaining c.negotiate.new.reader in
    let sent = g.O.Write.contents (device_of c.negotiate.new.sender) in
    let log = c.args.backend.log in
    let greets : Negotiates None c.args.core c.negotiate.new.core (io input output tt) (io rest sent tt) =
    rw c.in-Ok-None.field-0-is at c.in-Ok-None.ensures.ok in
    record {
      ends = ends_or_breaks_on c.transmit.result.result c.args.core c.negotiate.new.core (io input output log)
          (io rest sent log) (left (g.O.Write.contents (device_of c.transmit.result.sender)) c.transmit.result.log)
          (haggled c.args.core (io input output tt) log c.negotiate.new.core (io rest sent tt) greets.0)
          c.transmit.ensures.ends;
    }

pub returns-in-Ok-Some : goal.returns-in-Ok-Some
returns-in-Ok-Some g c = record {
  ends = haggled_ends c.args.core _ c.args.backend.log c.in-Ok-Some.served _
      (rw c.in-Ok-Some.field-0-is at c.in-Ok-Some.ensures.ok);
}

pub returns-in-Err : goal.returns-in-Err
returns-in-Err g c = record {
  ends = haggled_breaks c.args.core _ c.args.backend.log c.in-Err.fault _ c.in-Err.ensures.err;
}
