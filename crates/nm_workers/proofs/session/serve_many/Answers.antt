-- What goes out is told by the law so far.
use Rattle.nm_replies.specs.Sending.{device_of}
use Rattle.nm_session.specs.declared.serve_fault.ServeFault.TheVariants as fault
use Rattle.nm_session.specs.Session.{session_of, so_many}
use Rattle.nm_workers.specs.Results.{IsNoted}
use Rattle.nm_workers.specs.Serving.{io, left}
use Rattle.nm_workers.proofs.Owning.{whole_at}
use Rattle.nm_workers.proofs.WholeSessions.{breaks_at_once, broken}
use Rattle.nm_workers.proofs.session.serve_many.Goals as goal

pub returns-in_default-clause-err : goal.returns-in_default-clause-err
returns-in_default-clause-err g c =
    let output = g.O.Write.contents (device_of c.args.sender) in
    broken c.so_far.ensures c.args.export (io (g.I.Read.remaining c.args.reader) output c.args.backend.log)
    (left output c.args.backend.log) fault.Memory
    (breaks_at_once (session_of c.args.export (so_many 16)) (g.I.Read.remaining c.args.reader) output c.args.backend.log)

pub returns-clause-ok : goal.returns-clause-ok
returns-clause-ok g c =
    (whole_at (IsNoted g.T.Target g.T.Log.SessionLog (g.T.Log.SessionLog.session c.args.backend.log)) c.so_far.ensures
    c.serve_core.result.result c.args.export c.in-Ok.core
    (io (g.I.Read.remaining c.args.reader) (g.O.Write.contents (device_of c.args.sender)) c.args.backend.log)
    (left (g.O.Write.contents (device_of c.serve_core.result.sender)) c.serve_core.result.log)
    c.in-Ok.ensures.ok c.serve_core.ensures.ends).0

pub returns-clause-err : goal.returns-clause-err
returns-clause-err g c =
    (whole_at (IsNoted g.T.Target g.T.Log.SessionLog (g.T.Log.SessionLog.session c.args.backend.log)) c.so_far.ensures
    c.serve_core.result.result c.args.export c.in-Ok.core
    (io (g.I.Read.remaining c.args.reader) (g.O.Write.contents (device_of c.args.sender)) c.args.backend.log)
    (left (g.O.Write.contents (device_of c.serve_core.result.sender)) c.serve_core.result.log)
    c.in-Ok.ensures.ok c.serve_core.ensures.ends).1
