-- The targets have the bytes of the export, and the log is the session's.
use Rattle.nm_wire.specs.Export.{size_of}
use Rattle.nm_workers.proofs.session.transmit.Given as goal

abbrev pub ghosts-start_session : goal.ghosts-start_session
ghosts-start_session g a = record {
  bytes = size_of a.core.haggling.export;
  session = g.T.Log.SessionLog.session a.backend.log;
}
