-- No log is opened yet.
use Rattle.nm_server.proofs.run.run.Given as goal

abbrev pub ghosts-open_and_serve : goal.ghosts-open_and_serve
ghosts-open_and_serve g a = record { table = a.log.table.shared.table_id }
