-- What is replied to has landed, and what had not begun lands only after it began.
use Rattle.nm_replay.proofs.WriteStages.{write-effect}
use Rattle.nm_replay.proofs.ReadStages.{read-effect}
use Rattle.nm_replay.proofs.laws.replied_after_its_entry.Goals as goal

pub returns-clause-write : goal.returns-clause-write
returns-clause-write c ticket number earlier later x = write-effect ticket number (x.from.writes ticket) (x.to.writes ticket) earlier later x.not_begun (x.explained.each_write ticket)

pub returns-clause-read : goal.returns-clause-read
returns-clause-read c number bytes earlier later x = read-effect number bytes (x.from.reads number) (x.to.reads number) earlier later x.not_begun (x.explained.each_read number)
