-- What lands has begun, and what had not begun at first began among the events.
use Rattle.nm_replay.proofs.WriteStages.{write-begin}
use Rattle.nm_replay.proofs.ReadStages.{read-begin}
use Rattle.nm_replay.proofs.laws.lands_after_its_begin.Goals as goal

pub returns-clause-write : goal.returns-clause-write
returns-clause-write c ticket number block span bytes earlier later x =
    let begun = write-begin ticket number block span bytes (x.from.writes ticket) (x.to.writes ticket) earlier later x.not_begun (x.explained.each_write ticket) in
    (begun.before, begun.following, begun.split)

pub returns-clause-read : goal.returns-clause-read
returns-clause-read c number block bytes earlier later x =
    let begun = read-begin number block bytes (x.from.reads number) (x.to.reads number) earlier later x.not_begun (x.explained.each_read number) in
    (begun.before, begun.following, begun.split)
