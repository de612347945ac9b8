-- What has begun keeps its block, and what it puts there, until it lands.
use Rattle.nm_replay.specs.Array.{put_of}
use Rattle.nm_replay.specs.Events.{BeginsRead, BeginsWrite, Lands, entry_of_read, entry_of_write}
use Rattle.nm_replay.proofs.WriteStages.{write-between, write-begins, write-lands, write-keeps_put}
use Rattle.nm_replay.proofs.ReadStages.{read-between, read-begins, read-lands, read-keeps_block}
use Rattle.nm_replay.proofs.laws.lands_as_it_began.Goals as goal

pub returns-clause-write : goal.returns-clause-write
returns-clause-write c from to ticket number block other put span bytes earlier between later x =
    let two = write-between ticket (from.writes ticket) (to.writes ticket) earlier between later (BeginsWrite ticket block put) (Lands (entry_of_write number ticket other span bytes)) (x.each_write ticket) in
    let opens = write-begins ticket block put two.before two.after two.opens in
    let closes = write-lands number ticket other span bytes two.found two.end two.closes in
    write-keeps_put ticket block other put (put_of span bytes) two.after two.found between two.lives opens.1 closes.0

pub returns-clause-read : goal.returns-clause-read
returns-clause-read c from to number block other bytes earlier between later x =
    let two = read-between number (from.reads number) (to.reads number) earlier between later (BeginsRead number block) (Lands (entry_of_read number other bytes)) (x.each_read number) in
    let opens = read-begins number block two.before two.after two.opens in
    let closes = read-lands number other bytes two.found two.end two.closes in
    read-keeps_block number block other two.after two.found between two.lives opens.1 closes.0
