-- What has landed keeps its number or its bytes until it is replied to.
use Rattle.nm_replay.specs.Events.{Lands, RepliesRead, RepliesWrite, entry_of_read, entry_of_write}
use Rattle.nm_replay.proofs.WriteStages.{write-between, write-lands, write-replies, write-keeps_number}
use Rattle.nm_replay.proofs.ReadStages.{read-between, read-lands, read-replies, read-keeps_bytes}
use Rattle.nm_replay.proofs.laws.replied_with_its_entry.Goals as goal

pub returns-clause-write : goal.returns-clause-write
returns-clause-write c from to ticket number other block span bytes earlier between later x =
    let two = write-between ticket (from.writes ticket) (to.writes ticket) earlier between later (Lands (entry_of_write number ticket block span bytes)) (RepliesWrite ticket other) (x.each_write ticket) in
    let opens = write-lands number ticket block span bytes two.before two.after two.opens in
    let closes = write-replies ticket other two.found two.end two.closes in
    write-keeps_number ticket number other two.after two.found between two.lives opens.1 closes.0

pub returns-clause-read : goal.returns-clause-read
returns-clause-read c from to number block bytes others earlier between later x =
    let two = read-between number (from.reads number) (to.reads number) earlier between later (Lands (entry_of_read number block bytes)) (RepliesRead number others) (x.each_read number) in
    let opens = read-lands number block bytes two.before two.after two.opens in
    let closes = read-replies number others two.found two.end two.closes in
    read-keeps_bytes number bytes others two.after two.found between two.lives opens.1 closes.0
