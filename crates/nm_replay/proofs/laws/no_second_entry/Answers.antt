-- An operation that has landed does not become one that is still to land.
use Rattle.std.proofs.Common.{ap, arith}
use Rattle.nm_replay.specs.Events.{Lands, entry_of_read, entry_of_write}
use Rattle.nm_replay.proofs.WriteStages.{write_stage, write-forward, write-between, write-lands}
use Rattle.nm_replay.proofs.ReadStages.{read_stage, read-forward, read-between, read-lands}
use Rattle.nm_replay.proofs.laws.no_second_entry.Goals as goal

pub returns-clause-write : goal.returns-clause-write
returns-clause-write c ticket number again block other span spans bytes others earlier between later from to x =
    let two = write-between ticket (from.writes ticket) (to.writes ticket) earlier between later (Lands (entry_of_write number ticket block span bytes)) (Lands (entry_of_write again ticket other spans others)) (x.each_write ticket) in
    let opens = write-lands number ticket block span bytes two.before two.after two.opens in
    let closes = write-lands again ticket other spans others two.found two.end two.closes in
    omega (arith, write-forward ticket two.after two.found between two.lives, ap (λ w. write_stage w) opens.1, ap (λ w. write_stage w) closes.0)

pub returns-clause-read : goal.returns-clause-read
returns-clause-read c number block other bytes others earlier between later from to x =
    let two = read-between number (from.reads number) (to.reads number) earlier between later (Lands (entry_of_read number block bytes)) (Lands (entry_of_read number other others)) (x.each_read number) in
    let opens = read-lands number block bytes two.before two.after two.opens in
    let closes = read-lands number other others two.found two.end two.closes in
    omega (arith, read-forward number two.after two.found between two.lives, ap (λ r. read_stage r) opens.1, ap (λ r. read_stage r) closes.0)
