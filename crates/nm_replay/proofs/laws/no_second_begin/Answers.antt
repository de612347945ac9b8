-- An operation that has begun does not become one that has not.
use Rattle.std.proofs.Common.{ap, arith}
use Rattle.nm_replay.specs.Events.{BeginsRead, BeginsWrite}
use Rattle.nm_replay.proofs.WriteStages.{write_stage, write-forward, write-between, write-begins}
use Rattle.nm_replay.proofs.ReadStages.{read_stage, read-forward, read-between, read-begins}
use Rattle.nm_replay.proofs.laws.no_second_begin.Goals as goal

pub returns-clause-write : goal.returns-clause-write
returns-clause-write c ticket block other put others earlier between later from to x =
    let two = write-between ticket (from.writes ticket) (to.writes ticket) earlier between later (BeginsWrite ticket block put) (BeginsWrite ticket other others) (x.each_write ticket) in
    let opens = write-begins ticket block put two.before two.after two.opens in
    let closes = write-begins ticket other others two.found two.end two.closes in
    omega (arith, write-forward ticket two.after two.found between two.lives, ap (λ w. write_stage w) opens.1, ap (λ w. write_stage w) closes.0)

pub returns-clause-read : goal.returns-clause-read
returns-clause-read c number block other earlier between later from to x =
    let two = read-between number (from.reads number) (to.reads number) earlier between later (BeginsRead number block) (BeginsRead number other) (x.each_read number) in
    let opens = read-begins number block two.before two.after two.opens in
    let closes = read-begins number other two.found two.end two.closes in
    omega (arith, read-forward number two.after two.found between two.lives, ap (λ r. read_stage r) opens.1, ap (λ r. read_stage r) closes.0)
