-- An operation that was replied to does not become one that waits for its reply.
use Rattle.std.proofs.Common.{ap, arith}
use Rattle.nm_replay.specs.Events.{RepliesRead, RepliesWrite}
use Rattle.nm_replay.proofs.WriteStages.{write_stage, write-forward, write-between, write-replies}
use Rattle.nm_replay.proofs.ReadStages.{read_stage, read-forward, read-between, read-replies}
use Rattle.nm_replay.proofs.laws.no_second_reply.Goals as goal

pub returns-clause-write : goal.returns-clause-write
returns-clause-write c ticket number again earlier between later from to x =
    let two = write-between ticket (from.writes ticket) (to.writes ticket) earlier between later (RepliesWrite ticket number) (RepliesWrite ticket again) (x.each_write ticket) in
    let opens = write-replies ticket number two.before two.after two.opens in
    let closes = write-replies ticket again two.found two.end two.closes in
    omega (arith, write-forward ticket two.after two.found between two.lives, ap (λ w. write_stage w) opens.1, ap (λ w. write_stage w) closes.0)

pub returns-clause-read : goal.returns-clause-read
returns-clause-read c number bytes others earlier between later from to x =
    let two = read-between number (from.reads number) (to.reads number) earlier between later (RepliesRead number bytes) (RepliesRead number others) (x.each_read number) in
    let opens = read-replies number bytes two.before two.after two.opens in
    let closes = read-replies number others two.found two.end two.closes in
    omega (arith, read-forward number two.after two.found between two.lives, ap (λ r. read_stage r) opens.1, ap (λ r. read_stage r) closes.0)
