-- The header is there, and fewer bytes after it than it says.
use Rattle.std.proofs.Common.{arith}
use Rattle.nm_requests.proofs.FirstRequest.{unfinished_from_payload}
use Rattle.nm_requests.proofs.cutting.whole_head.Goals as goal

pub returns-then-len-length-clause-none : goal.returns-then-len-length-clause-none
returns-then-len-length-clause-none c =
    unfinished_from_payload c.args.index c.args.buffer.now.items c.in-Ok.head c.in-Ok.ensures.ok
    c.in-Ok.ensures.fits (omega arith) (omega arith) (omega arith)
