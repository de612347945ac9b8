-- The header of the request that more bytes complete is the one that they begin with.
use Rattle.std.proofs.Common.{drop, arith}
use Rattle.nm_requests.proofs.FirstRequest.{missing_from_head, head_from_more}
use Rattle.nm_requests.proofs.cutting.missing_len.Goals as goal

pub returns-in_default-clause-missing : goal.returns-in_default-clause-missing
returns-in_default-clause-missing c message more long starts =
    absurd (c.in_default.not-Ok message.head (c.first_head.ensures.reads_back message.head
    (drop 28 c.args.buffer.now.items) starts.valid.fits
    (head_from_more 0 c.args.buffer.now.items more message _ long starts)))

pub returns-then-length-gt-MAX_PAYLOAD-clause-missing :
    goal.returns-then-length-gt-MAX_PAYLOAD-clause-missing
returns-then-length-gt-MAX_PAYLOAD-clause-missing c message more long starts =
    let found = missing_from_head 0 c.args.buffer.now.items more message c.in-Ok.head c.in-Ok.ensures.ok
    c.in-Ok.ensures.fits starts in
    absurd (omega (arith, found.1))

pub returns-clause-missing : goal.returns-clause-missing
returns-clause-missing c message more long starts =
    let found = missing_from_head 0 c.args.buffer.now.items more message c.in-Ok.head c.in-Ok.ensures.ok
    c.in-Ok.ensures.fits starts in
    omega (arith, found.0, found.1)
