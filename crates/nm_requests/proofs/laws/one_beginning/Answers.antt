-- By cases of the end: the bytes determine the header.
use Rattle.nm_requests.proofs.Streams.{request_is_no_end, one_end}
use Rattle.nm_requests.proofs.laws.one_beginning.Goals as goal

pub returns-clause-request : goal.returns-clause-request
returns-clause-request c before bytes after message end starts ends =
    request_is_no_end before bytes after message end starts ends

pub returns-clause-end : goal.returns-clause-end
returns-clause-end c before bytes end other a b = one_end before bytes end other a b
