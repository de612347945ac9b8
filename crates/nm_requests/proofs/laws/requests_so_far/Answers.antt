-- By induction on the calls: each keeps what was bytes_fed as what was handed out and what is unread.
use Rattle.nm_requests.proofs.Calls.{so_far, requests_out_first, requests_out_all}
use Rattle.nm_requests.proofs.laws.requests_so_far.Goals as goal

pub returns-clause-begins : goal.returns-clause-begins
returns-clause-begins c reader new calls fresh run = (so_far reader calls new fresh run).0

pub returns-clause-count : goal.returns-clause-count
returns-clause-count c reader new calls fresh run = (so_far reader calls new fresh run).1

pub returns-clause-first : goal.returns-clause-first
returns-clause-first c reader new calls messages end fresh run stream =
    requests_out_first reader calls new messages end fresh run stream

pub returns-clause-all : goal.returns-clause-all
returns-clause-all c reader new calls end fresh run ends =
    requests_out_all reader calls new end fresh run ends
