-- What the bytes begin with stays when more follow.
use Rattle.nm_requests.proofs.Streams.{stream_goes_on as goes_on, fault_stays}
use Rattle.nm_requests.proofs.laws.stream_goes_on.Goals as goal

pub returns-clause-later : goal.returns-clause-later
returns-clause-later c text more messages others end other a b =
    goes_on 0 text more messages others end other a b

pub returns-clause-stopped : goal.returns-clause-stopped
returns-clause-stopped c text more messages fault stream =
    fault_stays 0 text more messages fault stream
