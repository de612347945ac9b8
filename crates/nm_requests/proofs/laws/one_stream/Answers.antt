-- Some: what the bytes begin with is read off the first 28. Only: it is read in one way.
use Rattle.nm_requests.proofs.Existence.{some_stream}
use Rattle.nm_requests.proofs.Streams.{one_stream as unique}
use Rattle.nm_requests.proofs.laws.one_stream.Goals as goal

pub returns-clause-some : goal.returns-clause-some
returns-clause-some c text fits = some_stream text fits

pub returns-clause-only : goal.returns-clause-only
returns-clause-only c text messages others end other a b =
    unique 0 text messages others end other a b
