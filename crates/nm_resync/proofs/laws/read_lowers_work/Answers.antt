-- The chunk has as many blocks more as were read.
use Rattle.nm_resync.proofs.BytesLemmas.{read-lowers}
use Rattle.nm_resync.proofs.laws.read_lowers_work.Goals as goal

pub returns-clause-work : goal.returns-clause-work
returns-clause-work c from_cursor count b is within reads room = read-lowers from_cursor count b.most b.rest b.chunk is.chunk within reads room
