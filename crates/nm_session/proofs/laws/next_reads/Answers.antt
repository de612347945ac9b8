use Rattle.nm_session.proofs.ReadEvents.{next_reads, next_reads_on}
use Rattle.nm_session.proofs.laws.next_reads.Goals as goal

pub returns : goal.returns
returns c = record { answers = next_reads; refuses = next_reads_on }
