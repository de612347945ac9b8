-- A read's entry fits what the entries before it leave, which is the last bytes on each block.
use Rattle.nm_replay.proofs.Ordering.{read-finds_last}
use Rattle.nm_replay.proofs.laws.reads_find_the_last_bytes.Goals as goal

pub returns : goal.returns
returns c from to number block bytes earlier later x = read-finds_last from to number block bytes earlier later x
