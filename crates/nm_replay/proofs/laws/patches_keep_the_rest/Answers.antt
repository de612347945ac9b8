-- A patch's entry fits what the entries before it leave, which is the last bytes on each block.
use Rattle.nm_replay.proofs.Ordering.{patch-keeps_rest}
use Rattle.nm_replay.proofs.laws.patches_keep_the_rest.Goals as goal

pub returns : goal.returns
returns c = λ from to number ticket block start len bytes earlier later x. patch-keeps_rest from to number ticket block start len bytes earlier later x
