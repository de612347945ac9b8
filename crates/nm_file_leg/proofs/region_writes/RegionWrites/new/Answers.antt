-- All regions are of the first period.
use Rattle.std.proofs.Common.{refl}
use Rattle.nm_file_leg.proofs.RememberedLemmas.{begins}
use Rattle.nm_file_leg.proofs.region_writes.RegionWrites.new.Goals as goal

pub returns : goal.returns
returns c = rw (c.in_ok-written_in.ensures, c.in_ok-rewritten_below.ensures) (begins c.args.region c.args.blocks _ refl)
