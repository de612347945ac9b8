-- Each step that synced a leg, or found it out, is one of a stripe's flush.
use Rattle.nm_lanes.proofs.SyncLemmas.{flush-in-stripe}
use Rattle.nm_lanes.proofs.laws.flushes_are_a_stripes.Goals as goal

pub returns : goal.returns
returns g c = λ legs stripe list all. flush-in-stripe legs stripe list all
