-- The record at a place is that of a run.
use Rattle.nm_fanout.proofs.RunOrder.{run-at}
use Rattle.nm_store.proofs.landing.land_run.Goals as goal

pub keep_entries-requires-clause-run : goal.keep_entries-requires-clause-run
keep_entries-requires-clause-run c = run-at c.args.records.now c.args.place c.at.result.now c.at.ensures.in_order.runs c.at.ensures.found
