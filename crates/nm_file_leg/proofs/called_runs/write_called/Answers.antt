-- One call more writes on to the end of its region.
use Rattle.std.proofs.Common.{rules, ◌≡◌, ◌+◌, ◌-◌, arith}
use Rattle.nm_file_leg.proofs.StepLemmas.{one-call}
use Rattle.nm_file_leg.proofs.CalledLemmas.{wrote-step}
use Rattle.nm_file_leg.proofs.called_runs.write_called.Goals as goal

pub loop-done-preserved : goal.loop-done-preserved
loop-done-preserved g c =
    let p = c.args.shape.now in
    let done = c.loop-done.done in
    let many = c.bytes_in_region-many.result in
    let xs = c.args.bytes.now in
    let so_far = c.loop-done.invariant in
    let call = one-call c.args.at done many p.region xs c.requires.shape.some_region c.loop-done-test.true so_far.whole c.requires.run.whole c.bytes_in_region-many.ensures in
    let span : done + many - done ≡ many = omega arith in
    let placed = rw c.first_byte-first.ensures at c.write_stretch.ensures in
    let wrote = rw span at placed in
    record {
      most = call.fits;
      whole = omega (arith, call.blocks, so_far.whole);
      wrote = wrote-step _ c.args.stripe p c.args.at done many so_far.whole call.blocks call.short xs call.fits so_far.wrote (wrote (search rules));
    }
