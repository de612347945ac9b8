-- The place that was pushed is that of the next file.
use Rattle.std.proofs.Common.{arith, ◌<◌, length}
use Rattle.nm_leg_files.proofs.PlaceLemmas.{place-more}
use Rattle.nm_leg_files.proofs.leg_files.LegFiles.places.Goals as goal

pub loop-number-preserved : goal.loop-number-preserved
loop-number-preserved c =
    let files = c.args.self.now in
    let inside : c.loop-number.number < length files.files.items = omega arith in
    place-more files files.files.items c.loop-number.places.items c.push.new.self.items _ _ c.loop-number.number
    c.in_ok-push.ensures.items inside c.loop-number.invariant
    (rw c.deref-file-items.ensures.value at c.file-item.is) c.in_ok-place.ensures
