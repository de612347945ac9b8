-- The limit that was pushed is that of the next file.
use Rattle.std.proofs.Common.{arith, ◌<◌, length}
use Rattle.nm_leg_files.specs.Limits.{calls_in, calls_of}
use Rattle.nm_leg_files.proofs.Pushing.{one-made-more}
use Rattle.nm_leg_files.proofs.leg_files.LegFiles.limits.Goals as goal

pub loop-file-preserved : goal.loop-file-preserved
loop-file-preserved c =
    let inside : c.loop-file.file-index < length c.args.self.now.files.items = omega arith in
    one-made-more c.loop-file.limits.items c.push.new.self.items _ calls_in calls_of
    c.args.self.now.files.items _ c.loop-file.file-index c.in_ok-push.ensures.items inside
    c.loop-file.invariant (rw c.deref-file-items.ensures.value at c.file-item.is)
    (rw (c.limit.ensures, c.file.ensures, c.deref.ensures) at c.in_ok-share_limit.ensures)
