use Rattle.std.proofs.Common.{◌≡◌, cond}
use Rattle.nm_regions.proofs.Linking.{linked-new}
use Rattle.nm_regions.proofs.leg_flags.LegFlags.new.Goals as goal
use Rattle.nm_regions.proofs.leg_flags.LegFlags.new.Goals.{then-in_sync, else-in_sync}

pub invariant_of-leg : goal.invariant_of-leg
invariant_of-leg c =
    let counted : c.if-in_sync.leg ≡ cond c.args.in_sync 0 c.args.regions =
    elim c.if-in_sync.branch [
      | then-in_sync w ↦ rw w.if-in_sync.true w.leg-is
      | else-in_sync w ↦ rw w.if-in_sync.false w.leg-is
    ] in
    rw (c.in_ok-behind.ensures, counted) (linked-new c.args.regions 0 c.in_ok-next.next.items
    c.args.in_sync c.requires.few c.in_ok-next.ensures)
