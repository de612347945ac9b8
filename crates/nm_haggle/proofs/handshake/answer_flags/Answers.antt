use Rattle.std.proofs.Common.{◌-◌, length, take, drop, arith}
use Rattle.nm_haggle.proofs.Passings.{slice_is_rest}
use Rattle.nm_haggle.proofs.Flagged.{no_flags_yet, bad_flags, good_flags}
use Rattle.nm_haggle.proofs.handshake.answer_flags.Goals as goal

pub returns-then-text-lt-FLAGS-clause-ok : goal.returns-then-text-lt-FLAGS-clause-ok
returns-then-text-lt-FLAGS-clause-ok c = no_flags_yet c.args.export.now c.args.text.now c.args.out.now.items c.if-text-lt-FLAGS.true

pub returns-then-flags-known-clause-ok : goal.returns-then-flags-known-clause-ok
returns-then-flags-known-clause-ok c =
    bad_flags c.args.export.now c.args.text.now c.args.out.now.items c.get_u32-flags.result c.if-text-lt-FLAGS.false
    c.get_u32-flags.ensures (omega arith) c.if-flags-known.true

pub returns-clause-ok : goal.returns-clause-ok
returns-clause-ok c =
    good_flags c.args.export.now c.args.text.now (take (length c.args.text.now - 4) (drop 4 c.args.text.now)) c.args.out.now.items
    c.answer_options.new.out.items c.get_u32-flags.result c.in_ok-progress.progress c.if-text-lt-FLAGS.false
    c.get_u32-flags.ensures c.if-flags-known.false (slice_is_rest c.args.text.now 4) c.in_ok-progress.ensures.ok
