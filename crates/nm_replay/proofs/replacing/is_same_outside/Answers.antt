use Rattle.std.proofs.Common.{◌≡◌, length, arith}
use Rattle.nm_replay.proofs.Blocks.{same_rest, other_front}
use Rattle.nm_replay.proofs.replacing.is_same_outside.Goals as goal

pub returns-then-eq : goal.returns-then-eq
returns-then-eq c =
    let olds : length c.args.old.now.0 ≡ 512 = omega arith in
    let news : length c.args.new.now.0 ≡ 512 = omega arith in
    record { same = same_rest c.args.from c.args.len c.args.old.now c.args.new.now c.min-from.result c.min-end.result c.eq.result c.eq-then-eq.result olds news c.min-from.ensures c.min-end.ensures c.eq.ensures c.eq-then-eq.ensures c.if-eq.true }

pub returns-else-eq : goal.returns-else-eq
returns-else-eq c =
    let olds : length c.args.old.now.0 ≡ 512 = omega arith in
    let news : length c.args.new.now.0 ≡ 512 = omega arith in
    record { same = other_front c.args.from c.args.len c.args.old.now c.args.new.now c.min-from.result c.eq.result olds news c.min-from.ensures c.eq.ensures c.if-eq.false }
