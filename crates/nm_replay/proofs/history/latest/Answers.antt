use Rattle.std.proofs.Common.{◌≡◌, ◌-◌, ◌+◌, sym, subst, arith, drop}
use Rattle.std.specs.Prelude.{None}
use Rattle.nm_replay.specs.History.{last_on}
use Rattle.nm_replay.proofs.LastOn.{last_on-found}
use Rattle.nm_replay.proofs.history.latest.Goals as goal

pub returns-then-entry-block : goal.returns-then-entry-block
returns-then-entry-block c =
    let same : c.loop-end.end ≡ c.loop-end.end - 1 + 1 = omega arith in
    let none = subst (λ n. last_on c.args.block (drop n c.args.entries.now) ≡ None) same c.loop-end.invariant.1 in
    sym (last_on-found c.args.block (c.loop-end.end - 1) c.args.entries.now _ (omega arith) none c.if-entry-block.true)
