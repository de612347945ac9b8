use Rattle.std.proofs.Common.{◌≡◌, rules, take, length}
use Rattle.nm_commands.proofs.Lines.{other_start}
use Rattle.nm_commands.proofs.control_command.after.Goals as goal

pub returns-else-eq-clause-none : goal.returns-else-eq-clause-none
returns-else-eq-clause-none c none word e =
    let front : c.split_at.result.0.now ≡ take (length c.args.start.now) c.args.line.now = search rules in
    let other : (c.split_at.result.0.now ≡ c.args.start.now → ⊥) = λ same. (search rules) in
    other_start c.args.start.now c.args.line.now word (rw (← front) other) e
