-- A write that owes the leg, and one leg alone.
use Rattle.std.proofs.Common.{rules, ◌∙◌, ap, ◌==◌, ℕ}
use Rattle.nm_store.proofs.LosingLemmas.{owes-only}
use Rattle.nm_store.proofs.losing.owes_only.Goals as goal

pub returns-then-owes : goal.returns-then-owes
returns-then-owes c =
    let only = owes-only c.args.leg c.args.record.now (search rules) in
    ap (λ (n : ℕ). n == 1) c.owed_count.ensures.count ∙ only
