use Rattle.std.proofs.Common.{min, length, ap, sym, ◌∙◌}
use Rattle.nm_replay.proofs.Heads.{length-joined}
use Rattle.nm_replay.proofs.kept.Kept.total.Goals as goal

pub returns-clause-kept : goal.returns-clause-kept
returns-clause-kept c =
    ap (λ k. length k.last.entries) (sym c.self.view_is) ∙ length-joined c.self.inside.heads.items c.self.inside.bytes.items
    ∙ c.self.invariant.1 ∙ ap (λ k. min k.last.most k.total) c.self.view_is
