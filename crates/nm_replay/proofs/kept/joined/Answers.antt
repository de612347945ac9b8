use Rattle.std.proofs.Common.{[], ◌∷◌, ◌++◌, ap, sym, ◌∙◌}
use Rattle.nm_replay.proofs.Heads.{joined-step}
use Rattle.nm_replay.proofs.kept.joined.Goals as goal

pub loop-place-preserved : goal.loop-place-preserved
loop-place-preserved c =
    c.in_ok-push.ensures.items
    ∙ ap (λ es. es ++ c.entry.result ∷ []) c.loop-place.invariant
    ∙ sym (joined-step c.args.heads.now c.args.bytes.now c.loop-place.place _ c.entry.result c.loop-place-test.true c.entry.ensures)
