use Rattle.std.proofs.Common.{◌/◌, length, ap, ◌∙◌}
use Rattle.nm_replay.specs.Kept.{kept_with}
use Rattle.nm_fanout.proofs.KeepLemmas.{writes-run}
use Rattle.nm_fanout.proofs.keeping.keep_run.Goals as goal

pub returns-clause-last : goal.returns-clause-last
returns-clause-last c =
    c.push_run.ensures.last
    ∙ ap (λ es. kept_with es c.args.kept.now.last) (writes-run (length c.args.bytes.now / 512) c.args.number c.args.ticket c.args.block c.args.bytes.now)
