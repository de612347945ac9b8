use Rattle.std.proofs.Common.{◌/◌, length, ap, ◌∙◌}
use Rattle.nm_replay.specs.Kept.{kept_with}
use Rattle.nm_store.proofs.ReadingLemmas.{reads-run}
use Rattle.nm_store.proofs.reading.keep_blocks.Goals as goal

pub returns-clause-last : goal.returns-clause-last
returns-clause-last c =
    c.push_run.ensures.last
    ∙ ap (λ es. kept_with es c.args.kept.now.last) (reads-run (length c.args.bytes.now / 512) c.args.number c.args.block c.args.bytes.now)
