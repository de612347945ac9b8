-- The legs are honest.
use Rattle.std.proofs.Common.{refl}
use Rattle.nm_shares.proofs.file_stripes.run_on_shares.Goals as goal

pub returns-clause-headline : goal.returns-clause-headline
returns-clause-headline c = c.run.ensures.headline refl

pub returns-clause-flushed : goal.returns-clause-flushed
returns-clause-flushed c = c.run.ensures.flushed refl
