use Rattle.nm_script_lib.proofs.Pieces.{at_end}
use Rattle.nm_script_lib.proofs.words.Words.is_at_end.Goals as goal

pub returns : goal.returns
returns c = at_end c.args.self.now.rest c.is_none.result c.is_none.ensures
