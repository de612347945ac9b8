use Rattle.nm_script_lib.proofs.Pieces.{pieces_cut, pieces_whole}
use Rattle.std.proofs.Common.{sym}
use Rattle.nm_script_lib.proofs.words.cut.Goals as goal

pub returns-in-Some-clause-pieces : goal.returns-in-Some-clause-pieces
returns-in-Some-clause-pieces c = pieces_cut c.args.at c.args.text.now c.in-Some.place
    (sym c.in-Some.ensures)

pub returns-in-None-clause-pieces : goal.returns-in-None-clause-pieces
returns-in-None-clause-pieces c = pieces_whole c.args.at c.args.text.now (sym c.in-None.ensures)
