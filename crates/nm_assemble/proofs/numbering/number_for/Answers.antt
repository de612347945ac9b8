-- From the next number on none is left.
use Rattle.nm_assemble.proofs.numbering.number_for.Goals as goal

pub returns-in-None-clause-refused : goal.returns-in-None-clause-refused
returns-in-None-clause-refused c = (c.args.next, c.in-None.ensures.none)
