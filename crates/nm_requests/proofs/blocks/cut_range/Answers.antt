-- The range ends what was cut.
use Rattle.std.proofs.Common.{ap, ◌∙◌, drop}
use Rattle.std.proofs.lemmas.List.{drop-take}
use Rattle.nm_requests.proofs.blocks.cut_range.Goals as goal

pub returns-clause-payload : goal.returns-clause-payload
returns-clause-payload c =
    c.advance-2.ensures ∙ ap (drop c.args.start) c.in_ok-range-2.ensures.front
    ∙ drop-take c.args.start c.args.len c.args.buffer.now.items
