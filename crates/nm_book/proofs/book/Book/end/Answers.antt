use Rattle.std.proofs.Common.{arith, sym, ◌∙◌}
use Rattle.nm_book.proofs.Closing.{ends_as}
use Rattle.nm_book.proofs.book.Book.end.Goals as goal

pub load-requires : goal.load-requires
load-requires g c = (
  c.closer.invariant.0 ∙ sym c.args.self.now.own,
  omega (arith, c.args.self.now.sized.0),
  ends_as g.G.Legality.legal _ _ _ _ _ c.closer.invariant.1,
)
