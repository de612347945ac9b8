use Rattle.std.proofs.Common.{arith, sym, ap, ◌∙◌}
use Rattle.nm_book.proofs.Moves.{makes_as}
use Rattle.nm_book.proofs.book.Book.keeper.Goals as goal

pub split_seat-requires : goal.split_seat-requires
split_seat-requires g c = (
  c.args.maker.now.own ∙ sym c.args.self.now.own,
  omega (arith, c.args.self.now.sized.0),
  makes_as g.G.Legality.legal _ _ _ (ap (λ m. m.0) c.args.maker.now.is),
)
