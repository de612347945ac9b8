use Rattle.std.proofs.Common.{arith, sym, ◌∙◌}
use Rattle.nm_book.proofs.Moves.{tells}
use Rattle.nm_book.proofs.book.Book.tell.Goals as goal

pub split_seat-requires : goal.split_seat-requires
split_seat-requires g c = (
  c.pass.invariant.own ∙ sym c.args.self.now.own,
  omega (arith, c.args.self.now.sized.0),
  tells g.G.Legality.legal _ _,
)
