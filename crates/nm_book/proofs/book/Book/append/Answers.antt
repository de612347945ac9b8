use Rattle.std.proofs.Common.{arith, sym, ◌∙◌}
use Rattle.nm_book.proofs.Noting.{adds_as}
use Rattle.nm_book.proofs.book.Book.append.Goals as goal

pub load-requires : goal.load-requires
load-requires g c = (
  c.requires.own ∙ sym c.args.self.now.own,
  omega (arith, c.args.self.now.sized.0),
  adds_as g.G.Legality.legal c.args.self.now.table.shared.table_id.slots c.args.seat.now.id c.args.seat.now.me.0 c.args.seat.now.me.1 c.requires.free g.N.Picks.what c.requires.may,
)
