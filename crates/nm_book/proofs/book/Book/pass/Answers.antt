use Rattle.std.proofs.Common.{arith}
use Rattle.nm_book.proofs.Moves.{arrives}
use Rattle.nm_book.proofs.book.Book.pass.Goals as goal

pub load_new_seat-seat-requires : goal.load_new_seat-seat-requires
load_new_seat-seat-requires g c = (omega (arith, c.args.self.now.sized.0), arrives g.G.Legality.legal c.args.self.now.table.shared.table_id.slots)
