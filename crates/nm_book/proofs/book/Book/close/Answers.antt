use Rattle.std.proofs.Common.{arith, sym, ap, ◌∙◌}
use Rattle.nm_book.proofs.Closing.{closes_as}
use Rattle.nm_book.proofs.book.Book.close.Goals as goal

pub join_seat-requires : goal.join_seat-requires
join_seat-requires g c = (
  c.closer.invariant.0 ∙ sym c.args.self.now.own,
  c.pass.invariant.own ∙ sym c.args.self.now.own,
  ap (λ m. m.1) c.pass.invariant.view_is,
  omega (arith, c.args.self.now.sized.0),
  closes_as g.G.Legality.legal _ _ _ _ _ _ (ap (λ m. m.0) c.closer.invariant.1) (ap (λ m. m.0.acts) c.pass.invariant.view_is),
)
