use Rattle.std.proofs.Common.{arith, sym, ap, ◌∙◌}
use Rattle.nm_book.proofs.Noting.{observes_as, seen}
use Rattle.std.proofs.Common.{subst, []}
use Rattle.nm_book.specs.Log.{PassView, SeesOn}
use Rattle.nm_book.proofs.book.Book.observe.Goals as goal

pub load-requires : goal.load-requires
load-requires g c = (
  c.pass.invariant.own ∙ sym c.args.self.now.own,
  omega (arith, c.args.self.now.sized.0),
  observes_as g.G.Legality.legal _ _ _ _ (ap (λ m. m.1) c.pass.invariant.view_is),
)

pub returns : goal.returns
returns g c =
    let p = c.pass.inside.seat.me.0 in
    let s = seen g.G.Legality.legal (record { who = p.who; seen = p.seen; mine = p.mine }) [] p c.load.new.seat.me.0
    (ap (λ m. m.0) c.pass.invariant.view_is) c.load.ensures.2.0 c.pass.invariant.mine in
    subst (λ (o : PassView g.row.E.Denot). SeesOn g.G.Legality.legal o (record { who = c.load.new.seat.me.0.who; seen = c.load.new.seat.me.0.seen; mine = c.load.new.seat.me.0.mine })) c.pass.view_is s.sees
