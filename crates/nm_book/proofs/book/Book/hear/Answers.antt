use Rattle.std.proofs.Common.{arith, sym, ap, ◌∙◌}
use Rattle.nm_book.proofs.Moves.{hears_as}
use Rattle.nm_book.proofs.Noting.{observes_as}
use Rattle.std.proofs.Common.{subst}
use Rattle.nm_book.proofs.Noting.{seen}
use Rattle.nm_book.specs.declared.rule.View.{View}
use Rattle.nm_book.specs.Log.{PassView, SeesOn, view}
use Rattle.nm_book.proofs.book.Book.hear.Goals as goal

pub join_seat-requires : goal.join_seat-requires
join_seat-requires g c = (
  c.pass.invariant.own ∙ sym c.args.self.now.own,
  c.told.invariant.0 ∙ sym c.args.self.now.own,
  ap (λ m. m.1) c.told.invariant.1,
  omega (arith, c.args.self.now.sized.0),
  hears_as g.G.Legality.legal _ _ _ _ _ (ap (λ m. m.0) c.told.invariant.1),
)

pub load-requires : goal.load-requires
load-requires g c = (
  c.join_seat.ensures.0 ∙ (c.pass.invariant.own ∙ sym c.args.self.now.own),
  omega (arith, c.args.self.now.sized.0),
  observes_as g.G.Legality.legal _ _ _ _ (ap (λ m. m.1) c.join_seat.ensures.2 ∙ ap (λ m. m.1) c.pass.invariant.view_is),
)

pub returns-clause-sees : goal.returns-clause-sees
returns-clause-sees g c =
    let p = c.pass.inside.seat.me.0 in
    let s = seen g.G.Legality.legal (record { who = p.who; seen = p.seen; mine = p.mine }) c.told.inside.seat.me.0.seen c.join_seat.new.seat.me.0 c.load.new.seat.me.0
    (ap (λ m. m.0) c.join_seat.ensures.2 ∙ ap (λ (v : View g.row.E.Denot). view v.acts v.who v.role v.seen c.told.inside.seat.me.0.seen v.mine) (ap (λ m. m.0) c.pass.invariant.view_is)) c.load.ensures.2.0 c.pass.invariant.mine in
    subst (λ (o : PassView g.row.E.Denot). SeesOn g.G.Legality.legal o (record { who = c.load.new.seat.me.0.who; seen = c.load.new.seat.me.0.seen; mine = c.load.new.seat.me.0.mine })) c.pass.view_is s.sees
