use Rattle.std.proofs.Common.{arith, sym, ap, ◌∙◌, subst}
use Rattle.nm_book.specs.declared.rule.View.{View}
use Rattle.nm_book.specs.Log.{PassView, SeesOn, meeting}
use Rattle.nm_book.proofs.Moves.{meets}
use Rattle.nm_book.proofs.Noting.{observes_as, met}
use Rattle.nm_book.proofs.book.Book.meet.Goals as goal

pub join_seat-requires : goal.join_seat-requires
join_seat-requires g c = (
  c.pass.invariant.own ∙ sym c.args.self.now.own,
  c.other.invariant.own ∙ sym c.args.self.now.own,
  ap (λ m. m.1) c.other.invariant.view_is,
  omega (arith, c.args.self.now.sized.0),
  meets g.G.Legality.legal _ _ _ _ (ap (λ m. m.0.acts) c.other.invariant.view_is) (ap (λ m. m.0.role) c.other.invariant.view_is),
)

pub load-requires : goal.load-requires
load-requires g c = (
  c.join_seat.ensures.0 ∙ (c.pass.invariant.own ∙ sym c.args.self.now.own),
  omega (arith, c.args.self.now.sized.0),
  observes_as g.G.Legality.legal _ _ _ _ (ap (λ m. m.1) c.join_seat.ensures.2 ∙ ap (λ m. m.1) c.pass.invariant.view_is),
)

pub returns-clause-sees : goal.returns-clause-sees
returns-clause-sees g c =
    let p = c.pass.inside.seat.me.0 in
    let w = c.other.inside.seat.me.0 in
    let s = met g.G.Legality.legal (record { who = p.who; seen = p.seen; mine = p.mine }) c.join_seat.new.seat.me.0 w c.load.new.seat.me.0
    (ap (λ m. m.0) c.join_seat.ensures.2 ∙ ap (λ (v : View g.row.E.Denot). meeting v w) (ap (λ m. m.0) c.pass.invariant.view_is)) c.load.ensures.2.0 c.pass.invariant.mine in
    subst (λ (o : PassView g.row.E.Denot). SeesOn g.G.Legality.legal o (record { who = c.load.new.seat.me.0.who; seen = c.load.new.seat.me.0.seen; mine = c.load.new.seat.me.0.mine })) c.pass.view_is s.sees

pub returns-clause-all : goal.returns-clause-all
returns-clause-all g c =
    let p = c.pass.inside.seat.me.0 in
    let w = c.other.inside.seat.me.0 in
    let s = met g.G.Legality.legal (record { who = p.who; seen = p.seen; mine = p.mine }) c.join_seat.new.seat.me.0 w c.load.new.seat.me.0
    (ap (λ m. m.0) c.join_seat.ensures.2 ∙ ap (λ (v : View g.row.E.Denot). meeting v w) (ap (λ m. m.0) c.pass.invariant.view_is)) c.load.ensures.2.0 c.pass.invariant.mine in
    s.own
