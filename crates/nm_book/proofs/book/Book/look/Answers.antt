use Rattle.std.proofs.Common.{arith, sym, ap, ◌∙◌, subst}
use Rattle.nm_book.specs.declared.rule.View.{View}
use Rattle.nm_book.specs.Log.{SeesOn, all_of, shard_of, PassView}
use Rattle.nm_book.proofs.Moves.{keeps_in_as, lets_go_as}
use Rattle.nm_book.proofs.Noting.{looked, observes_as}
use Rattle.nm_book.proofs.book.Book.look.Goals as goal

pub join_seat-requires : goal.join_seat-requires
join_seat-requires g c =
    let i = c.pass.invariant in
    let k = c.keeper.invariant in
    let own = sym c.args.self.now.own in (
      i.own ∙ own,
      k.own ∙ own,
      ap (λ m. m.1) k.view_is,
      omega (arith, c.args.self.now.sized.0),
      keeps_in_as g.G.Legality.legal _ _ _ _ _ _ (ap (λ m. m.0.role) i.view_is) (ap (λ m. m.0) k.view_is),
    )

pub load-requires : goal.load-requires
load-requires g c = (
  c.join_seat.ensures.0 ∙ (c.pass.invariant.own ∙ sym c.args.self.now.own),
  omega (arith, c.args.self.now.sized.0),
  observes_as g.G.Legality.legal _ _ _ _ (ap (λ m. m.1) c.join_seat.ensures.2 ∙ ap (λ m. m.1) c.pass.invariant.view_is),
)

pub split_seat-requires : goal.split_seat-requires
split_seat-requires g c = (
  c.load.ensures.0 ∙ (c.join_seat.ensures.0 ∙ (c.pass.invariant.own ∙ sym c.args.self.now.own)),
  omega (arith, c.args.self.now.sized.0),
  lets_go_as g.G.Legality.legal _ _ _ _
      (ap (λ (v : View g.row.E.Denot). v.role) c.load.ensures.2.0.1 ∙ (ap (λ m. m.0.role) c.join_seat.ensures.2 ∙ ap (λ m. m.0.role) c.keeper.invariant.view_is)),
)

pub returns-clause-sees : goal.returns-clause-sees
returns-clause-sees g c =
    let p = c.pass.inside.seat.me.0 in
    let w = c.keeper.inside.seat.me.0 in
    let r = c.split_seat.new.seat.me.0 in
    let n = looked g.G.Legality.legal (record { who = p.who; seen = p.seen; mine = p.mine }) (record { shard = shard_of w.role; all = all_of w.role })
    p w c.join_seat.new.seat.me.0 c.load.new.seat.me.0 r
    (ap (λ m. m.0) c.pass.invariant.view_is) (ap (λ m. m.0) c.keeper.invariant.view_is) (ap (λ m. m.0) c.join_seat.ensures.2) c.load.ensures.2.0 (ap (λ m. m.0) c.split_seat.ensures.2) c.pass.invariant.mine in
    subst (λ (o : PassView g.row.E.Denot). SeesOn g.G.Legality.legal o (record { who = r.who; seen = r.seen; mine = r.mine })) c.pass.view_is n.sees
