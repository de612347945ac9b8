use Rattle.std.proofs.Common.{arith, sym, ap, ◌∙◌, subst}
use Rattle.nm_book.specs.declared.rule.View.{View}
use Rattle.nm_book.specs.Log.{NotesOn, all_of, shard_of, PassView, KeeperView}
use Rattle.nm_book.proofs.Moves.{keeps_in_as, lets_go_as}
use Rattle.nm_book.proofs.Noting.{noted}
use Rattle.nm_book.proofs.book.Book.note.Goals as goal

pub join_seat-requires : goal.join_seat-requires
join_seat-requires g c =
    let i = c.pass.invariant in
    let k = c.keeper.invariant in
    let own = sym c.args.self.now.own in (
      i.own ∙ own,
      k.own ∙ own,
      ap (λ m. m.1) k.view_is,
      omega (arith, c.args.self.now.sized.0),
      keeps_in_as g.G.Legality.legal _ _ _ _ _ _ (ap (λ m. m.0.role) i.view_is) (ap (λ m. m.0) k.view_is),
    )

pub split_seat-requires : goal.split_seat-requires
split_seat-requires g c = (
  c.append.ensures.own ∙ sym c.args.self.now.own,
  omega (arith, c.args.self.now.sized.0),
  lets_go_as g.G.Legality.legal _ _ _ _ (ap (λ (v : View g.row.E.Denot). v.role) c.append.ensures.adds.1),
)

pub invariant_of-pass : goal.invariant_of-pass
invariant_of-pass g c =
    let i = c.pass.invariant in
    let k = c.keeper.invariant in
    let s = c.split_seat.ensures in
    let p = c.pass.inside.seat.me.0 in
    let w = c.keeper.inside.seat.me.0 in
    let n = noted g.G.Legality.legal (g.M.Notes.what c.args.about.now) (record { who = p.who; seen = p.seen; mine = p.mine }) (record { shard = shard_of w.role; all = all_of w.role })
    p w c.join_seat.new.seat.me.0 c.append.new.seat.me.0 c.split_seat.new.seat.me.0
    (ap (λ m. m.0) i.view_is) (ap (λ m. m.0) k.view_is) (ap (λ m. m.0) c.join_seat.ensures.2) c.append.ensures.adds (ap (λ m. m.0) s.2) i.mine in record {
      own = s.0 ∙ c.append.ensures.own;
      view_is = (λ j. (n.pass_is j, (ap (λ m. m.1) s.2 ∙ c.append.ensures.free) j));
      mine = n.own;
    }

pub returns-clause-pass : goal.returns-clause-pass
returns-clause-pass g c =
    let p = c.pass.inside.seat.me.0 in
    let w = c.keeper.inside.seat.me.0 in
    let r = c.split_seat.new.seat.me.0 in
    let what = g.M.Notes.what c.args.about.now in
    let n = noted g.G.Legality.legal what (record { who = p.who; seen = p.seen; mine = p.mine }) (record { shard = shard_of w.role; all = all_of w.role })
    p w c.join_seat.new.seat.me.0 c.append.new.seat.me.0 r
    (ap (λ m. m.0) c.pass.invariant.view_is) (ap (λ m. m.0) c.keeper.invariant.view_is) (ap (λ m. m.0) c.join_seat.ensures.2) c.append.ensures.adds (ap (λ m. m.0) c.split_seat.ensures.2) c.pass.invariant.mine in
    let left : PassView g.row.E.Denot = record { who = r.who; seen = r.seen; mine = r.mine } in
    subst (λ (k : KeeperView g.row.E.Denot). NotesOn g.G.Legality.legal k what c.args.pass.now left) c.keeper.view_is
    (subst (λ (o : PassView g.row.E.Denot). NotesOn g.G.Legality.legal (record { shard = shard_of w.role; all = all_of w.role }) what o left) c.pass.view_is n.notes)
