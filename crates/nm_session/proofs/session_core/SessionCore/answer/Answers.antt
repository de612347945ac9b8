-- The request that is taken out of the list is the one that was found.
use Rattle.std.proofs.Common.{◌≡◌, ◌+◌, take, drop, refl, sym, ap, subst, ◌∙◌, arith, rules}
use Rattle.nm_session.specs.declared.outstanding.Outstanding.{Outstanding}
use Rattle.nm_session.specs.CoreFields.{session_in}
use Rattle.nm_session.specs.Outcome.{Fits}
use Rattle.nm_session.specs.Session.{bytes_asked}
use Rattle.nm_session.proofs.Answered.{answers, split_at}
use Rattle.nm_session.proofs.Room.{bytes_split}
use Rattle.nm_session.proofs.session_core.SessionCore.answer.Goals as goal

pub overflow_sub-self : goal.overflow_sub-self
overflow_sub-self c =
    let held = c.remove-held.result in
    let xs = c.self.inside.outstanding.items in
    let below = rw c.as_slice.ensures.value at c.in-Some.ensures.some.0 in
    let split = bytes_split xs (take c.in-Some.at xs) (drop (c.in-Some.at + 1) xs) held
    (split_at xs c.in-Some.at held below (sym c.remove-held.ensures.value)) in
    omega (arith, split, c.self.invariant.asked, c.reply_length.ensures)

pub invariant_of-self-2 : goal.invariant_of-self-2
invariant_of-self-2 c =
    let held = c.remove-held.result in
    let xs = c.self.inside.outstanding.items in
    let below = rw c.as_slice.ensures.value at c.in-Some.ensures.some.0 in
    let split = bytes_split xs (take c.in-Some.at xs) (drop (c.in-Some.at + 1) xs) held
    (split_at xs c.in-Some.at held below (sym c.remove-held.ensures.value)) in
    record {
      haggles = c.self.invariant.haggles;
      going = c.self.invariant.going;
      few = omega (arith, c.remove-held.ensures.len, c.self.invariant.few);
      room = omega (arith, c.remove-held.ensures.capacity, c.self.invariant.room);
      asked = omega (
        arith,
        split,
        ap bytes_asked c.remove-held.ensures.by_index.2,
        c.self.invariant.asked,
        c.reply_length.ensures,
      );
      within = omega (arith, c.self.invariant.within);
      known = search rules;
    }

pub returns-clause-ok : goal.returns-clause-ok
returns-clause-ok c =
    let held = c.index.result.now in
    let xs = c.self.inside.outstanding.items in
    let below = rw c.as_slice.ensures.value at c.in-Some.ensures.some.0 in
    let all = rw c.as_slice.ensures.value at c.in-Some.ensures.some.1 in
    let index_is = ap (λ (h : Outstanding). h.index) c.index.ensures ∙ all held in
    let fits = rw (← c.self.view_is) at c.requires in
    rw (← c.self.view_is)
    (answers (session_in c.self.inside) _ c.args.index c.args.outcome (take c.in-Some.at xs)
    (drop (c.in-Some.at + 1) xs) held (split_at xs c.in-Some.at held below (sym c.index.ensures))
    index_is
    (subst (λ (h : Outstanding). h.index ≡ c.args.index → Fits h.task c.args.outcome)
    (sym c.index.ensures) (fits c.in-Some.at held below) index_is)
    refl refl refl refl refl c.remove-held.ensures.by_index.2 (search rules))
