use Rattle.std.proofs.Common.{ℕ, List, ◌++◌, refl, sym, ap, subst, ◌∙◌, arith}
use Rattle.nm_session.specs.Asking.{outstanding_for, own_reply}
use Rattle.nm_session.specs.CoreFields.{session_in}
use Rattle.nm_session.specs.Session.{Session, HasRoom}
use Rattle.nm_session.proofs.Following.{follows_both}
use Rattle.nm_session.proofs.Room.{bytes_more, fits_beside}
use Rattle.nm_session.proofs.Settled.{asked, tells, goes_on, known_after}
use Rattle.nm_session.proofs.session_core.SessionCore.read_one.Goals as goal

pub sum_within-asked-requires : goal.sum_within-asked-requires
sum_within-asked-requires c =
    let handed = rw c.in-Ok-Some.field-0-is at c.in-Ok-Some.ensures.request in
    let fits = fits_beside (session_in c.self.inside) c.in-Ok-Some.request _ c.judge_within-judged.result
    (subst (λ (s : Session). HasRoom s) (sym c.self.view_is) (c.lacks_room.ensures.fits c.if-lacks_room.false))
    (omega (arith, c.self.invariant.asked, c.self.invariant.within)) handed.first
    (rw c.export.ensures at c.judge_within-judged.ensures.judged)
    (rw c.export.ensures at c.judge_within-judged.ensures.inside) in
    omega (
      arith,
      fits,
      bytes_more c.self.inside.outstanding.items
          (outstanding_for c.in-Ok-Some.request c.judge_within-judged.result) _ refl,
      c.asked_by.ensures c.in-Ok-Some.request,
      c.self.invariant.asked,
    )

pub invariant_of-self-in-Ok-Some : goal.invariant_of-self-in-Ok-Some
invariant_of-self-in-Ok-Some c =
    let handed = rw c.in-Ok-Some.field-0-is at c.in-Ok-Some.ensures.request in
    let index = rw c.in-Ok-Some.field-0-is at c.in-Ok-Some.ensures.index in
    let fits = fits_beside (session_in c.self.inside) c.in-Ok-Some.request _ c.judge_within-judged.result
    (subst (λ (s : Session). HasRoom s) (sym c.self.view_is) (c.lacks_room.ensures.fits c.if-lacks_room.false))
    (omega (arith, c.self.invariant.asked, c.self.invariant.within)) handed.first
    (rw c.export.ensures at c.judge_within-judged.ensures.judged)
    (rw c.export.ensures at c.judge_within-judged.ensures.inside) in
    let sum = bytes_more c.self.inside.outstanding.items
    (outstanding_for c.in-Ok-Some.request c.judge_within-judged.result) _ refl in
    let now = bytes_more c.self.inside.outstanding.items
    (outstanding_for c.in-Ok-Some.request c.judge_within-judged.result) _ c.dispatch.ensures.outstanding in
    record {
      haggles = λ e. absurd (goes_on c.judge_within-judged.result (sym c.stage_after-self-inside.ensures ∙ e));
      going = λ _. handed.fault;
      few = omega (arith, c.dispatch.ensures.one, c.self.invariant.few, c.len.ensures, c.if-len-self.false);
      room = omega (arith, c.dispatch.ensures.capacity, c.self.invariant.room);
      asked = omega (
        arith,
        now,
        c.sum_within-asked.ensures,
        c.asked_by.ensures c.in-Ok-Some.request,
        c.self.invariant.asked,
      );
      within = omega (
        arith,
        fits,
        sum,
        c.sum_within-asked.ensures,
        c.asked_by.ensures c.in-Ok-Some.request,
        c.self.invariant.asked,
      );
      known = rw (c.dispatch.ensures.outstanding, handed.count)
          (known_after c.self.inside.outstanding.items c.in-Ok-Some.request
          c.judge_within-judged.result c.self.inside.reader.count index c.self.invariant.known);
    }

pub returns-in-Ok-Some-clause-tells : goal.returns-in-Ok-Some-clause-tells
returns-in-Ok-Some-clause-tells c =
    let handed = rw c.in-Ok-Some.field-0-is at c.in-Ok-Some.ensures.request in
    let index = rw c.in-Ok-Some.field-0-is at c.in-Ok-Some.ensures.index in
    let judged = rw c.export.ensures at c.judge_within-judged.ensures.judged in
    let inside = rw c.export.ensures at c.judge_within-judged.ensures.inside in
    let reply = own_reply c.in-Ok-Some.request c.judge_within-judged.result in
    let appended = c.dispatch.ensures.out ∙ ap (λ (xs : List ℕ). xs ++ reply) c.reserve.ensures.items in
    rw (← c.self.view_is)
    (tells (session_in c.self.inside) _ c.in-Ok-Some.request c.judge_within-judged.result _
    (asked (session_in c.self.inside) _ c.in-Ok-Some.request c.judge_within-judged.result
    (record {
      reading = record { serving = c.in-Serving.is; free = omega (arith, c.self.inside.outstanding.ok.0, c.self.invariant.few, c.len.ensures, c.if-len-self.false) };
      index_is = index;
      first = handed.first;
      is_judged = judged;
      inside = inside;
      within = fits_beside (session_in c.self.inside) c.in-Ok-Some.request _ c.judge_within-judged.result
          (subst (λ (s : Session). HasRoom s) (sym c.self.view_is) (c.lacks_room.ensures.fits c.if-lacks_room.false))
          (omega (arith, c.self.invariant.asked, c.self.invariant.within)) handed.first judged inside;
    }) (record {
      limit = refl;
      stage = c.stage_after-self-inside.ensures;
      haggling = refl;
      count = handed.count;
      outstanding = c.dispatch.ensures.outstanding;
      out = follows_both _ _ c.join.ensures.same c.in_ok-join.ensures.one appended;
    })) c.dispatch.ensures.next)
