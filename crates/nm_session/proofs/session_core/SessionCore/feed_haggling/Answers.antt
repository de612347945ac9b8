use Rattle.std.proofs.Common.{ℕ, List, ◌++◌, drop, refl, sym, ap, ◌∙◌}
use Rattle.std.proofs.lemmas.List.{append-nil, take_rest}
use Rattle.nm_haggle.specs.declared.next.Next.TheVariants.{More, Transmit, Close}
use Rattle.nm_session.specs.CoreFields.{session_in}
use Rattle.nm_session.proofs.Fed.{responds}
use Rattle.nm_session.proofs.Following.{follows_both}
use Rattle.nm_session.proofs.session_core.SessionCore.feed_haggling.Goals as goal

pub returns-in-More-clause-ok : goal.returns-in-More-clause-ok
returns-in-More-clause-ok c =
    let fed = c.in-Ok.ensures.ok in
    let kept = c.reserve.ensures.kept in
    rw (← c.self.view_is)
    (responds (session_in c.self.inside) _ c.args.piece.now fed.bytes c.in-Ok.step.used
    c.in-Ok.step.next More c.in-More.is fed.holds refl (cc) (kept.rest ∙ sym (append-nil _))
    kept.count refl (follows_both _ _ c.join.ensures.same c.in_ok-join.ensures.one fed.appended))

pub returns-in-Transmit-clause-ok : goal.returns-in-Transmit-clause-ok
returns-in-Transmit-clause-ok c =
    let fed = c.in-Ok.ensures.ok in
    let kept = c.reserve.ensures.kept in
    let took = rw c.unwrap.ensures at c.feed.ensures.ok in
    rw (← c.self.view_is)
    (responds (session_in c.self.inside) _ c.args.piece.now fed.bytes c.in-Ok.step.used
    c.in-Ok.step.next Transmit c.in-Transmit.is fed.holds refl refl
    (took.rest ∙ ap (λ (ys : List ℕ). c.reserve.new.self.rest ++ ys)
    (take_rest c.args.piece.now c.in-Ok.step.used)
    ∙ ap (λ (xs : List ℕ). xs ++ drop c.in-Ok.step.used c.args.piece.now) kept.rest)
    (took.count ∙ kept.count) refl (follows_both _ _ c.join.ensures.same c.in_ok-join.ensures.one fed.appended))

pub returns-in-Close-clause-ok : goal.returns-in-Close-clause-ok
returns-in-Close-clause-ok c =
    let fed = c.in-Ok.ensures.ok in
    let kept = c.reserve.ensures.kept in
    rw (← c.self.view_is)
    (responds (session_in c.self.inside) _ c.args.piece.now fed.bytes c.in-Ok.step.used
    c.in-Ok.step.next (Close c.in-Close.aborted) c.in-Close.is fed.holds refl (cc)
    (kept.rest ∙ sym (append-nil _)) kept.count refl (follows_both _ _ c.join.ensures.same c.in_ok-join.ensures.one fed.appended))
