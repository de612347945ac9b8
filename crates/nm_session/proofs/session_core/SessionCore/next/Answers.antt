-- Each round of the loop reads one request more that needs no target.
use Rattle.std.proofs.Common.{◌≡◌, zero, suc, ◌+◌, ◌<◌, ◌^◌, refl, ap, sym, subst, arith}
use Rattle.nm_session.specs.Session.{Session}
use Rattle.nm_session.specs.Reading.{ReadsOn, RepliesItself}
use Rattle.nm_session.proofs.session_core.SessionCore.next.Goals as goal

reads_one_more : (a b d : Session) → ReadsOn a b → RepliesItself b d → ReadsOn a d
reads_one_more a b d so_far one = record { times = suc so_far.times; each = (b, so_far.each, one) }

-- it counts
counts : (b d : Session) → RepliesItself b d → d.count ≡ b.count + 1
counts b d one = ap (λ (s : Session). s.count) one.asks.new_is

few : (b d : Session) → RepliesItself b d → b.count < 2 ^ 63
few b d one = one.asks.first.few

pub loop-next-init : goal.loop-next-init
loop-next-init c = record { times = zero; each = refl }

pub returns-in-Err-clause-err : goal.returns-in-Err-clause-err
returns-in-Err-clause-err c =
    subst (λ (s : Session). ReadsOn c.args.self.now s) (sym c.in-Err.ensures.err)
    c.loop-next.invariant

pub returns-in-Ok-Some-clause-ok : goal.returns-in-Ok-Some-clause-ok
returns-in-Ok-Some-clause-ok c = record {
  mid = c.loop-next.self;
  reads_on = c.loop-next.invariant;
  tells = rw c.in-Ok-Some.field-0-is at c.in-Ok-Some.ensures.tells;
}

pub loop-next-smaller : goal.loop-next-smaller
loop-next-smaller c =
    let one = rw c.in-Ok-None.field-0-is at c.in-Ok-None.ensures.replies in
    omega (arith, counts _ _ one, few _ _ one)

pub loop-next-preserved : goal.loop-next-preserved
loop-next-preserved c =
    reads_one_more _ _ _ c.loop-next.invariant
    (rw c.in-Ok-None.field-0-is at c.in-Ok-None.ensures.replies)
