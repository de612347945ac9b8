-- What tells of a session's results is heard by its trail, which sees the log go on.
use Rattle.std.proofs.Common.{◌≤◌, ℕ, List, sym, subst}
use Rattle.nm_leg.specs.Leg.{leg_type}
use Rattle.nm_server.specs.Calls.{state_of}
use Rattle.nm_server.specs.Later.{StandsBehindReply}
use Rattle.nm_server.proofs.Behind.{told-after}
use Rattle.nm_server.proofs.LaterRequests.{seen-more, stands-apart, stands-later}
use Rattle.nm_session.specs.Outcome.{says}
use Rattle.nm_workers.specs.Results.{called_so}
use Rattle.nm_server.proofs.laws.later_requests_stand_behind_replies.Goals as goal

pub returns : goal.returns
returns g c session from begins two =
    let type = leg_type g.L.LegPart.model g.L.LegPart.honest in
    let shape = g.C.MirrorCalls.shape in
    let takes = two.second.answer.result.0 in
    let result = takes.result in
    let reply = two.first.answer.result.0.told in
    let called = called_so two.second.index two.second.answer.answers.held.task (says two.second.outcome) in
    let earlier = state_of (shape result.earlier.mirror.now) result.earlier.pass.now in
    let before = state_of (shape result.before.mirror.now) result.before.pass.now in
    let after = state_of (shape result.after.mirror.now) result.after.pass.now in
    let some = subst (λ (n : ℕ). 1 ≤ n) (sym result.before.even) result.before.some in
    let part = told-after type earlier before after result.asked takes.told result.hears result.has_told result.calls.calls some result.calls.leads in
    let apart =
    stands-apart begins two (λ a. a.trail.pass.seen) (λ index payload a b asks. (a.trail.pass.who, a.trail.shard, asks.all))
    (λ index payload a b asks. seen-more a.trail.pass.seen asks.notes.between _ b.trail.pass.seen asks.notes.seen) (λ told a b hears. hears.all)
    (λ told a b hears. (hears.sees.more, sym hears.sees.seen)) (λ told a b hears. hears.heard)
    (λ index payload asked told a b hears come within. c.arrivals_are_noted.ensures index payload asked told a.trail b.trail hears come within) in (
      before.shape,
      subst (λ (payload : List ℕ). StandsBehindReply type before.shape session called payload reply takes.told)
          (apart result.payload result.asked result.has_come part).1
          (stands-later type earlier before after result.asked takes.told reply result.hears result.has_told c.heard_calls_come_first.ensures
          session called result.payload result.has_come (λ asked come within. (apart result.payload asked come within).0) part result.calls),
    )
