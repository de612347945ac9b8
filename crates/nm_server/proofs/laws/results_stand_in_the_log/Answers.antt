use Rattle.nm_leg.specs.Leg.{leg_type}
use Rattle.nm_server.specs.Calls.{state_of}
use Rattle.nm_server.proofs.Behind.{stands-there}
use Rattle.nm_server.proofs.laws.results_stand_in_the_log.Goals as goal

pub returns : goal.returns
returns g c session called told result =
    let shape = g.C.MirrorCalls.shape in (
      shape result.before.mirror.now,
      result.payload,
      stands-there (leg_type g.L.LegPart.model g.L.LegPart.honest) (state_of (shape result.earlier.mirror.now) result.earlier.pass.now)
          (state_of (shape result.before.mirror.now) result.before.pass.now) (state_of (shape result.after.mirror.now) result.after.pass.now)
          result.asked told result.hears result.has_told c.heard_calls_come_first.ensures session called result.payload result.has_come result.calls,
    )
