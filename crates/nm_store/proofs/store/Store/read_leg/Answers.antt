-- A call for the bytes of a run is one for its blocks.
use Rattle.std.proofs.Common.{rules, ◌≡◌, List, subst}
use Rattle.nm_leg.specs.Leg.{leg_type}
use Rattle.nm_leg.specs.LegCalls.{HasRun}
use Rattle.nm_store.proofs.ReadingLemmas.{read-done}
use Rattle.nm_store.proofs.store.Store.read_leg.Goals as goal

pub read_leg_at-requires-clause-run : goal.read_leg_at-requires-clause-run
read_leg_at-requires-clause-run g c =
    let legs : c.args.self.now.legs ≡ c.deref_mut.result.now = search rules in
    subst (λ (ls : List _). HasRun g.L.LegPart.model ls c.args.leg c.args.block c.args.into.now) legs c.requires.run

pub returns-clause-reads : goal.returns-clause-reads
returns-clause-reads g c =
    rw (← c.self.view_is) (read-done (leg_type g.L.LegPart.model g.L.LegPart.honest) c.self.inside.legs c.deref_mut.result.now c.read_leg_at.new.legs _ c.args.leg c.args.block c.read_leg_at.new.into c.read_leg_at.ensures c.deref_mut.ensures.value)
