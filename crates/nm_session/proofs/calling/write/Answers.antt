-- The change and the sync after it are one list of calls.
use Rattle.std.proofs.Common.{[], ◌∷◌, Ok}
use Rattle.nm_session.specs.Target.{Writes, Syncs}
use Rattle.nm_session.proofs.Changing.{changes_and_syncs}
use Rattle.nm_session.proofs.calling.write.Goals as goal

pub returns-clause-calls : goal.returns-clause-calls
returns-clause-calls g c =
    let joined = g.met.T.Target.joins c.args.target.now c.write.new.self c.sync_touched.new.self
    (Writes c.args.offset c.args.payload (Ok tt) ∷ [])
    (Syncs c.args.offset c.args.length c.sync_touched.result ∷ [])
    c.in_default.ensures.call (rw c.from.ensures at c.sync_touched.ensures.call) in
    record {
      calls = Writes c.args.offset c.args.payload (Ok tt)
          ∷ Syncs c.args.offset c.args.length c.sync_touched.result ∷ [];
      are = changes_and_syncs c.args.fua _ _ _ _ c.if-not-fua.false c.outcome_of.ensures.says;
      leads = joined;
    }
