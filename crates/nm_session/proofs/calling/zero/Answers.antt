-- The change and the sync after it are one list of calls.
use Rattle.std.proofs.Common.{[], ◌∷◌, Ok}
use Rattle.nm_session.specs.Target.{Zeroes, Syncs}
use Rattle.nm_session.proofs.Changing.{changes_and_syncs}
use Rattle.nm_session.proofs.calling.zero.Goals as goal

pub returns-clause-calls : goal.returns-clause-calls
returns-clause-calls g c =
    let joined = g.met.T.Target.joins c.args.target.now c.zero.new.self c.sync_touched.new.self
    (Zeroes c.args.offset c.args.count (Ok tt) ∷ [])
    (Syncs c.args.offset c.args.count c.sync_touched.result ∷ [])
    (rw c.from.ensures at c.in_default.ensures.call) (rw c.from-2.ensures at c.sync_touched.ensures.call) in
    record {
      calls = Zeroes c.args.offset c.args.count (Ok tt)
          ∷ Syncs c.args.offset c.args.count c.sync_touched.result ∷ [];
      are = changes_and_syncs c.args.fua _ _ _ _ c.if-not-fua.false c.outcome_of.ensures.says;
      leads = joined;
    }
