-- The target hears that the request came, is called, and tells of the calls.
use Rattle.std.proofs.Common.{ℕ, List, sym, ◌∙◌, subst}
use Rattle.nm_requests.specs.declared.task.Task.{Task}
use Rattle.nm_session.specs.Calling.{Calls}
use Rattle.nm_workers.proofs.JobCalls.{told_calls}
use Rattle.nm_workers.proofs.job.JobResult.of.Goals as goal

pub invariant_of-result : goal.invariant_of-result
invariant_of-result g c =
    let parts = c.into_parts-index in
    let called = c.call-called in
    record {
      payload = parts.result.2;
      asked = parts.result.4;
      has_come = subst (λ (i : ℕ). g.T.Log.SessionLog.has_come g.E.Extent.session i parts.result.2 parts.result.4)
          (sym (called.ensures.index ∙ parts.ensures.index)) parts.ensures.has_come;
      earlier = c.args.target.now;
      before = c.hear.new.self;
      after = c.tell-told.new.self;
      hears = c.hear.ensures.heard;
      calls = subst (λ (t : Task). Calls t parts.result.2 called.result.outcome
          (λ calls. g.T.Target.follows c.hear.new.self calls c.tell-told.new.self))
          (sym called.ensures.task)
          (told_calls g.T.Target.follows g.met.T.Target.joins parts.result.1 parts.result.2 called.result.outcome
          c.hear.new.self called.new.target c.tell-told.new.self called.ensures.calls c.tell-told.ensures.call);
      has_told = c.tell-told.ensures.told;
    }

pub returns-clause-calls : goal.returns-clause-calls
returns-clause-calls g c =
    let parts = c.into_parts-index in
    let called = c.call-called in
    record {
      asked = parts.result.4;
      heard = c.hear.new.self;
      hears = c.hear.ensures.heard;
      calls = subst (λ (p : List ℕ). Calls c.args.job.task p called.result.outcome
          (λ calls. g.T.Target.follows c.hear.new.self calls c.tell-told.new.self)) parts.ensures.payload
          (subst (λ (t : Task). Calls t parts.result.2 called.result.outcome
          (λ calls. g.T.Target.follows c.hear.new.self calls c.tell-told.new.self)) parts.ensures.task
          (told_calls g.T.Target.follows g.met.T.Target.joins parts.result.1 parts.result.2 called.result.outcome
          c.hear.new.self called.new.target c.tell-told.new.self called.ensures.calls c.tell-told.ensures.call));
    }
