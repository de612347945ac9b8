-- A call leaves the pass a part for each stripe.
use Rattle.std.proofs.Common.{◌∙◌}
use Rattle.nm_server.specs.Calls.{answered}
use Rattle.nm_server.proofs.Behind.{as-many}
use Rattle.nm_server.proofs.mirror_target.MirrorTarget.call.Goals as goal

pub invariant_of-self : goal.invariant_of-self
invariant_of-self g c = record {
  even = as-many _ _ (answered c.args.call c.call_through.new.into c.call_through.result)
      c.args.self.now.pass.now.parts.items c.call_through.new.pass.parts.items
      c.call_through.ensures ∙ c.args.self.now.even;
  some = c.args.self.now.some;
}
