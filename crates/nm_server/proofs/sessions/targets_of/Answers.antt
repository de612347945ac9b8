-- The target that was pushed is this mirror through the next pass.
use Rattle.std.proofs.Common.{arith, ◌≡◌, ◌<◌, length, true, not, is_ok, ap, ◌∙◌}
use Rattle.nm_leg_files.proofs.Pushing.{has-one-more, one-more, all-more}
use Rattle.nm_server.proofs.sessions.targets_of.Goals as goal

pub passes-preserved : goal.passes-preserved
passes-preserved g c =
    let went : is_ok c.push.result ≡ true =
    c.is_err.ensures.negation ∙ ap not c.if-is_err.false in
    let pushed = has-one-more (is_ok c.push.result) c.passes.targets.items
    c.push.new.self.items _ went c.push.ensures.items in
    let inside : c.passes.pass-index < length c.args.passes.now = omega arith in
    record {
      mirrors = all-more c.passes.targets.items c.push.new.self.items _
          (λ target. target.mirror.now ≡ c.args.mirror.now) pushed c.passes.invariant.mirrors
          c.in-Some.ensures.mirror;
      passes = one-more c.passes.targets.items c.push.new.self.items _
          (λ target. target.pass.now) c.args.passes.now c.passes.pass-index
          pushed inside c.passes.invariant.passes (rw c.in-Some.ensures.pass c.passes-item.is);
    }
