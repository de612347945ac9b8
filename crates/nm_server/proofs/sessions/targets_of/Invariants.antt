-- So far there is a target for each pass, each of this mirror.
use Rattle.std.proofs.Common.{◌≡◌, map, take, All}
use Rattle.nm_server.proofs.sessions.targets_of.Given as goal

abbrev pub invariant-passes : goal.invariant-passes
invariant-passes g l = record {
  mirrors : All (λ target. target.mirror.now ≡ l.fn.mirror) l.targets.items;
  passes : map (λ target. target.pass.now) l.targets.items ≡ take l.pass-index l.fn.passes;
}
