use Rattle.std.proofs.Common.{◌≡◌, ◌+◌, ◌<◌, ◌^◌}
use Rattle.std.specs.Option.{option_copied}
use Rattle.nm_script_lib.specs.Reading.{pieces_of_rest, rest_size}
use Rattle.nm_script_lib.specs.ScriptReading.{steps_of, with_prefix}
use Rattle.nm_script_lib.proofs.script.steps_of.Given as goal

abbrev pub invariant-loop-rest : goal.invariant-loop-rest
invariant-loop-rest l = record {
  room : l.number + rest_size (option_copied l.rest) < 2 ^ 64;
  same : with_prefix l.steps.items
      (steps_of l.mirror l.number (pieces_of_rest 10 (option_copied l.rest))) ≡
      steps_of l.mirror l.initial.number (pieces_of_rest 10 (option_copied l.initial.rest));
}

abbrev pub decreases-loop-rest : goal.decreases-loop-rest
decreases-loop-rest l = rest_size (option_copied l.rest)
