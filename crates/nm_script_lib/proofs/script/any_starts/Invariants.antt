use Rattle.std.proofs.Common.{◌≡◌}
use Rattle.std.specs.Option.{option_copied}
use Rattle.std.specs.List.{list_any}
use Rattle.nm_script_lib.specs.Reading.{pieces_of_rest, rest_size}
use Rattle.nm_script_lib.specs.ScriptReading.{is_start}
use Rattle.nm_script_lib.proofs.script.any_starts.Given as goal

abbrev pub invariant-loop-rest : goal.invariant-loop-rest
invariant-loop-rest l = list_any (is_start l.mirror) (pieces_of_rest 10 (option_copied l.rest)) ≡
    list_any (is_start l.mirror) (pieces_of_rest 10 (option_copied l.text))

abbrev pub decreases-loop-rest : goal.decreases-loop-rest
decreases-loop-rest l = rest_size (option_copied l.rest)
