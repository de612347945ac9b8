use Rattle.std.proofs.Common.{◌≡◌}
use Rattle.std.specs.Option.{option_copied}
use Rattle.std.specs.List.{list_any}
use Rattle.nm_script_lib.specs.Reading.{pieces, pieces_of_rest, rest_size}
use Rattle.nm_script_lib.specs.ScriptReading.{names_mirror}
use Rattle.nm_script_lib.proofs.script.any_names_mirror.Given as goal

abbrev pub invariant-loop-rest : goal.invariant-loop-rest
invariant-loop-rest l = list_any names_mirror (pieces_of_rest 10 (option_copied l.rest)) ≡
    list_any names_mirror (pieces 10 l.text)

abbrev pub decreases-loop-rest : goal.decreases-loop-rest
decreases-loop-rest l = rest_size (option_copied l.rest)
