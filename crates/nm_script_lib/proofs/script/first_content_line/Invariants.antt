use Rattle.std.proofs.Common.{◌≡◌, ◌+◌, ◌≤◌, length}
use Rattle.std.specs.Option.{option_copied}
use Rattle.nm_script_lib.specs.Reading.{pieces, pieces_of_rest, rest_size}
use Rattle.nm_script_lib.specs.ScriptReading.{content_from}
use Rattle.nm_script_lib.proofs.script.first_content_line.Given as goal

abbrev pub invariant-loop-rest : goal.invariant-loop-rest
invariant-loop-rest l = record {
  room : l.number + rest_size (option_copied l.rest) ≤ length l.text + 2;
  same : content_from l.number (pieces_of_rest 10 (option_copied l.rest)) ≡
      content_from 1 (pieces 10 l.text);
}

abbrev pub decreases-loop-rest : goal.decreases-loop-rest
decreases-loop-rest l = rest_size (option_copied l.rest)
