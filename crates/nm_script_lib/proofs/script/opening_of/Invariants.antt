-- What the rest of the lines opens with is what all of them do.
use Rattle.std.proofs.Common.{◌≡◌, ◌+◌, ◌≤◌, [], None}
use Rattle.std.specs.Option.{option_copied}
use Rattle.nm_script_lib.specs.Reading.{pieces_of_rest, rest_size}
use Rattle.nm_script_lib.specs.ScriptReading.{opening_from}
use Rattle.nm_script_lib.proofs.script.opening_of.Given as goal

abbrev pub invariant-loop-rest : goal.invariant-loop-rest
invariant-loop-rest l = record {
  reads : opening_from l.mirror ([], None, l.number, pieces_of_rest 10 (option_copied l.text)) l.loads.items l.at (pieces_of_rest 10 (option_copied l.rest))
      ≡ opening_from l.mirror ([], None, l.number, pieces_of_rest 10 (option_copied l.text)) [] l.number (pieces_of_rest 10 (option_copied l.text));
  room : l.at + rest_size (option_copied l.rest) ≤ l.number + rest_size (option_copied l.text);
}

abbrev pub decreases-loop-rest : goal.decreases-loop-rest
decreases-loop-rest l = rest_size (option_copied l.rest)
