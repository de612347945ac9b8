use Rattle.std.proofs.Common.{◌≡◌, ◌+◌, ◌≤◌, not, length}
use Rattle.std.specs.Option.{option_copied}
use Rattle.std.specs.Str.{is_utf8}
use Rattle.nm_script_lib.specs.Reading.{pieces, pieces_of_rest, rest_size}
use Rattle.nm_script_lib.specs.ScriptReading.{first_where}
use Rattle.nm_script_lib.proofs.script.first_not_utf8.Given as goal

abbrev pub invariant-loop-rest : goal.invariant-loop-rest
invariant-loop-rest l = record {
  room : l.number + rest_size (option_copied l.rest) ≤ length l.text + 2;
  same : first_where (λ line. not (is_utf8 line)) l.number (pieces_of_rest 10 (option_copied l.rest)) ≡
      first_where (λ line. not (is_utf8 line)) 1 (pieces 10 l.text);
}

abbrev pub decreases-loop-rest : goal.decreases-loop-rest
decreases-loop-rest l = rest_size (option_copied l.rest)
