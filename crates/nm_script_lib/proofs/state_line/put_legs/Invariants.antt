use Rattle.std.proofs.Common.{◌≡◌, ◌++◌, ◌-◌}
use Rattle.nm_script_lib.specs.StateLine.{legs_text}
use Rattle.nm_script_lib.proofs.state_line.put_legs.Given as goal

abbrev pub invariant-loop-leg : goal.invariant-loop-leg
invariant-loop-leg l =
    l.text.items ++ legs_text l.stripe (l.legs - l.leg) l.leg
    ≡ l.initial.text.items ++ legs_text l.stripe l.legs 0
