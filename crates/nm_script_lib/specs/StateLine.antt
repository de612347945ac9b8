-- The line that shows the state of a stripe.
use Rattle.std.specs.Prelude.{ℕ, zero, suc, ◌+◌, List, [], ◌++◌, Bool, true, false, if◌then◌else◌}
use Rattle.std.specs.Prelude.{length, codes, decimal}
use Rattle.nm_choice.specs.declared.leg_state.LegState.{LegState}
use Rattle.nm_choice.specs.declared.leg_state.LegState.TheVariants.{InSync, Joining, Out}
use Rattle.nm_rules.specs.State.{leg_state, left}
use Rattle.nm_script_lib.specs.MemStripe.{MemStripe}

-- A leg's state, with how many blocks are left to copy to it while it joins.
abbrev pub leg_text : LegState → ℕ → List ℕ
leg_text InSync left = codes " in"
leg_text Joining left = codes " join(" ++ decimal left ++ codes ")"
leg_text Out left = codes " out"

-- The states of so many legs, from this one on.
abbrev pub legs_text : MemStripe → ℕ → ℕ → List ℕ
legs_text stripe zero leg = []
legs_text stripe (suc legs) leg =
    leg_text (leg_state leg stripe) (left leg stripe) ++ legs_text stripe legs (leg + 1)

abbrev pub yes_no : Bool → List ℕ
yes_no true = codes "yes"
yes_no false = codes "no"

-- A running stripe: its master, whether it is settling, and all of its legs.
abbrev pub running_text : MemStripe → List ℕ
running_text stripe =
    codes "master " ++ decimal stripe.master ++ codes " settling " ++ yes_no stripe.settling
    ++ codes " legs" ++ legs_text stripe (length stripe.legs) 0

-- The state of a stripe.
abbrev pub state_text : MemStripe → List ℕ
state_text stripe = if stripe.stopped then codes "stopped" else running_text stripe
