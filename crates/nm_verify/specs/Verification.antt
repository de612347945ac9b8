-- How a verification goes on.
use Rattle.std.specs.Prelude.{ℕ, ◌+◌, ◌/◌, ◌==◌, nat_lt, if◌then◌else◌}
use Rattle.nm_rules.specs.declared.at.At.{At}
use Rattle.nm_verify.specs.Cursor.{at_stripe}
use Rattle.nm_verify.specs.Cursor.{after_leg as cursor_after_leg, after_run as cursor_after_run}
use Rattle.nm_verify.specs.Cursor.{after_write as cursor_after_write}
use Rattle.nm_verify.specs.Findings.{closed, missed, nothing, nothing_found, seen_in}
use Rattle.nm_verify.specs.Runs.{ends_region, run_length}
use Rattle.nm_verify.specs.declared.findings.RegionFindings.{RegionFindings}
use Rattle.nm_verify.specs.declared.looks.Seen.{Seen}
use Rattle.nm_verify.specs.declared.looks.Seen.TheVariants.{NoRun, NoLeg, Written, Unread}
use Rattle.nm_verify.specs.declared.looks.Seen.TheVariants.{Same, Differs}
use Rattle.nm_verify.specs.declared.verification.Verification.{Verification}

-- a verification that has compared nothing
abbrev pub begun : Verification
begun = record { at = at_stripe 0; here = nothing; found = nothing_found }

-- a leg was compared, or given up, with these looks
abbrev pub after_leg : ℕ → Seen → Verification → Verification
after_leg leg seen v =
    record v { at = cursor_after_leg leg v.at; here = seen_in seen v.here }

-- a write came between looks at this leg, which is looked at again, or given up after 100 tries
abbrev pub after_write : ℕ → Verification → Verification
after_write leg v =
    if nat_lt (cursor_after_write v.at).tries 100
    then record v { at = cursor_after_write v.at }
    else record v { at = cursor_after_leg leg v.at; here = missed v.here }

-- what is found in the region with a run of which no leg is left: nothing was compared in it where
-- it had no pair of legs at all
abbrev pub found_here : Verification → RegionFindings
found_here v = if v.at.leg == 0 then missed v.here else v.here

-- a run of so many blocks is left behind, and with its last run a region, which is then counted
abbrev pub after_run : At → ℕ → Verification → Verification
after_run place count v =
    if ends_region place v.at.block count
    then record {
      at = cursor_after_run place count v.at;
      here = nothing;
      found = closed v.at.stripe (v.at.block / place.region) (found_here v) v.found;
    }
    else record v { at = cursor_after_run place count v.at; here = found_here v }

-- looks at two legs, in a run
abbrev pub after_looks : At → Seen → Verification → Verification
after_looks place NoRun v = after_run place (run_length place v.at.block) v
after_looks place NoLeg v = after_run place (run_length place v.at.block) v
after_looks place (Written leg) v = after_write leg v
after_looks place (Unread failed leg) v = after_leg leg (Unread failed leg) v
after_looks place (Same leg) v = after_leg leg (Same leg) v
after_looks place (Differs leg) v = after_leg leg (Differs leg) v

-- the verification after these looks at two legs of a stripe of this place, or at its end
abbrev pub noted : At → Seen → Verification → Verification
noted place seen v =
    if run_length place v.at.block == 0
    then record v { at = at_stripe (v.at.stripe + 1) }
    else after_looks place seen v
