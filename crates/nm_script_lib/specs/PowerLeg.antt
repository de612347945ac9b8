-- A leg of a script: what it holds.
use Rattle.std.specs.Prelude.{ℕ, true, Option, None, Some}
use Rattle.nm_leg.specs.Leg.{Leg, LegType, leg_type}
use Rattle.nm_leg.specs.TestLegs.{of_fuse}
use Rattle.nm_script_lib.specs.declared.power_leg.PowerLeg.{PowerLeg}
use Rattle.nm_script_lib.specs.Power.{changed}

-- what was written, and what was synced
abbrev pub of_power : PowerLeg → Leg
of_power leg = record {
  contents = (of_fuse leg.cache).contents;
  durable = leg.durable.items;
  unsynced = leg.unsynced.items;
  faults = (of_fuse leg.cache).faults;
}

-- the type of a script's legs: all of them are honest
abbrev pub power_legs : LegType PowerLeg
power_legs = leg_type of_power true

-- how many blocks of it a loss of power would change; none where there is no leg
abbrev pub changed_of : Option PowerLeg → ℕ
changed_of None = 0
changed_of (Some leg) = changed (of_power leg)
