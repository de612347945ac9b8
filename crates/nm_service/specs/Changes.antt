-- What has happened to a leg from one look at the mirror to the next.
use Rattle.std.specs.Prelude.{◌≡◌, ◌<◌, ◌↔◌, IsTrue}
use Rattle.nm_service.specs.declared.leg_change.LegSight.{LegSight}
use Rattle.nm_service.specs.declared.leg_change.LegChange.{LegChange}

-- the leg lacks nothing in any stripe: it is out in none, and copied in none
abbrev pub LacksNothing : LegSight → Type 0
LacksNothing leg = (leg.out ≡ 0) × (leg.joining ≡ 0)

-- each change is told exactly if it has happened
pub record HasChanged (before after : LegSight) (change : LegChange) : Type 0 where
  pub goes_out : IsTrue change.goes_out ↔ before.out < after.out
  pub stops : IsTrue change.stops ↔ before.stopped < after.stopped
  pub takes_over : IsTrue change.takes_over ↔ before.masters < after.masters
  pub comes_back : IsTrue change.comes_back ↔ after.out < before.out
  pub begins_copy : IsTrue change.begins_copy ↔ (before.left ≡ 0) × (0 < after.left)
  pub is_whole : IsTrue change.is_whole ↔ (LacksNothing before → ⊥) × LacksNothing after
