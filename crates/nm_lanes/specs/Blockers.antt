-- What stands in the way of a step that was refused.
use Rattle.std.specs.Prelude.{Some, None}
use Rattle.nm_rules.specs.declared.refusal.Refusal.{Refusal}
use Rattle.nm_rules.specs.declared.refusal.Refusal.TheVariants as refusal
use Rattle.nm_lanes.specs.declared.blocker.Blocker.{Blocker}
use Rattle.nm_lanes.specs.declared.blocker.Blocker.TheVariants.{Write, Copy, Nothing}

-- a write, a copy, or nothing that could be helped on
abbrev pub blocker_of : Refusal → Blocker
blocker_of (refusal.Busy ticket) = Write (Some ticket)
blocker_of refusal.Settling = Write None
blocker_of refusal.Full = Write None
blocker_of (refusal.Copying leg) = Copy leg
blocker_of (refusal.OtherCopy leg) = Copy leg
blocker_of other = Nothing
