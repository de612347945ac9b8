-- Which threads make a leg's calls, where these are limited.
use Rattle.std.specs.Arc.{arc_value}
use Rattle.std.specs.Option.{option_map}
use Rattle.std.specs.Prelude.{Option}
use Rattle.std.specs.declared.sync.Arc.{Arc}
use Rattle.nm_leg_files.specs.declared.leg_file.LegFile.{LegFile}
use Rattle.nm_leg_files.specs.declared.timed_calls.TimedCalls.{TimedCalls}

-- those that share this limit
abbrev pub calls_in : {Z : Type 0} → Option (Arc TimedCalls Z) → Option TimedCalls
calls_in limit = option_map (λ calls. arc_value calls) limit

-- those of the leg
abbrev pub calls_of : LegFile → Option TimedCalls
calls_of leg = calls_in (arc_value leg.shared).file.limit
