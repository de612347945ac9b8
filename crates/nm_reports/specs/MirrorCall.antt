-- What a call of a mirror changes.
use Rattle.std.specs.Prelude.{Bool, true, false}
use Rattle.nm_reports.specs.declared.mirror_call.MirrorCall.{MirrorCall}
use Rattle.nm_reports.specs.declared.mirror_call.MirrorCall.TheVariants as mirror

-- the call changes what the export holds
abbrev pub changes : MirrorCall → Bool
changes (mirror.Write offset payload) = true
changes (mirror.Zero offset count) = true
changes call = false
