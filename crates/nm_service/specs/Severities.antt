-- What a line begins with that the system's journal reads.
use Rattle.std.specs.Prelude.{ℕ, List, codes}
use Rattle.nm_service.specs.declared.severity.Severity.{Severity}
use Rattle.nm_service.specs.declared.severity.Severity.TheVariants.{Error, Warning, Info}

-- the number of syslog's level, between angle brackets
abbrev pub priority_of : Severity → List ℕ
priority_of Error = codes "<3>"
priority_of Warning = codes "<4>"
priority_of Info = codes "<6>"
