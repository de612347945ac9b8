-- Which leg a run has still to reach.
use Rattle.std.specs.Prelude.{ℕ, List, Option}
use Rattle.std.specs.Option.{option_and_then}
use Rattle.nm_fanout.specs.declared.write_record.Record.{Record}
use Rattle.nm_fanout.specs.Record.{lowest_owed}
use Rattle.nm_rules.specs.Runs.{find_run}

-- the lowest leg that the run of this ticket has still to reach
abbrev pub run_owed : ℕ → List Record → Option ℕ
run_owed ticket records = option_and_then lowest_owed (find_run ticket records)
