-- Where the run of a ticket stands.
use Rattle.std.specs.Prelude.{ℕ, List, filter, nat_lt}
use Rattle.nm_fanout.specs.declared.write_record.Record.{Record}
use Rattle.nm_fanout.specs.Records.{runs_in}

-- the place of this ticket's run among the runs: so many began before it
abbrev pub place_of : ℕ → List Record → ℕ
place_of ticket records = runs_in (filter (λ r. nat_lt r.ticket ticket) records)
