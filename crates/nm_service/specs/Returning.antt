-- How often a leg comes back by itself after reads of it failed. Times are milliseconds.
use Rattle.std.specs.Prelude.{◌<◌, ℕ, ◌+◌, Option, Some, None}
use Rattle.nm_service.specs.declared.read_returns.ReadReturns.{ReadReturns}

-- it did not come back so yet
abbrev pub no_returns : ReadReturns
no_returns = record { last = None; second = None; third = None }

-- it comes back so at this time: the last three times are kept
abbrev pub returned : ℕ → ReadReturns → ReadReturns
returned now old = record { last = Some now; second = old.last; third = old.second }

-- this was less than a day ago
abbrev pub IsWithinADay : Option ℕ → ℕ → Type 0
IsWithinADay None now = ⊥
IsWithinADay (Some at) now = now < at + 86400000

-- it came back so three times in a day
abbrev pub AreSpent : ReadReturns → ℕ → Type 0
AreSpent returns now = IsWithinADay returns.third now
