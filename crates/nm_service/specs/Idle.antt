-- When a session was last at work, and when it is closed for having been idle too long.
use Rattle.std.specs.Prelude.{◌≡◌, ◌<◌, ◌≤◌, ℕ, ◌+◌, ◌-◌, Option, Some, None}
use Rattle.nm_service.specs.declared.idle.SessionUse.{SessionUse}
use Rattle.nm_service.specs.declared.idle.LastChange.{LastChange}

-- a session has been idle for so long: since it was last at work, and not at all while a request of
-- it is under way
pub record IsIdleFor (usage : SessionUse) (now time : ℕ) : Type 0 where
  pub busy : 0 < usage.under_way → time ≡ 0
  pub idle : usage.under_way ≡ 0 → time ≡ now - usage.last

-- there is a limit, no request of the session is under way, and it was last at work so long ago
abbrev pub IsToClose : Option ℕ → SessionUse → ℕ → Type 0
IsToClose None usage now = ⊥
IsToClose (Some limit) usage now = (usage.under_way ≡ 0) × (usage.last + limit ≤ now)

-- a look at the count: it changed last at this look where it is another one than before, and else
-- when it was last seen to change
pub record Looks (old : LastChange) (count now at : ℕ) (new : LastChange) : Type 0 where
  pub same : count ≡ old.count → at ≡ old.at
  pub changed : (count ≡ old.count → ⊥) → at ≡ now
  pub known : (new.count ≡ count) × (new.at ≡ at)
