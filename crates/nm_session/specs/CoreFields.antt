-- What a core's fields say of the session.
use Rattle.std.specs.Prelude.{◌≡◌, ◌≢◌, ◌<◌, ◌≤◌, ◌++◌, None, All, vec_len, vec_capacity}
use Rattle.nm_haggle.specs.Haggling.{IsOver}
use Rattle.nm_session.specs.declared.session_core.SessionCore.TheInside.{Inside}
use Rattle.nm_session.specs.declared.stage.Stage.TheVariants as stage
use Rattle.nm_session.specs.Session.{Session, bytes_asked}

abbrev pub session_in : Inside → Session
session_in core = record {
  limit = core.limit;
  stage = core.stage;
  haggling = core.haggle;
  rest = core.reader.rest;
  count = core.reader.count;
  outstanding = core.outstanding.items;
  out = core.out.items ++ core.long.items;
}

-- while the session goes on its reader has stopped at no fault, and while it haggles the haggling
-- is not over; there is room
-- for every request that may be outstanding, their replies carry what is counted and no more than
-- may be, and each of them was read
pub record IsSound (core : Inside) : Type 0 where
  pub haggles : core.stage ≡ stage.Haggling → ¬ IsOver core.haggle
  pub going : ((by : _) → core.stage ≢ stage.Ended by) → core.reader.fault ≡ None
  pub few : vec_len core.outstanding ≤ core.limit.requests
  pub room : core.limit.requests ≤ vec_capacity core.outstanding
  pub asked : core.asked ≡ bytes_asked core.outstanding.items
  pub within : core.asked ≤ core.limit.bytes
  pub known : All (λ held. held.index < core.reader.count) core.outstanding.items
