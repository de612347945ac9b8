-- A stripe whose calls are out, on legs as they were answered: each call is said to be made at its
-- answer. So a step knows no leg, and what it says holds for all legs that agree with the stripe.
use Rattle.std.specs.Prelude.{◌≡◌, ◌*◌, ℕ, Bool, false, true, List, length}
use Rattle.nm_leg.specs.Leg.{Leg, LegType, blocks_of, leg_type}
use Rattle.nm_rules.specs.Invariant.{Keeps}
use Rattle.nm_rules.specs.RunCalls.{ReadsRunAt}
use Rattle.nm_rules.specs.State.{StripeState}
use Rattle.nm_calls.specs.CallsOut.{Calling, ReadOut}
use Rattle.nm_calls.specs.HasCalls.{HasCalls}

-- what holds of a stripe, and of its calls that are out
pub record KeepsCalls {L : Type 0} (type : LegType L) (c : Calling L) : Type 0 where
  pub stripe : Keeps type c.stripe
  pub calls : HasCalls type c

-- honest legs, as they were answered
abbrev pub answered : LegType Leg
answered = leg_type (λ leg. leg) true

-- the stripe, on these legs
abbrev pub stripe_on : {L : Type 0} → List Leg → StripeState L → StripeState Leg
stripe_on legs s = record {
  place = s.place;
  policy = s.policy;
  legs = legs;
  states = s.states;
  flags = s.flags;
  master = s.master;
  settling = s.settling;
  stopped = s.stopped;
  turn = s.turn;
  copy = s.copy;
  chunk = s.chunk;
  records = s.records;
  tickets = s.tickets;
  kept = s.kept;
  first = s.first;
  total = s.total;
}

-- the stripe with its calls, on these legs
abbrev pub calling_on : {L : Type 0} → List Leg → Calling L → Calling Leg
calling_on legs c = record { stripe = stripe_on legs c.stripe; calls = c.calls }

-- the call of a read that counts went well or not, and left these legs; of one that is void nothing
-- is known
abbrev pub CallsFor : (void : Bool) → ReadOut → (done : Bool) → List ℕ → (legs after : List Leg)
    → Type 0
CallsFor true x done bytes legs after = after ≡ legs
CallsFor false x done bytes legs after =
    (length bytes ≡ 512 * x.count)
    × ReadsRunAt answered done x.leg x.block (blocks_of bytes) legs after
