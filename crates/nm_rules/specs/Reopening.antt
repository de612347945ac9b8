-- A stripe that a start opens by what a superblock says of its legs, none of which is read.
use Rattle.std.specs.Prelude.{◌≡◌, ℕ, zero, suc, ◌+◌, ◌<◌, ◌/◌, Bool, true, false}
use Rattle.std.specs.Prelude.{List, [], ◌∷◌, None, length, map, replicate, slice_get}
use Rattle.std.specs.Prelude.{slice_index_or, slice_set}
use Rattle.nm_choice.specs.declared.leg_state.LegState.{LegState}
use Rattle.nm_choice.specs.declared.leg_state.LegState.TheVariants.{InSync, Joining, Out}
use Rattle.nm_choice.specs.declared.policy.Policy.{Policy}
use Rattle.nm_leg.specs.Leg.{Leg}
use Rattle.nm_leg.specs.LegCalls.{EachHas}
use Rattle.nm_regions.specs.LegFlags.{LegRegions, has_behind, is_behind, no_leg, opened_leg}
use Rattle.nm_regions.specs.Sound.{AllHave, AreSizes}
use Rattle.nm_regions.specs.Table.{regions_of}
use Rattle.nm_rules.specs.declared.at.At.{At}
use Rattle.nm_rules.specs.declared.leg_opening.LegOpening.{LegOpening}
use Rattle.nm_rules.specs.declared.leg_opening.LegOpening.TheVariants.{Missing, Partial, Whole}
use Rattle.nm_rules.specs.declared.marked_plan.MarkedPlan.{MarkedPlan}
use Rattle.nm_rules.specs.Array.{contents_of}
use Rattle.nm_rules.specs.State.{StripeState, is_out}

-- the legs that a start opens a stripe with: their states, where they are behind, the master, the
-- first number and the policy
pub record Reopening (L : Type 0) : Type 0 where
  pub legs : List L
  pub states : List LegState
  pub flags : List LegRegions
  pub master : ℕ
  pub first : ℕ
  pub policy : Policy

-- the stripe that it opens: with no record of a write and no history
abbrev pub reopened : {L : Type 0} → At → Reopening L → StripeState L
reopened place r = record {
  place = place;
  policy = r.policy;
  legs = r.legs;
  states = r.states;
  flags = r.flags;
  master = r.master;
  settling = false;
  stopped = false;
  turn = 0;
  copy = None;
  chunk = None;
  records = [];
  tickets = 0;
  kept = record { entries = []; most = place.history };
  first = r.first;
  total = 0;
}

-- the leg is not behind at the block
abbrev pub IsClearAt : At → List LegRegions → (leg block : ℕ) → Type 0
IsClearAt place flags leg block =
    is_behind (block / place.region) (slice_index_or flags leg no_leg) ≡ false

-- states and regions that go together: one a leg, the master in sync, each leg in sync behind
-- nowhere
pub record MayReopen {L : Type 0} (model : L → Leg) (place : At) (r : Reopening L) : Type 0 where
  pub sizes : AreSizes place.blocks place.region (length r.legs)
  pub some_chunk : 0 < place.chunk
  pub lengths : EachHas model r.legs place.blocks
  pub state_each : length r.states ≡ length r.legs
  pub flags_each : length r.flags ≡ length r.legs
  pub regions : AllHave (regions_of place.blocks place.region) r.flags
  pub master : slice_index_or r.states r.master Out ≡ InSync
  pub outs : (leg : ℕ)
      → (slice_index_or r.flags leg no_leg).out ≡ is_out (slice_index_or r.states leg Out)
  pub in_sync : (leg : ℕ) → slice_index_or r.states leg Out ≡ InSync
      → has_behind (slice_index_or r.flags leg no_leg) ≡ false

-- each leg holds what the master holds at each block at which it is not behind
abbrev pub AgreeWhereClear : {L : Type 0} → (L → Leg) → At → Reopening L → Type 0
AgreeWhereClear model place r =
    (leg block : ℕ) → leg < length r.legs → block < place.blocks
    → IsClearAt place r.flags leg block
    → slice_get (contents_of model r.legs leg) block
    ≡ slice_get (contents_of model r.legs r.master) block

-- the marks of spans, each of so many regions
pub record Marks : Type 0 where
  pub marked : List Bool
  pub span : ℕ

-- the region's span is marked
abbrev pub is_in_marked : Marks → ℕ → Bool
is_in_marked marks region = slice_index_or marks.marked (region / marks.span) false

-- for each of so many regions, from this one on, whether its span is marked
abbrev pub marks_from : Marks → (count region : ℕ) → List Bool
marks_from marks zero region = []
marks_from marks (suc count) region =
    is_in_marked marks region ∷ marks_from marks count (region + 1)

-- the state of a leg that is not the master
abbrev pub reopened_state : LegOpening → LegState
reopened_state Partial = Joining
reopened_state Whole = Joining
reopened_state Missing = Out

-- and its regions, so many: behind in the marked spans alone, or everywhere
abbrev pub reopened_leg : Marks → (regions : ℕ) → LegOpening → LegRegions
reopened_leg marks regions Partial = record { out = false; behind = marks_from marks regions 0 }
reopened_leg marks regions Whole = opened_leg regions false
reopened_leg marks regions Missing = record { out = true; behind = replicate regions true }

-- how a superblock has a stripe open: its master, how each other leg stands, and the marks
pub record OpeningPlan : Type 0 where
  pub master : ℕ
  pub others : List LegOpening
  pub marks : Marks

-- the plan that the code hands in
abbrev pub plan_of : MarkedPlan → OpeningPlan
plan_of plan = record {
  master = plan.master;
  others = plan.others.now;
  marks = record { marked = plan.marked.now; span = plan.span };
}

-- the states of the legs: the master is in sync
abbrev pub reopened_states : OpeningPlan → List LegState
reopened_states plan = slice_set (map reopened_state plan.others) plan.master InSync

-- the regions of the legs, so many each: the master is behind nowhere
abbrev pub reopened_flags : (regions : ℕ) → OpeningPlan → List LegRegions
reopened_flags regions plan =
    slice_set (map (reopened_leg plan.marks regions) plan.others) plan.master
    (opened_leg regions true)

-- what a start opens a stripe with by this plan
abbrev pub planned : {L : Type 0} → At → List L → OpeningPlan → ℕ → Policy → Reopening L
planned place legs plan first policy = record {
  legs = legs;
  states = reopened_states plan;
  flags = reopened_flags (regions_of place.blocks place.region) plan;
  master = plan.master;
  first = first;
  policy = policy;
}
