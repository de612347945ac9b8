-- A store whose legs open one after the other, by how a superblock has them stand.
use Rattle.std.specs.Prelude.{◌≡◌, ◌≢◌, ℕ, zero, suc, ◌<◌, ◌==◌, List, length, slice_index_or}
use Rattle.std.specs.Prelude.{slice_set, if◌then◌else◌}
use Rattle.nm_regions.specs.Table.{leg_at, regions_of}
use Rattle.nm_rules.specs.declared.leg_opening.LegOpening.{LegOpening}
use Rattle.nm_rules.specs.declared.leg_opening.LegOpening.TheVariants.{Missing}
use Rattle.nm_rules.specs.Comparing.{waiting}
use Rattle.nm_rules.specs.Reopening.{OpeningPlan, reopened_leg, reopened_state}
use Rattle.nm_rules.specs.State.{StripeState, table}

-- the leg is set aside
abbrev pub IsAside : {L : Type 0} → ℕ → StripeState L → Type 0
IsAside leg stripe =
    leg_at leg (table stripe) ≡ waiting (regions_of stripe.place.blocks stripe.place.region)

-- each leg but the master is
abbrev pub AreAside : {L : Type 0} → StripeState L → Type 0
AreAside stripe =
    (leg : ℕ) → leg < length stripe.legs → leg ≢ stripe.master → IsAside leg stripe

-- how a leg stands by a plan
abbrev pub stands_as : OpeningPlan → ℕ → LegOpening
stands_as plan leg = slice_index_or plan.others leg Missing

-- the list, with f of how it stands for each of the first so many legs but the master
abbrev pub set_others : {X : Type 0} → OpeningPlan → (LegOpening → X) → ℕ → List X → List X
set_others plan f zero xs = xs
set_others plan f (suc leg) xs =
    let rest = set_others plan f leg xs in
    if leg == plan.master then rest else slice_set rest leg (f (stands_as plan leg))

-- the first so many legs stand by the plan
abbrev pub opened_upto : {L : Type 0} → OpeningPlan → ℕ → StripeState L → StripeState L
opened_upto plan count old = record old {
  states = set_others plan reopened_state count old.states;
  flags = set_others plan
      (reopened_leg plan.marks (regions_of old.place.blocks old.place.region)) count old.flags;
}
