-- A run is one step: its entries lie all before those of another run, or all after them.
use Rattle.std.specs.Prelude.{◌≡◌, ◌⊎◌, ℕ, ◌+◌, ◌<◌, ◌≤◌, List, [], slice_get, Option, None, Some}
use Rattle.std.specs.Option.{option_and_then}
use Rattle.nm_leg.specs.Leg.{LegType}
use Rattle.nm_rules.specs.Runs.{EntryNames}
use Rattle.nm_rules.specs.State.{StripeState}
use Rattle.nm_stripe.specs.declared.answer.Answer.{Answer}
use Rattle.nm_stripe.specs.declared.answer.Answer.TheVariants.{Value, Written}
use Rattle.nm_stripe.specs.declared.step.Step.{Step}
use Rattle.nm_stripe.specs.Run.{ActOnOneArray, Runs}

-- the entries that an answer names: those of a finished write, or of a read
abbrev pub names_in : {L : Type 0} → Answer L → Option EntryNames
names_in (Written written) = Some written
names_in (Value value) = Some value.names
names_in answer = None

-- those that the answer at this place names
abbrev pub names_at : {L : Type 0} → ℕ → List (Answer L) → Option EntryNames
names_at i answers = option_and_then names_in (slice_get answers i)

-- the numbers of the one lie all before those of the other, or all after them
abbrev pub AreApart : EntryNames → EntryNames → Type 0
AreApart one other =
    (one.number + one.count ≤ other.number) ⊎ (other.number + other.count ≤ one.number)

-- so do those of any two of the answers that name entries
abbrev pub NameApart : {L : Type 0} → List (Answer L) → Type 0
NameApart answers =
    (i j : ℕ) (one other : EntryNames) → i < j
    → names_at i answers ≡ Some one → names_at j answers ≡ Some other → AreApart one other

-- so it is with all steps of a stripe that has no records at first, as one that was opened, where
-- they act once on one array, as `Stripe::run` promises
abbrev pub RunsLieApart : {L : Type 0} → LegType L → Type 0
RunsLieApart {L} type =
    (steps : List (Step L)) (answers : List (Answer L)) (old new : StripeState L)
    → old.records ≡ [] → Runs type old steps answers new
    → ActOnOneArray type.model steps answers old new → NameApart answers
