-- A start that goes by the superblock: which legs a stripe opens with, and what its array then is.
use Rattle.std.specs.Prelude.{◌≡◌, ◌≢◌, ◌⊎◌, ℕ, ◌<◌, true, false, List, None, length, slice_get}
use Rattle.nm_fanout.specs.Records.{busy_on}
use Rattle.nm_leg.specs.Leg.{Leg, LegType}
use Rattle.nm_rules.specs.Array.{contents_of, stripe_array}
use Rattle.nm_rules.specs.Invariant.{Keeps}
use Rattle.nm_rules.specs.Reopening.{IsClearAt, MayReopen, Reopening, reopened}
use Rattle.nm_rules.specs.State.{StripeState}
use Rattle.nm_gate.specs.Durable.{Durable, is_lacking, is_named}
use Rattle.nm_gate.specs.Gate.{is_marked_at}
use Rattle.nm_gate.specs.Held.{NoneOn}
use Rattle.nm_gate.specs.Moves.{AllLeave, Gated, GatedRuns, IsGatedFlush, Move, NoneStop}
use Rattle.nm_gate.specs.Survive.{EqualOutside, IsCrash, NamedHold, Stands}

-- the legs are what a crash left of those of the old stripe
pub record AreLeft {L : Type 0} (model : L → Leg) (old : StripeState L) (legs : List L)
    : Type 0 where
  pub count : length legs ≡ length old.legs
  pub blocks : (leg block : ℕ) → IsCrash model old.legs legs leg block

-- A start by the superblock: the master is a leg that it may call in sync, and each other leg is
-- behind but in unmarked spans, and there too unless the superblock may call it in sync, or say
-- that it lacks no more than marked spans.
pub record GoesBySuperblock {L : Type 0} (model : L → Leg) (old : StripeState L) (d : Durable)
    (r : Reopening L) : Type 0 where
  pub may : MayReopen model old.place r
  pub left : AreLeft model old r.legs
  pub named : is_named r.master d ≡ true
  pub behind : (leg block : ℕ) → leg < length r.legs → block < old.place.blocks → leg ≢ r.master
      → IsClearAt old.place r.flags leg block
      → (is_marked_at block old d ≡ false)
      × ((is_named leg d ≡ true) ⊎ (is_lacking leg d ≡ true))

-- Then the stripe keeps what every stripe keeps, so that all that is promised of stripes holds of
-- it; and outside marked spans its array is the old one.
abbrev pub RestartsAreRight : {L : Type 0} → LegType L → Type 0
RestartsAreRight {L} type =
    (old : Gated L) (r : Reopening L)
    → Stands type old.stripe old.durable → EqualOutside type old.stripe old.durable
    → GoesBySuperblock type.model old.stripe old.durable r
    → Keeps type (reopened old.stripe.place r)
    × ((block : ℕ) → block < old.stripe.place.blocks
    → is_marked_at block old.stripe old.durable ≡ false
    → slice_get (stripe_array type.model (reopened old.stripe.place r)) block
    ≡ slice_get (stripe_array type.model old.stripe) block)

-- THE THEOREM. After a flush, any moves since that begin no write of the block, and a crash: the
-- stripe that a start opens by the superblock has at that block what the array held there at the
-- flush.
abbrev pub FlushedFoundAgain : {L : Type 0} → LegType L → Type 0
FlushedFoundAgain {L} type =
    (moves later : List (Move L)) (first mid old : Gated L) (block : ℕ) (r : Reopening L)
    → Stands type first.stripe first.durable → block < first.stripe.place.blocks
    → busy_on block first.stripe.records ≡ None
    → GatedRuns type moves first mid → AllLeave block moves
    → IsGatedFlush (length first.stripe.legs) moves
    → GatedRuns type later mid old → AllLeave block later
    → GoesBySuperblock type.model old.stripe old.durable r
    → slice_get (stripe_array type.model (reopened old.stripe.place r)) block
    ≡ slice_get (stripe_array type.model mid.stripe) block

-- the process alone was lost: the legs hold what they held
abbrev pub AreAsTheyWere : {L : Type 0} → (L → Leg) → StripeState L → List L → Type 0
AreAsTheyWere model old legs =
    (leg block : ℕ) → slice_get (contents_of model legs leg) block
    ≡ slice_get (contents_of model old.legs leg) block

-- And where the process alone was lost, it has the array at each block whose writes were all
-- answered.
abbrev pub AnsweredFoundAgain : {L : Type 0} → LegType L → Type 0
AnsweredFoundAgain {L} type =
    (moves : List (Move L)) (first old : Gated L) (block : ℕ) (r : Reopening L)
    → Stands type first.stripe first.durable → NamedHold type first.stripe first.durable
    → GatedRuns type moves first old → NoneStop moves
    → GoesBySuperblock type.model old.stripe old.durable r
    → AreAsTheyWere type.model old.stripe r.legs
    → block < old.stripe.place.blocks → NoneOn block old.stripe.records
    → slice_get (stripe_array type.model (reopened old.stripe.place r)) block
    ≡ slice_get (stripe_array type.model old.stripe) block
