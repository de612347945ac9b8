-- What outlives a crash on the legs that the durable superblock may name.
use Rattle.std.specs.Prelude.{◌≡◌, ◌≢◌, ◌⊎◌, ℕ, ◌<◌, true, false, List, None, length, slice_get}
use Rattle.nm_choice.specs.declared.leg_state.LegState.TheVariants.{InSync, Joining}
use Rattle.nm_fanout.specs.Records.{busy_on}
use Rattle.nm_leg.specs.Leg.{Leg, LegType}
use Rattle.nm_rules.specs.Array.{contents_of, stripe_array}
use Rattle.nm_rules.specs.Flushed.{durable_of}
use Rattle.nm_rules.specs.Invariant.{Keeps}
use Rattle.nm_rules.specs.Sound.{Holds}
use Rattle.nm_rules.specs.State.{StripeState, leg_state}
use Rattle.nm_gate.specs.Durable.{Durable, is_named}
use Rattle.nm_gate.specs.Gate.{is_marked_at}
use Rattle.nm_gate.specs.Held.{NoneOn}
use Rattle.nm_gate.specs.Moves.{AllLeave, Gated, GatedRuns, IsEqualAt, IsGatedFlush, Move, NoneStop}
use Rattle.nm_gate.specs.Saves.{AllListed, IsCovered}

-- a stripe that goes on behind the gate: it keeps what every stripe keeps, and no leg that may be
-- called in sync joins
pub record Stands {L : Type 0} (type : LegType L) (stripe : StripeState L) (d : Durable)
    : Type 0 where
  pub keeps : Keeps type stripe
  pub runs : stripe.stopped ≡ false
  pub apart : (leg : ℕ) → is_named leg d ≡ true → leg_state leg stripe ≢ Joining

-- a crash leaves these contents: at each block what the leg held, or what was durable of it
abbrev pub IsCrash : {L : Type 0} → (L → Leg) → (old new : List L) → (leg block : ℕ) → Type 0
IsCrash model old new leg block =
    (slice_get (contents_of model new leg) block ≡ slice_get (durable_of model old leg) block)
    ⊎ (slice_get (contents_of model new leg) block ≡ slice_get (contents_of model old leg) block)

-- each leg that may be called in sync holds the array at each block that no record of a write is of
abbrev pub NamedHold : {L : Type 0} → LegType L → StripeState L → Durable → Type 0
NamedHold type stripe d =
    (leg block : ℕ) → is_named leg d ≡ true → block < stripe.place.blocks
    → NoneOn block stripe.records → Holds type.model stripe leg block

-- Where the process alone is lost, each leg that the superblock may call in sync holds the array at
-- each block whose writes were all answered: a write's record goes with its answer.
abbrev pub AnsweredSurvive : {L : Type 0} → LegType L → Type 0
AnsweredSurvive {L} type =
    (moves : List (Move L)) (old new : Gated L)
    → Stands type old.stripe old.durable → NamedHold type old.stripe old.durable
    → GatedRuns type moves old new → NoneStop moves
    → NamedHold type new.stripe new.durable

-- After a flush and any moves since that begin no write of the block, each leg that the superblock
-- may call in sync holds, durably, what the array held there at the flush: so a start on any of
-- them finds it, whether the power or only the process was lost.
abbrev pub FlushedSurvive : {L : Type 0} → LegType L → Type 0
FlushedSurvive {L} type =
    (moves later : List (Move L)) (old mid new : Gated L) (block leg : ℕ) (legs : List L)
    → Stands type old.stripe old.durable → block < old.stripe.place.blocks
    → busy_on block old.stripe.records ≡ None
    → GatedRuns type moves old mid → AllLeave block moves
    → IsGatedFlush (length old.stripe.legs) moves
    → GatedRuns type later mid new → AllLeave block later
    → leg < length old.stripe.legs → is_named leg new.durable ≡ true
    → IsCrash type.model new.stripe.legs legs leg block
    → slice_get (contents_of type.model legs leg) block
    ≡ slice_get (stripe_array type.model mid.stripe) block

-- outside marked spans each covered leg holds the array, durably, and no write has a record
abbrev pub EqualOutside : {L : Type 0} → LegType L → StripeState L → Durable → Type 0
EqualOutside type stripe d =
    (block : ℕ) → block < stripe.place.blocks → is_marked_at block stripe d ≡ false
    → IsEqualAt type.model stripe d block

-- So it stays, whatever is done: a start may take each leg that the superblock may call in sync, or
-- say to lack marked spans alone, for equal outside these.
abbrev pub UnmarkedStayEqual : {L : Type 0} → LegType L → Type 0
UnmarkedStayEqual {L} type =
    (moves : List (Move L)) (old new : Gated L)
    → Stands type old.stripe old.durable → EqualOutside type old.stripe old.durable
    → GatedRuns type moves old new → NoneStop moves
    → EqualOutside type new.stripe new.durable

-- Where no record of a write was of a block, and the moves since were a flush and began none, the
-- block's span may be unmarked if each covered leg is in sync.
abbrev pub CooledMayClear : {L : Type 0} → LegType L → Type 0
CooledMayClear {L} type =
    (moves : List (Move L)) (old new : Gated L) (block : ℕ)
    → Stands type old.stripe old.durable → block < old.stripe.place.blocks
    → NoneOn block old.stripe.records
    → GatedRuns type moves old new → AllLeave block moves
    → IsGatedFlush (length old.stripe.legs) moves
    → ((leg : ℕ) → IsCovered new.stripe new.durable leg → leg_state leg new.stripe ≡ InSync)
    → IsEqualAt type.model new.stripe new.durable block

-- each leg in sync stays listed: so the next save calls only listed legs in sync
abbrev pub ListedStay : {L : Type 0} → LegType L → Type 0
ListedStay {L} type =
    (moves : List (Move L)) (old new : Gated L)
    → Stands type old.stripe old.durable → AllListed old.stripe old.durable
    → GatedRuns type moves old new → NoneStop moves
    → AllListed new.stripe new.durable
