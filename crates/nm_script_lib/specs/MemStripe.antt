-- The stripe that a script runs: legs in memory, each with a cache and a fuse, of zero bytes and
-- all in sync, or loaded and compared.
use Rattle.std.specs.Prelude.{◌≡◌, true, ℕ, ◌+◌, ◌*◌, ◌<◌, ◌≤◌, ◌^◌, ◌-◌, ◌==◌, List, [], ◌∷◌}
use Rattle.std.specs.Prelude.{if◌then◌else◌, length, replicate, slice_get, slice_set}
use Rattle.std.specs.Prelude.{Option, None, Some}
use Rattle.std.specs.List.{AllByRecursion}
use Rattle.nm_fanout.specs.declared.block_data.Data.TheVariants.{Cut, Zero as Zeroes, Part}
use Rattle.nm_replay.specs.Array.{Array}
use Rattle.nm_leg.specs.Leg.{Leg, block_of, filled_array, filled_leg}
use Rattle.nm_leg.specs.LegCalls.{EachHas}
use Rattle.nm_leg.specs.TestLegs.{durable_leg}
use Rattle.nm_rules.specs.declared.at.At.{At}
use Rattle.nm_rules.specs.Runs.{FitsRun}
use Rattle.nm_stripe.specs.declared.step.Step.{Step as MachineStep}
use Rattle.nm_stripe.specs.declared.step.Step.TheVariants.{Begin as BeginStep, Push as PushStep}
use Rattle.nm_stripe.specs.declared.step.Step.TheVariants.{Claim as ClaimStep, Read as ReadStep}
use Rattle.nm_stripe.specs.declared.step.Step.TheVariants.{Fail as FailStep, Attach as AttachStep}
use Rattle.nm_stripe.specs.declared.step.Step.TheVariants.{Return as ReturnStep, Flush as FlushStep}
use Rattle.nm_stripe.specs.declared.step.Step.TheVariants.{Replace as ReplaceStep, Copy as CopyStep}
use Rattle.nm_stripe.specs.declared.step.Step.TheVariants.{Promote as PromoteStep, Sync as SyncStep}
use Rattle.nm_rules.specs.Reopening.{Marks}
use Rattle.nm_rules.specs.State.{StripeState}
use Rattle.nm_rules.specs.Comparing.{comparing}
use Rattle.nm_rules.specs.RunComparing.{OpensComparedRuns}
use Rattle.nm_rules.specs.Opening.{opened}
use Rattle.nm_script_lib.specs.declared.load.Load.{Load}
use Rattle.nm_script_lib.specs.declared.mirror_line.MirrorLine.{MirrorLine}
use Rattle.nm_script_lib.specs.declared.power_leg.PowerLeg.{PowerLeg}
use Rattle.nm_script_lib.specs.declared.step.Step.{Step}
use Rattle.nm_script_lib.specs.declared.step.Step.TheVariants.{Ask, Fuse, Peek, Lose, State}
use Rattle.nm_script_lib.specs.declared.step.StripeStep.{StripeStep}
use Rattle.nm_script_lib.specs.declared.step.StripeStep.TheVariants.{Begin, Zero, Patch, Push}
use Rattle.nm_script_lib.specs.declared.step.StripeStep.TheVariants.{Claim, Read, Fail, Attach}
use Rattle.nm_script_lib.specs.declared.step.StripeStep.TheVariants.{Replace, Copy, Promote, Sync}
use Rattle.nm_script_lib.specs.declared.step.StripeStep.TheVariants.{Run, Get, Return, Flush}
use Rattle.nm_script_lib.specs.Power.{unsure}
use Rattle.nm_script_lib.specs.PowerLeg.{of_power, power_legs}

-- The state of a stripe of such legs.
abbrev pub MemStripe : Type 0
MemStripe = StripeState PowerLeg

-- The numbers of a mirror line are in their ranges.
pub record InRange (m : MirrorLine) : Type 0 where
  pub legs : (1 ≤ m.legs) × (m.legs ≤ 8)
  pub blocks : (1 ≤ m.blocks) × (m.blocks ≤ 65536)
  pub region : (1 ≤ m.region) × (m.region ≤ 65536)
  pub chunk : (1 ≤ m.chunk) × (m.chunk ≤ m.region)
  pub first : m.first ≤ 2 ^ 63

-- A leg of this many blocks of one byte, all of it durable, of which no call has failed.
abbrev pub IsFilled : ℕ → ℕ → PowerLeg → Type 0
IsFilled blocks fill leg = of_power leg ≡ filled_leg blocks fill

-- As many legs of zero bytes as the mirror has, of its length.
pub record AreNewLegs (m : MirrorLine) (legs : List PowerLeg) : Type 0 where
  pub count : length legs ≡ m.legs
  pub zero : AllByRecursion (IsFilled m.blocks 0) legs

-- A block of one byte throughout.
unfoldable pub filled_block : ℕ → List ℕ
filled_block fill = replicate 512 fill

-- An array with this load's block, where the load is of this leg.
abbrev pub with_load : ℕ → Load → Array → Array
with_load leg load array =
    if load.leg == leg then slice_set array load.block (block_of (filled_block load.fill))
    else array

-- What a leg has that had this array, after these loads.
abbrev pub loaded : ℕ → List Load → Array → Array
loaded leg [] array = array
loaded leg (load ∷ loads) array = loaded leg loads (with_load leg load array)

-- The leg at this place once the mirror's new legs had these loads: all of it durable, and no call
-- of it has failed.
abbrev pub loaded_leg : MirrorLine → List Load → ℕ → Leg
loaded_leg m loads place =
    durable_leg (loaded place loads (filled_array m.blocks 0)) 0

-- As many legs as the mirror has, with these loads.
pub record AreLoadedLegs (m : MirrorLine) (loads : List Load) (legs : List PowerLeg)
    : Type 0 where
  pub count : length legs ≡ m.legs
  pub each : (place : ℕ) (leg : PowerLeg) → slice_get legs place ≡ Some leg
      → of_power leg ≡ loaded_leg m loads place

-- The place of the stripe.
abbrev pub place_of : MirrorLine → At
place_of m = record {
  stripe = 0;
  blocks = m.blocks;
  region = m.region;
  chunk = m.chunk;
  history = 1024;
}

-- A new stripe has the mirror's shape, such legs, all of them in sync, and the mirror's first
-- number and policy.
pub record IsNew (m : MirrorLine) (stripe : MemStripe) : Type 0 where
  pub legs : AreNewLegs m stripe.legs
  pub state : stripe ≡ opened (place_of m) stripe.legs (2 ^ m.legs - 1) m.first m.policy

-- How a script's stripe opens: with no start it is new; else its legs had these loads, and were
-- compared with that leg.
abbrev pub IsOpened : MirrorLine → List Load → Option ℕ → MemStripe → Type 0
IsOpened m loads None stripe = IsNew m stripe
IsOpened m loads (Some master) stripe =
    (legs : List PowerLeg) × AreLoadedLegs m loads legs
    × OpensComparedRuns power_legs (comparing (place_of m) legs master m.first m.policy) stripe

-- A load names a leg and a block that the mirror has.
abbrev pub FitsLoad : MirrorLine → Load → Type 0
FitsLoad m load = (load.leg < m.legs) × (load.block < m.blocks)

-- All loads do, and the start names a leg that the mirror has.
abbrev pub FitOpening : MirrorLine → List Load → Option ℕ → Type 0
FitOpening m loads None = AllByRecursion (FitsLoad m) loads
FitOpening m loads (Some master) = AllByRecursion (FitsLoad m) loads × (master < m.legs)

-- The stripe has the mirror's place, whose regions have blocks, and its legs, in their ranges.
-- Every step keeps it so.
pub record HasShape (m : MirrorLine) (stripe : MemStripe) : Type 0 where
  pub region : 0 < m.region
  pub sizes : (m.legs ≤ 8) × (m.blocks ≤ 65536)
  pub place : stripe.place ≡ place_of m
  pub legs : length stripe.legs ≡ m.legs
  pub each : EachHas of_power stripe.legs m.blocks

-- The step names blocks and legs that the mirror has, bytes that a block has, and runs that lie in
-- one region.
abbrev pub IsInside : MirrorLine → Step → Type 0
IsInside m (Ask (Begin block fill)) = block < m.blocks
IsInside m (Ask (Zero block)) = block < m.blocks
IsInside m (Ask (Patch block start len fill)) =
    (block < m.blocks) × (0 < len) × (start + len ≤ 512)
IsInside m (Ask (Push ticket leg)) = leg < m.legs
IsInside m (Ask (Claim ticket)) = Unit {0}
IsInside m (Ask (Read block)) = block < m.blocks
IsInside m (Ask (Run block count fill)) = FitsRun (place_of m) block count
IsInside m (Ask (Get block count)) = FitsRun (place_of m) block count
IsInside m (Ask (Fail leg)) = leg < m.legs
IsInside m (Ask (Attach leg)) = leg < m.legs
IsInside m (Ask (Return leg)) = leg < m.legs
IsInside m (Ask (Replace leg fill)) = leg < m.legs
IsInside m (Ask (Copy leg most)) = (leg < m.legs) × (0 < most)
IsInside m (Ask (Promote leg)) = leg < m.legs
IsInside m (Ask (Sync leg)) = leg < m.legs
IsInside m (Ask (Flush leg)) = leg < m.legs
IsInside m (Fuse leg call) = (leg < m.legs) × (0 < call)
IsInside m (Peek leg block) = (leg < m.legs) × (block < m.blocks)
IsInside m (Lose leg) = leg < m.legs
IsInside m State = Unit {0}

-- The bytes of so many blocks, all of them this one.
unfoldable pub filled : ℕ → ℕ → List ℕ
filled count fill = replicate (512 * count) fill

-- One marked span, which has every region of a script's stripe.
abbrev pub everywhere : Marks
everywhere = record { marked = true ∷ []; span = 65536 }

-- A leg to put in another's place: all of it one byte, and none of it known to be synced.
abbrev pub IsReplacement : MirrorLine → ℕ → PowerLeg → Type 0
IsReplacement m fill part = of_power part ≡ unsure (filled_leg m.blocks fill)

-- What a step of a script asks of the stripe. A begin hands in the bytes of its blocks, a patch as
-- many as it names, a read room for those of its blocks, a replace a new leg. A return is asked for
-- as without a superblock: whatever is not synced may be lost.
abbrev pub IsAsked : MirrorLine → StripeStep → MachineStep PowerLeg → Type 0
IsAsked m (Begin block fill) asked = asked ≡ BeginStep block (Cut (filled_block fill))
IsAsked m (Run block count fill) asked = asked ≡ BeginStep block (Cut (filled count fill))
IsAsked m (Zero block) asked = asked ≡ BeginStep block (Zeroes 1)
IsAsked m (Patch block start len fill) asked =
    asked ≡ BeginStep block (Part start (replicate len fill))
IsAsked m (Push ticket leg) asked = asked ≡ PushStep ticket leg
IsAsked m (Claim ticket) asked = asked ≡ ClaimStep ticket
IsAsked m (Read block) asked = asked ≡ ReadStep block (filled 1 0)
IsAsked m (Get block count) asked = asked ≡ ReadStep block (filled count 0)
IsAsked m (Fail leg) asked = asked ≡ FailStep leg
IsAsked m (Attach leg) asked = asked ≡ AttachStep leg
IsAsked m (Return leg) asked = asked ≡ ReturnStep leg everywhere
IsAsked m (Copy leg most) asked = asked ≡ CopyStep leg most 0
IsAsked m (Promote leg) asked = asked ≡ PromoteStep leg
IsAsked m (Sync leg) asked = asked ≡ SyncStep leg
IsAsked m (Flush leg) asked = asked ≡ FlushStep leg
IsAsked m (Replace leg fill) asked =
    (part : PowerLeg) × IsReplacement m fill part × (asked ≡ ReplaceStep leg part)
