-- A list of steps: which answers each may have, and that its operations act on one array.
use Rattle.std.specs.Prelude.{◌≡◌, ℕ, ◌*◌, ◌<◌, List, [], ◌∷◌, ◌++◌, Some, length}
use Rattle.nm_replay.specs.Events.{Event, marks_of}
use Rattle.nm_fanout.specs.Data.{FitsBlocks, data_blocks}
use Rattle.nm_leg.specs.Leg.{Leg, LegType, blocks_in, blocks_of}
use Rattle.nm_rules.specs.Acts.{Acts}
use Rattle.nm_rules.specs.Attach.{Attaches, Replaces, Returns, attach_cause}
use Rattle.nm_rules.specs.Begin.{LosesInBegin}
use Rattle.nm_rules.specs.Failing.{fail_cause}
use Rattle.nm_rules.specs.Promote.{promote_cause}
use Rattle.nm_rules.specs.RunBegin.{begins_of}
use Rattle.nm_rules.specs.RunClaim.{ClaimsRun, claim_run_cause, replies_of}
use Rattle.nm_rules.specs.RunPush.{push_run_cause}
use Rattle.nm_rules.specs.RunRead.{marks_of_reads}
use Rattle.nm_rules.specs.Runs.{FitsRun}
use Rattle.nm_rules.specs.State.{StripeState, left}
use Rattle.nm_stripe.specs.declared.answer.Answer.{Answer}
use Rattle.nm_stripe.specs.declared.answer.Answer.TheVariants.{Begun, Pushed, Complete, Halted}
use Rattle.nm_stripe.specs.declared.answer.Answer.TheVariants.{Written, Value, Failed}
use Rattle.nm_stripe.specs.declared.answer.Answer.TheVariants.{MasterChanged, Joining, Copied}
use Rattle.nm_stripe.specs.declared.answer.Answer.TheVariants.{InSync, Synced, LegLost, Refused}
use Rattle.nm_stripe.specs.declared.answer.Answer.TheVariants.{Nothing as NothingLeft}
use Rattle.nm_stripe.specs.declared.answer.Handed.{Handed}
use Rattle.nm_stripe.specs.declared.answer.Handed.TheVariants.{Nothing, Data, Replacement, Room}
use Rattle.nm_stripe.specs.declared.copy.Copying.TheVariants as copying
use Rattle.nm_stripe.specs.declared.fail.Failing.TheVariants as failing
use Rattle.nm_stripe.specs.declared.push.Reach.TheVariants as reach
use Rattle.nm_stripe.specs.declared.read.Reading.TheVariants as reading
use Rattle.nm_stripe.specs.declared.step.Step.{Step}
use Rattle.nm_stripe.specs.declared.step.Step.TheVariants.{Begin, Push, Claim, Read, Fail, Attach}
use Rattle.nm_stripe.specs.declared.step.Step.TheVariants.{Return, Replace, Copy, Promote}
use Rattle.nm_stripe.specs.declared.step.Step.TheVariants.{Sync, Flush}
use Rattle.nm_stripe.specs.declared.sync.Promotion.TheVariants as promotion
use Rattle.nm_stripe.specs.declared.sync.Syncing.TheVariants as syncing
use Rattle.nm_stripe.specs.Begin.{BeginsWith, RefusesBegin, puts_in}
use Rattle.nm_stripe.specs.Copy.{Copies, RefusesCopy}
use Rattle.nm_stripe.specs.Fail.{Fails}
use Rattle.nm_stripe.specs.Push.{Reaches}
use Rattle.nm_stripe.specs.Read.{Reads, RefusesRead}
use Rattle.nm_stripe.specs.Sync.{EndsJoining, FlushesLeg, Syncs, RefusesSync}

-- a step that may be asked for: its blocks are a run of the stripe, its leg is there, its data and
-- its room fit the blocks, its spans have regions, a new leg is as long as the stripe, and a copy
-- may move some block
abbrev pub MayBeAsked : {L : Type 0} → (L → Leg) → StripeState L → Step L → Type 0
MayBeAsked model stripe (Begin block bytes) =
    FitsRun stripe.place block (data_blocks bytes) × FitsBlocks bytes
MayBeAsked model stripe (Push ticket leg) = leg < length stripe.legs
MayBeAsked model stripe (Claim ticket) = Unit {0}
MayBeAsked model stripe (Read block room) =
    FitsRun stripe.place block (blocks_in room) × (length room ≡ 512 * blocks_in room)
MayBeAsked model stripe (Fail leg) = leg < length stripe.legs
MayBeAsked model stripe (Attach leg) = leg < length stripe.legs
MayBeAsked model stripe (Return leg marks) = (leg < length stripe.legs) × (0 < marks.span)
MayBeAsked model stripe (Replace leg part) =
    (leg < length stripe.legs) × (length (model part).contents ≡ stripe.place.blocks)
MayBeAsked model stripe (Copy leg most from) = (leg < length stripe.legs) × (0 < most)
MayBeAsked model stripe (Promote leg) = leg < length stripe.legs
MayBeAsked model stripe (Sync leg) = leg < length stripe.legs
MayBeAsked model stripe (Flush leg) = leg < length stripe.legs

-- each of the steps may be asked for
abbrev pub AllAsked : {L : Type 0} → (L → Leg) → StripeState L → List (Step L) → Type 0
AllAsked model stripe [] = Unit {0}
AllAsked model stripe (step ∷ steps) = MayBeAsked model stripe step × AllAsked model stripe steps

-- the room is handed back with these bytes in it: as many as it had
abbrev pub IsHanded : {L : Type 0} → Handed L → List ℕ → List ℕ → Type 0
IsHanded handed room bytes = (handed ≡ Room bytes) × (length bytes ≡ length room)

-- a step with its answer: these answers and no others
abbrev pub StepOf : {L : Type 0} → LegType L → Step L → Answer L
    → StripeState L → StripeState L → Type 0
StepOf type (Begin block bytes) (Begun ticket) old new =
    BeginsWith type old new block bytes ticket
StepOf type (Begin block bytes) (LegLost gone handed) old new =
    LosesInBegin type old new block bytes gone × (handed ≡ Data bytes)
StepOf type (Begin block bytes) (Refused refusal handed) old new =
    RefusesBegin type old new block bytes refusal × (handed ≡ Data bytes)
StepOf type (Push ticket leg) (Pushed count) old new =
    Reaches type old new ticket leg (reach.Pushed count)
StepOf type (Push ticket leg) (Complete number) old new =
    Reaches type old new ticket leg (reach.Complete number)
StepOf type (Push ticket leg) (LegLost gone handed) old new =
    Reaches type old new ticket leg (reach.LegLost gone) × (handed ≡ Nothing)
StepOf type (Push ticket leg) Halted old new = Reaches type old new ticket leg reach.Halted
StepOf type (Push ticket leg) (Refused refusal handed) old new =
    (push_run_cause old ticket leg ≡ Some refusal) × (handed ≡ Nothing) × (new ≡ old)
StepOf type (Claim ticket) (Written written) old new = ClaimsRun old new ticket written
StepOf type (Claim ticket) (Refused refusal handed) old new =
    (claim_run_cause old ticket ≡ Some refusal) × (handed ≡ Nothing) × (new ≡ old)
StepOf type (Read block room) (Value value) old new =
    Reads type old new block value.bytes (reading.Value value.names)
    × (length value.bytes ≡ length room)
StepOf type (Read block room) (LegLost gone handed) old new =
    (left : List ℕ)
    × Reads type old new block left (reading.LegLost gone) × IsHanded handed room left
StepOf type (Read block room) (Refused refusal handed) old new =
    (left : List ℕ)
    × RefusesRead type old new block room left refusal × IsHanded handed room left
StepOf type (Fail leg) Failed old new = Fails old new leg failing.Failed
StepOf type (Fail leg) (MasterChanged master) old new =
    Fails old new leg (failing.MasterChanged master)
StepOf type (Fail leg) (Refused refusal handed) old new =
    (fail_cause old leg ≡ Some refusal) × (handed ≡ Nothing) × (new ≡ old)
StepOf type (Attach leg) (Joining blocks) old new = Attaches old new leg × (blocks ≡ left leg new)
StepOf type (Attach leg) (Refused refusal handed) old new =
    (attach_cause old leg ≡ Some refusal) × (handed ≡ Nothing) × (new ≡ old)
StepOf type (Return leg marks) (Joining blocks) old new =
    Returns type.model old new leg marks × (blocks ≡ left leg new)
StepOf type (Return leg marks) (Refused refusal handed) old new =
    (attach_cause old leg ≡ Some refusal) × (handed ≡ Nothing) × (new ≡ old)
StepOf type (Replace leg part) (Joining blocks) old new =
    Replaces old new leg part × (blocks ≡ left leg new)
StepOf type (Replace leg part) (Refused refusal handed) old new =
    (attach_cause old leg ≡ Some refusal) × (handed ≡ Replacement part) × (new ≡ old)
StepOf type (Copy leg most from) (Copied moved blocks) old new =
    Copies type old new leg most from (copying.Copied moved blocks)
StepOf type (Copy leg most from) NothingLeft old new =
    Copies type old new leg most from copying.Nothing
StepOf type (Copy leg most from) (LegLost gone handed) old new =
    Copies type old new leg most from (copying.LegLost gone) × (handed ≡ Nothing)
StepOf type (Copy leg most from) (Refused refusal handed) old new =
    RefusesCopy type old new leg most from refusal × (handed ≡ Nothing)
StepOf type (Promote leg) InSync old new = EndsJoining type old new leg promotion.InSync
StepOf type (Promote leg) (LegLost gone handed) old new =
    EndsJoining type old new leg (promotion.LegLost gone) × (handed ≡ Nothing)
StepOf type (Promote leg) (Refused refusal handed) old new =
    (promote_cause old leg ≡ Some refusal) × (handed ≡ Nothing) × (new ≡ old)
StepOf type (Sync leg) Synced old new = Syncs type old new leg syncing.Synced
StepOf type (Sync leg) (LegLost gone handed) old new =
    Syncs type old new leg (syncing.LegLost gone) × (handed ≡ Nothing)
StepOf type (Sync leg) (Refused refusal handed) old new =
    RefusesSync type old new leg refusal × (handed ≡ Nothing)
StepOf type (Flush leg) Synced old new = FlushesLeg type old new leg syncing.Synced
StepOf type (Flush leg) (LegLost gone handed) old new =
    FlushesLeg type old new leg (syncing.LegLost gone) × (handed ≡ Nothing)
StepOf type (Flush leg) (Refused refusal handed) old new =
    RefusesSync type old new leg refusal × (handed ≡ Nothing)
StepOf type step answer old new = ⊥

-- the steps may have these answers, one after the other
abbrev pub Runs : {L : Type 0} → LegType L → StripeState L → List (Step L)
    → List (Answer L) → StripeState L → Type 0
Runs type old [] [] new = new ≡ old
Runs {L} type old (step ∷ steps) (answer ∷ answers) new =
    (mid : StripeState L)
    × StepOf type step answer old mid × Runs type mid steps answers new
Runs type old steps answers new = ⊥

-- the begins and replies of a step with its answer
abbrev pub marks : {L : Type 0} → Step L → Answer L → List Event
marks (Begin block bytes) (Begun ticket) = begins_of ticket block (puts_in bytes)
marks (Claim ticket) (Written written) = replies_of ticket written.number written.count
marks (Read block room) (Value value) =
    marks_of_reads value.names.number block (blocks_of value.bytes)
marks step answer = []

-- a list of events for each step, in the order of the steps: the step's begins and replies in
-- order, with entries anywhere among them
abbrev pub IsInterleaving : {L : Type 0} → List (Step L) → List (Answer L)
    → List (List Event) → Type 0
IsInterleaving [] [] [] = Unit {0}
IsInterleaving (step ∷ steps) (answer ∷ answers) (events ∷ more) =
    (marks_of events ≡ marks step answer) × IsInterleaving steps answers more
IsInterleaving steps answers lists = ⊥

-- the events of all lists, one list after the other
abbrev pub concat : List (List Event) → List Event
concat [] = []
concat (events ∷ more) = events ++ concat more

-- no answer says that a leg failed and stopped the stripe
abbrev pub NoneHalted : {L : Type 0} → List (Answer L) → Type 0
NoneHalted [] = Unit {0}
NoneHalted (Halted ∷ answers) = ⊥
NoneHalted (answer ∷ answers) = NoneHalted answers

-- each operation of the steps acts once, between its begin and its reply, on one array: the steps'
-- begins and replies, with some entries among them, are explained from the stripe before to the
-- stripe after
pub record ActOnOneArray {L : Type 0} (model : L → Leg) (steps : List (Step L))
    (answers : List (Answer L)) (old new : StripeState L) : Type 0 where
  pub events_of_each : List (List Event)
  pub interleaving : IsInterleaving steps answers events_of_each
  pub acts : Acts model old new (concat events_of_each)
