-- A step changes no leg's length.
use Rattle.std.proofs.Common.{◌≡◌, ⊎_elim, ℕ, ◌<◌, ◌==◌, Bool, true, false, cond, List, Some, length, slice_set, inl, inr, refl, sym, ap, subst, ◌∙◌}
use Rattle.std.specs.List.{slice_get}
use Rattle.std.proofs.lemmas.Bool.{cases_Bool, eqb-true, eqb-false}
use Rattle.std.proofs.lemmas.Option.{same_Some}
use Rattle.nm_replay.proofs.Arrays.{slice_get-set_same, slice_get-set_other}
use Rattle.nm_replay.specs.declared.block.Block.{Block}
use Rattle.nm_fanout.specs.declared.block_data.Data.{Data}
use Rattle.nm_fanout.specs.declared.block_data.Data.TheVariants.{Cut, Zero, Part, ZeroPart}
use Rattle.nm_leg.specs.LegCalls.{EachHas}
use Rattle.nm_script_lib.specs.PowerLeg.{of_power, power_legs}
use Rattle.nm_script_lib.specs.declared.power_leg.PowerLeg.{PowerLeg}
use Rattle.nm_rules.specs.declared.refusal.Refusal.{Refusal}
use Rattle.nm_rules.specs.Begin.{ReadsBase}
use Rattle.nm_rules.specs.Lost.{failed_over, lost, settled, without_leg_of}
use Rattle.nm_stripe.specs.declared.answer.Answer.{Answer}
use Rattle.nm_stripe.specs.declared.answer.Answer.TheVariants.{Begun, Pushed, Complete, Halted, Written, Value, Failed, MasterChanged, Joining, Copied, Nothing, InSync, Synced, LegLost, Refused}
use Rattle.nm_stripe.specs.declared.step.Step.{Step as MachineStep}
use Rattle.nm_stripe.specs.declared.step.Step.TheVariants.{Begin, Push, Claim, Read, Fail, Attach, Return, Replace, Copy, Promote, Sync, Flush}
use Rattle.nm_stripe.specs.Begin.{BeginsWith, RefusesBegin, ForCause as BeginCause, ForFault as BeginFault}
use Rattle.nm_stripe.specs.Copy.{RefusesCopy, ForCause as CopyCause, ForFault as CopyFault}
use Rattle.nm_stripe.specs.Read.{RefusesRead, ForCause as ReadCause, ForFault as ReadFault}
use Rattle.nm_stripe.specs.Sync.{RefusesSync, ForCause as SyncCause, ForFault as SyncFault}
use Rattle.nm_stripe.specs.Run.{MayBeAsked, StepOf}
use Rattle.nm_script_lib.specs.MemStripe.{MemStripe}

-- the stripe's legs have so many blocks
abbrev Long : ℕ → MemStripe → Type 0
Long blocks stripe = EachHas of_power stripe.legs blocks

same_legs : (blocks : ℕ) (old new : MemStripe) → new.legs ≡ old.legs → Long blocks old →
    Long blocks new
same_legs blocks old new e long = subst (λ (legs : List PowerLeg). EachHas of_power legs blocks) (sym e) long

same : (blocks : ℕ) (old new : MemStripe) → new ≡ old → Long blocks old → Long blocks new
same blocks old new e long = same_legs blocks old new (ap (λ (s : MemStripe). s.legs) e) long

-- a leg that goes out leaves the list of legs
lost_legs : (leg : ℕ) (old : MemStripe) → (lost leg old).legs ≡ old.legs
lost_legs leg old =
    elim (leg == old.master) as (λ b. (settled (cond b (failed_over (without_leg_of leg old)) (without_leg_of leg old))).legs ≡ old.legs) [ true ↦ refl | false ↦ refl ]

-- a leg in the place of another is as long
pub set_long : (blocks : ℕ) (legs : List PowerLeg) (leg : ℕ) (part : PowerLeg) → leg < length legs →
    length (of_power part).contents ≡ blocks → EachHas of_power legs blocks →
    EachHas of_power (slice_set legs leg part) blocks
set_long blocks legs leg part inside e long = λ place x found. elim (cases_Bool (leg == place)) [
  | inl same ↦
      let there : slice_get (slice_set legs leg part) leg ≡ Some x =
      subst (λ k. slice_get (slice_set legs leg part) k ≡ Some x) (sym (eqb-true leg place same)) found in
      let is : Some part ≡ Some x = sym (slice_get-set_same legs leg part inside) ∙ there in
      ap (λ (l : PowerLeg). length (of_power l).contents) (sym (same_Some part x is)) ∙ e
  | inr other ↦
      long place x (sym (slice_get-set_other legs leg place part (eqb-false leg place other)) ∙ found)
]

begin_refused : (blocks : ℕ) (old new : MemStripe) (block : ℕ) (bytes : Data) (given : Refusal) → RefusesBegin power_legs old new block bytes given → Long blocks old → Long blocks new
begin_refused blocks old new block bytes given (BeginCause cause is) long = same blocks old new is long
begin_refused blocks old new block bytes given (BeginFault is fails) long = fails.called.reads.change.lengths blocks long

-- a begin reads a leg, or none
begin_long : (blocks : ℕ) (part : Bool) (old : MemStripe) (legs : List PowerLeg) (block : ℕ) (base : Block) → ReadsBase power_legs part old legs block base → EachHas of_power old.legs blocks → EachHas of_power legs blocks
begin_long blocks false old legs block base stays long = subst (λ (ls : List PowerLeg). EachHas of_power ls blocks) (sym stays) long
begin_long blocks true old legs block base reads long = reads.change.lengths blocks long

begins_long : (blocks : ℕ) (old new : MemStripe) (block : ℕ) (bytes : Data) (ticket : ℕ) → BeginsWith power_legs old new block bytes ticket → Long blocks old → Long blocks new
begins_long blocks old new block (Cut cut) ticket is long = same_legs blocks old new (ap (λ (s : MemStripe). s.legs) is.after) long
begins_long blocks old new block (Zero count) ticket is long = same_legs blocks old new (ap (λ (s : MemStripe). s.legs) is.after) long
begins_long blocks old new block (Part start bytes) ticket is long = begin_long blocks true old new.legs block is.base is.reads long
begins_long blocks old new block (ZeroPart start len) ticket is long = begin_long blocks true old new.legs block is.base is.reads long

read_refused : (blocks : ℕ) (old new : MemStripe) (block : ℕ) (was left : List ℕ) (given : Refusal) → RefusesRead power_legs old new block was left given → Long blocks old → Long blocks new
read_refused blocks old new block was left given (ReadCause cause is stays) long = same blocks old new is long
read_refused blocks old new block was left given (ReadFault is fails) long = fails.called.reads.change.lengths blocks long

copy_refused : (blocks : ℕ) (old new : MemStripe) (leg most from : ℕ) (given : Refusal) → RefusesCopy power_legs old new leg most from given → Long blocks old → Long blocks new
copy_refused blocks old new leg most from given (CopyCause cause is) long = same blocks old new is long
copy_refused blocks old new leg most from given (CopyFault is fails) long = fails.called.reads.change.lengths blocks long

sync_refused : (blocks : ℕ) (old new : MemStripe) (leg : ℕ) (given : Refusal) → RefusesSync power_legs old new leg given → Long blocks old → Long blocks new
sync_refused blocks old new leg given (SyncCause cause is) long = same blocks old new is long
sync_refused blocks old new leg given (SyncFault is fails) long = fails.called.syncs.change.lengths blocks long

pub step_lengths : (blocks : ℕ) (step : MachineStep PowerLeg) (answer : Answer PowerLeg)
    (old new : MemStripe) → old.place.blocks ≡ blocks → MayBeAsked of_power old step →
    StepOf power_legs step answer old new → Long blocks old → Long blocks new
step_lengths blocks (Begin block bytes) (Begun ticket) old new size may is long = begins_long blocks old new block bytes ticket is long
step_lengths blocks (Begin block bytes) (LegLost gone handed) old new size may is long = is.0.called.reads.change.lengths blocks long
step_lengths blocks (Begin block bytes) (Refused cause handed) old new size may is long = begin_refused blocks old new block bytes cause is.0 long
step_lengths blocks (Push ticket leg) (Pushed count) old new size may is long = is.0.called.writes.change.lengths blocks long
step_lengths blocks (Push ticket leg) (Complete number) old new size may is long = is.0.called.writes.change.lengths blocks long
step_lengths blocks (Push ticket leg) (LegLost gone handed) old new size may is long = is.0.1.called.writes.change.lengths blocks long
step_lengths blocks (Push ticket leg) Halted old new size may is long = is.called.writes.change.lengths blocks long
step_lengths blocks (Push ticket leg) (Refused cause handed) old new size may is long = same blocks old new is.2 long
step_lengths blocks (Claim ticket) (Written written) old new size may is long = same_legs blocks old new (ap (λ (s : MemStripe). s.legs) is.after) long
step_lengths blocks (Claim ticket) (Refused cause handed) old new size may is long = same blocks old new is.2 long
step_lengths blocks (Read block room) (Value value) old new size may is long = is.0.called.reads.change.lengths blocks long
step_lengths blocks (Read block room) (LegLost gone handed) old new size may is long = is.1.called.reads.change.lengths blocks long
step_lengths blocks (Read block room) (Refused cause handed) old new size may is long = read_refused blocks old new block room is.0 cause is.1 long
step_lengths blocks (Fail leg) Failed old new size may is long = same_legs blocks old new (ap (λ (s : MemStripe). s.legs) is.0.after ∙ lost_legs leg old) long
step_lengths blocks (Fail leg) (MasterChanged master) old new size may is long = same_legs blocks old new (ap (λ (s : MemStripe). s.legs) is.0.after ∙ lost_legs leg old) long
step_lengths blocks (Fail leg) (Refused cause handed) old new size may is long = same blocks old new is.2 long
step_lengths blocks (Attach leg) (Joining left) old new size may is long = same_legs blocks old new (ap (λ (s : MemStripe). s.legs) is.0.after) long
step_lengths blocks (Attach leg) (Refused cause handed) old new size may is long = same blocks old new is.2 long
step_lengths blocks (Return leg marks) (Joining left) old new size may is long = same_legs blocks old new (ap (λ (s : MemStripe). s.legs) is.0.after) long
step_lengths blocks (Return leg marks) (Refused cause handed) old new size may is long = same blocks old new is.2 long
step_lengths blocks (Replace leg part) (Joining left) old new size may is long =
    subst (λ (legs : List PowerLeg). EachHas of_power legs blocks) (sym (ap (λ (s : MemStripe). s.legs) is.0.after))
    (set_long blocks old.legs leg part may.0 (may.1 ∙ size) long)
step_lengths blocks (Replace leg part) (Refused cause handed) old new size may is long = same blocks old new is.2 long
step_lengths blocks (Copy leg most from) (Copied moved left) old new size may is long = ⊎_elim (λ read. read.reads.called.reads.change.lengths blocks long) (λ write. write.writes.called.writes.change.lengths blocks long) is.0
step_lengths blocks (Copy leg most from) Nothing old new size may is long = same blocks old new is.1 long
step_lengths blocks (Copy leg most from) (LegLost gone handed) old new size may is long = ⊎_elim (λ read. read.1.reads.change.lengths blocks long) (λ write. write.1.writes.change.lengths blocks long) is.0.called
step_lengths blocks (Copy leg most from) (Refused cause handed) old new size may is long = copy_refused blocks old new leg most from cause is.0 long
step_lengths blocks (Promote leg) InSync old new size may is long = is.called.syncs.change.lengths blocks long
step_lengths blocks (Promote leg) (LegLost gone handed) old new size may is long = is.0.1.called.syncs.change.lengths blocks long
step_lengths blocks (Promote leg) (Refused cause handed) old new size may is long = same blocks old new is.2 long
step_lengths blocks (Sync leg) Synced old new size may is long = is.called.syncs.change.lengths blocks long
step_lengths blocks (Sync leg) (LegLost gone handed) old new size may is long = is.0.1.called.syncs.change.lengths blocks long
step_lengths blocks (Sync leg) (Refused cause handed) old new size may is long = sync_refused blocks old new leg cause is.0 long
step_lengths blocks (Flush leg) Synced old new size may is long = is.called.syncs.change.lengths blocks long
step_lengths blocks (Flush leg) (LegLost gone handed) old new size may is long = is.0.1.called.syncs.change.lengths blocks long
step_lengths blocks (Flush leg) (Refused cause handed) old new size may is long = sync_refused blocks old new leg cause is.0 long
step_lengths blocks step answer old new size may is long = absurd is
