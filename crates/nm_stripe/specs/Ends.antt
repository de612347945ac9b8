-- What the answer of a leg call that was out does to the stripe that asked for it. The legs are as
-- the call left them, and no more than the answer is needed of them.
use Rattle.std.specs.Prelude.{◌≡◌, ℕ, Bool, true, false, List, length, slice_set, Result, Ok, Err}
use Rattle.nm_choice.specs.declared.leg_state.LegState.TheVariants.{InSync as IsInSync}
use Rattle.nm_replay.specs.declared.block.Block.{Block}
use Rattle.nm_rules.specs.declared.refusal.Refusal.{Refusal}
use Rattle.nm_rules.specs.declared.refusal.Refusal.TheVariants.{Fault}
use Rattle.nm_rules.specs.Lost.{lost, lost_all}
use Rattle.nm_rules.specs.Push.{IsComplete, StillOwes}
use Rattle.nm_rules.specs.Read.{turn_after}
use Rattle.nm_rules.specs.RunPush.{after_push_run}
use Rattle.nm_rules.specs.RunRead.{after_read_run, last_block}
use Rattle.nm_rules.specs.Runs.{EntryNames, of_run}
use Rattle.nm_rules.specs.State.{StripeState, is_last, next_number}
use Rattle.nm_stripe.specs.declared.push.Reach.{Reach}
use Rattle.nm_stripe.specs.declared.push.Reach.TheVariants.{Pushed, Complete, Halted}
use Rattle.nm_stripe.specs.declared.push.Reach.TheVariants.{LegLost as PushLost}
use Rattle.nm_stripe.specs.declared.read.Reading.{Reading}
use Rattle.nm_stripe.specs.declared.read.Reading.TheVariants.{Value, LegLost}
use Rattle.nm_stripe.specs.declared.sync.Promotion.{Promotion}
use Rattle.nm_stripe.specs.declared.sync.Promotion.TheVariants.{InSync, LegLost as JoiningLost}
use Rattle.nm_stripe.specs.declared.sync.Syncing.{Syncing}
use Rattle.nm_stripe.specs.declared.sync.Syncing.TheVariants.{Synced, LegLost as SyncLost}

-- the names of the entries of a read of so many blocks
abbrev pub names_of : {L : Type 0} → StripeState L → (block count : ℕ) → EntryNames
names_of stripe block count = record {
  stripe = stripe.place.stripe;
  block = block;
  number = next_number stripe;
  count = count;
}

-- a read of this leg, from this block on: these blocks were found, and get their entries; or it
-- failed, and the leg goes out, unless it is the last in sync
abbrev pub EndsRead : {L : Type 0} → (done : Bool) → (leg block : ℕ) → List Block
    → (old new : StripeState L) → Result (Reading L) Refusal → Type 0
EndsRead true leg block found old new (Ok (Value names)) =
    (names ≡ names_of old block (length found))
    × (new ≡ after_read_run old old.legs block found
    (turn_after (last_block block (length found)) old))
EndsRead false leg block found old new (Ok (LegLost gone)) =
    (gone ≡ leg) × (is_last leg old ≡ false) × (new ≡ lost leg old)
EndsRead false leg block found old new (Err refusal) =
    (refusal ≡ Fault) × (is_last leg old ≡ true) × (new ≡ old)
EndsRead done leg block found old new result = ⊥

-- the stripe once the run of this ticket has reached the leg
abbrev pub after_reaching : {L : Type 0} → (ticket leg : ℕ) → StripeState L → StripeState L
after_reaching ticket leg stripe =
    after_push_run stripe stripe.legs (of_run ticket stripe.records) leg

-- a write of this ticket's run to the leg: the run has reached it; or the call failed, and the leg
-- goes out, unless it is the last in sync: then the stripe stops
abbrev pub EndsPush : {L : Type 0} → (done : Bool) → (ticket leg : ℕ) → (old new : StripeState L)
    → Reach → Type 0
EndsPush true ticket leg old new (Pushed count) =
    (new ≡ after_reaching ticket leg old) × StillOwes new ticket count
EndsPush true ticket leg old new (Complete number) =
    (new ≡ after_reaching ticket leg old) × IsComplete new ticket number
EndsPush false ticket leg old new (PushLost gone) =
    (gone ≡ leg) × (is_last leg old ≡ false) × (new ≡ lost leg old)
EndsPush false ticket leg old new Halted =
    (is_last leg old ≡ true) × (new ≡ record old { stopped = true })
EndsPush done ticket leg old new reach = ⊥

-- a sync or a flush of the leg: nothing changes; or it failed, and the stripe is the one that is
-- left without the leg, unless that is the last in sync
abbrev pub EndsSync : {L : Type 0} → (done : Bool) → (leg : ℕ) → (old left new : StripeState L)
    → Result Syncing Refusal → Type 0
EndsSync true leg old left new (Ok Synced) = new ≡ old
EndsSync false leg old left new (Ok (SyncLost gone)) =
    (gone ≡ leg) × (is_last leg old ≡ false) × (new ≡ left)
EndsSync false leg old left new (Err refusal) =
    (refusal ≡ Fault) × (is_last leg old ≡ true) × (new ≡ old)
EndsSync done leg old left new result = ⊥

-- the sync of a joining leg that is to be called in sync: it is; or the sync failed, and the leg
-- goes out, with all of its regions behind
abbrev pub EndsPromote : {L : Type 0} → (done : Bool) → (leg : ℕ) → (old new : StripeState L)
    → Promotion → Type 0
EndsPromote true leg old new InSync =
    new ≡ record old { states = slice_set old.states leg IsInSync }
EndsPromote false leg old new (JoiningLost gone) = (gone ≡ leg) × (new ≡ lost_all leg old)
EndsPromote done leg old new promotion = ⊥
