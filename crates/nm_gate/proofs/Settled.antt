-- The flushes by which a stripe settles are of each leg, so each block is equal where they end.
use Rattle.std.proofs.Common.{◌≡◌, ◌⊎◌, ⊎_elim, inl, inr, ℕ, zero, suc, ◌+◌, ◌/◌, ◌<◌, arith, Bool, true, false, ◌||◌, IsTrue, List, [], ◌∷◌, ◌++◌, Option, Some, IfSome, length, refl, sym, ap, ◌∙◌, subst, slice_index_or}
use Rattle.std.specs.List.{list_any}
use Rattle.std.proofs.lemmas.Bool.{cases_lt}
use Rattle.std.proofs.lemmas.List.{get_or_past}
use Rattle.nm_choice.specs.declared.leg_state.LegState.TheVariants.{InSync}
use Rattle.nm_fanout.specs.declared.write_record.Record.{Record}
use Rattle.nm_leg.specs.Leg.{LegType}
use Rattle.nm_rules.specs.declared.refusal.Refusal.{Refusal}
use Rattle.nm_rules.specs.declared.refusal.Refusal.TheVariants.{AlreadyOut, Fault}
use Rattle.nm_rules.specs.State.{StripeState, leg_state}
use Rattle.nm_rules.specs.Sync.{Synchronizes}
use Rattle.nm_stripe.specs.declared.answer.Answer.TheVariants.{LegLost, Refused, Synced}
use Rattle.nm_stripe.specs.declared.answer.Handed.TheVariants.{Nothing}
use Rattle.nm_stripe.specs.declared.step.Step.TheVariants.{Flush}
use Rattle.nm_stripe.specs.declared.sync.Syncing.{Syncing}
use Rattle.nm_stripe.specs.declared.sync.Syncing.TheVariants.{LegLost as SyncLost, Synced as SyncSynced}
use Rattle.nm_stripe.specs.Sync.{FlushesLeg, RefusesSync, ForCause as SyncCause, ForFault as SyncFault}
use Rattle.nm_stripe.proofs.RunLemmas.{step-shape}
use Rattle.nm_gate.specs.Changes.{AreMoves, Leads, cleared}
use Rattle.nm_gate.specs.Durable.{Durable, is_lacking, is_named}
use Rattle.nm_gate.specs.Gate.{IsSaved}
use Rattle.nm_gate.specs.Held.{NoneOn}
use Rattle.nm_gate.specs.Moves.{AllLeave, Clears, Does, Gated, GatedRuns, IsEqualAt, Leaves, Move, MoveOf, SomeSyncs, SyncsOne, Unmarks}
use Rattle.nm_gate.specs.Saves.{IsCovered}
use Rattle.nm_gate.specs.Settling.{EndsInFailure, MayClear, MaySettle, SyncsLegs, TriesSync}
use Rattle.nm_gate.specs.Survive.{EqualOutside, Stands}
use Rattle.nm_gate.proofs.Unmarked.{cooled-clear}

-- a sync that went well
pub tried-synced : {L : Type 0} (type : LegType L) (old new : StripeState L) (leg : ℕ) (syncing : Syncing) → syncing ≡ SyncSynced → FlushesLeg type old new leg syncing → TriesSync type leg true old new
tried-synced type old new leg syncing e is =
    let synced : Synchronizes type old new leg = subst (λ (x : Syncing). FlushesLeg type old new leg x) e is in
    record { answer = Synced; is = synced; goes = tt; synced = λ on. refl; stays = λ on. synced.after; failed = λ off. absurd (cc) }

-- one that lost its leg
pub tried-lost : {L : Type 0} (type : LegType L) (old new : StripeState L) (leg gone : ℕ) (syncing : Syncing) → syncing ≡ SyncLost gone → FlushesLeg type old new leg syncing → TriesSync type leg false old new
tried-lost type old new leg gone syncing e is = record {
  answer = LegLost gone Nothing;
  is = (subst (λ (x : Syncing). FlushesLeg type old new leg x) e is, refl);
  goes = tt;
  synced = λ on. absurd (cc);
  stays = λ on. absurd (cc);
  failed = λ off e. cc;
}

-- one that was refused, maybe since the leg is out
pub tried-refused : {L : Type 0} (type : LegType L) (old new : StripeState L) (leg : ℕ) (refusal : Refusal) (went : Bool) → (went ≡ true → refusal ≡ AlreadyOut) → RefusesSync type old new leg refusal → TriesSync type leg went old new
tried-refused {L} type old new leg refusal went out is = record {
  answer = Refused refusal Nothing;
  is = (is, refl);
  goes = tt;
  synced = λ on. let one : Refusal → Move L = λ r. Does (Flush leg) (Refused r Nothing) in subst (λ (r : Refusal). SyncsOne leg (one r)) (sym (out on)) refl;
  stays = λ on. refused-stays (out on) is;
  failed = λ off e. cc;
}
  where
    refused-stays : refusal ≡ AlreadyOut → RefusesSync type old new leg refusal → new ≡ record old { legs = new.legs }
    refused-stays e (SyncCause cause same) = same ∙ ap (λ (xs : List L). let s : StripeState L = record old { legs = xs } in s) (sym (ap (λ (x : StripeState L). x.legs) same))
    refused-stays e (SyncFault fault fails) = absurd (let clash : AlreadyOut ≡ Fault = sym e ∙ fault in cc)

-- one move more
runs-add : {L : Type 0} (type : LegType L) (moves : List (Move L)) (move : Move L) (old mid new : Gated L) → GatedRuns type moves old mid → MoveOf type move mid new → GatedRuns type (moves ++ move ∷ []) old new
runs-add type [] move old mid new runs is = (new, subst (λ (x : Gated _). MoveOf type move x new) runs is, refl)
runs-add type (first ∷ moves) move old mid new runs is = (runs.0, runs.1, runs-add type moves move runs.0 mid new runs.2 is)

leaves-add : {L : Type 0} (b : ℕ) (moves : List (Move L)) (move : Move L) → AllLeave b moves → Leaves b move → AllLeave b (moves ++ move ∷ [])
leaves-add b [] move all one = (one, tt)
leaves-add b (first ∷ moves) move all one = (all.0, leaves-add b moves move all.1 one)

syncs-earlier : {L : Type 0} (leg : ℕ) (moves : List (Move L)) (move : Move L) → SomeSyncs leg moves → SomeSyncs leg (moves ++ move ∷ [])
syncs-earlier leg [] move some = absurd some
syncs-earlier leg (first ∷ moves) move some = ⊎_elim (λ now. inl now) (λ later. inr (syncs-earlier leg moves move later)) some

syncs-last : {L : Type 0} (leg : ℕ) (moves : List (Move L)) (move : Move L) → SyncsOne leg move → SomeSyncs leg (moves ++ move ∷ [])
syncs-last leg [] move is = inl is
syncs-last leg (first ∷ moves) move is = inr (syncs-last leg moves move is)

module _ {L : Type 0} (type : LegType L) (d : Durable) (whole : d.broken ≡ false) (old : StripeState L) (saved : IsSaved d old) where
  abbrev pub at : StripeState L → Gated L
  at stripe = record { stripe = stripe; durable = d }

  -- before the first sync
  pub none-yet : SyncsLegs type d 0 old old
  none-yet = record {
    moves = [];
    runs = refl;
    leaves = λ block. tt;
    flush = λ leg below. absurd (omega (arith, below));
    stays = refl;
    legs = refl;
  }

  module _ (count : ℕ) (mid : StripeState L) (so_far : SyncsLegs type d count old mid) where
    -- each leg that may be called in sync still is
    mid-saved : IsSaved d mid
    mid-saved leg named =
        let was = saved leg named in (
          omega (arith, was.0, so_far.legs),
          ap (λ (x : StripeState L). leg_state leg x) so_far.stays ∙ was.1,
        )

    module _ (leg : ℕ) (there : leg < length mid.legs) (went : Bool) (new : StripeState L) (tries : TriesSync type leg went mid new) where
      abbrev pub move : Move L
      move = Does (Flush leg) tries.answer

      does : MoveOf type move (at mid) (at new)
      does = record { allowed = (whole, mid-saved); asked = there; does = tries.is; durable = refl }

      -- whatever the sync answers, it is one move more
      pub one-move : AreMoves type (at old) (at new)
      one-move = (
        so_far.moves ++ move ∷ [],
        runs-add type so_far.moves move (at old) (at mid) (at new) so_far.runs does,
        λ block. leaves-add block so_far.moves move (so_far.leaves block) (tt, tries.goes),
      )

      -- and where it went well one leg more is synced
      pub one-more : leg ≡ count → went ≡ true → SyncsLegs type d (count + 1) old new
      unfolding one-move
      one-more is on = record {
        moves = so_far.moves ++ move ∷ [];
        runs = one-move.1;
        leaves = one-move.2;
        flush = λ other below.
            ⊎_elim
            (λ earlier. syncs-earlier other so_far.moves move (so_far.flush other earlier))
            (λ late.
            let same : leg ≡ other = omega (arith, is, below, late) in
            syncs-last other so_far.moves move (subst (λ (i : ℕ). SyncsOne i move) same (tries.synced on)))
            (cases_lt other count);
        stays = tries.stays on ∙ ap (λ (x : StripeState L). let s : StripeState L = record x { legs = new.legs } in s) so_far.stays;
        legs = (step-shape type (Flush leg) tries.answer mid new tries.is).legs ∙ so_far.legs;
      }

-- with no record there is none on any block
none-on : (b : ℕ) (records : List Record) → length records ≡ 0 → NoneOn b records
none-on b [] is = tt
none-on b (r ∷ records) is = absurd (omega (arith, is))

module _ {L : Type 0} (type : LegType L) (is_honest : IsTrue type.honest) (d : Durable) (old new : StripeState L) (may : MaySettle old d) (stands : Stands type old d) (synced : SyncsLegs type d (length old.legs) old new) where
  place-is : new.place ≡ old.place
  place-is = ap (λ (x : StripeState L). x.place) synced.stays

  all-in-sync : (leg : ℕ) → IsCovered new d leg → leg_state leg new ≡ InSync
  all-in-sync leg covered =
      let now : leg_state leg old ≡ InSync → leg_state leg new ≡ InSync = λ was. ap (λ (x : StripeState L). leg_state leg x) synced.stays ∙ was in
      ⊎_elim
      (λ named. now (may.covered leg (or-left (is_named leg d) (is_lacking leg d) named)).1)
      (λ more. ⊎_elim (λ lacking. now (may.covered leg (or-right (is_named leg d) (is_lacking leg d) lacking)).1) (λ in_sync. in_sync) more)
      covered
    where
      or-left : (a b : Bool) → a ≡ true → (a || b) ≡ true
      or-left true b on = refl
      or-left false b on = cc

      or-right : (a b : Bool) → b ≡ true → (a || b) ≡ true
      or-right true b on = refl
      or-right false b on = on

  -- each block is equal
  pub settled-equal : (block : ℕ) → block < new.place.blocks → IsEqualAt type.model new d block
  settled-equal block inside =
      let was : block < old.place.blocks = subst (λ p. block < p.blocks) place-is inside in
      cooled-clear type is_honest synced.moves (record { stripe = old; durable = d }) (record { stripe = new; durable = d }) block stands was (none-on block old.records may.none) synced.runs (synced.leaves block) synced.flush all-in-sync

  -- so the marks may go
  pub settled-leads : Leads type old (Some d) new (Some (cleared d))
  settled-leads =
      let end : Gated L = record { stripe = new; durable = cleared d } in
      let move : Move L = Clears (cleared d) in
      let clears : Unmarks type.model new d (cleared d) = record { after = refl; equal = λ block inside off on. settled-equal block inside } in (
        synced.moves ++ move ∷ [],
        runs-add type synced.moves move (record { stripe = old; durable = d }) (record { stripe = new; durable = d }) end synced.runs (clears, refl, refl),
        λ block. leaves-add block synced.moves move (synced.leaves block) tt,
      )

-- where a stripe does not change, no move was made
pub still-leads : {L : Type 0} (type : LegType L) (stripe : StripeState L) (d : Durable) → Leads type stripe (Some d) stripe (Some d)
still-leads type stripe d = ([], refl, λ block. tt)

-- what leads from the bounds that are there
pub leads-if : {L : Type 0} (type : LegType L) (old new : StripeState L) (durable next : Option Durable) (d : Durable) → durable ≡ Some d
    → (IsTrue type.honest → Stands type old d → Leads type old (Some d) new next)
    → IfSome durable (λ d. IsTrue type.honest → Stands type old d → Leads type old durable new next)
leads-if type old new durable next d is leads =
    subst (λ (o : Option Durable). IfSome o (λ d. IsTrue type.honest → Stands type old d → Leads type old o new next)) (sym is) leads

pub settled-leads-as : {L : Type 0} (type : LegType L) (d e : Durable) (old new : StripeState L) → MaySettle old d → SyncsLegs type d (length old.legs) old new → e ≡ cleared d
    → IsTrue type.honest → Stands type old d → Leads type old (Some d) new (Some e)
settled-leads-as type d e old new may synced is is_honest stands =
    subst (λ (x : Durable). Leads type old (Some d) new (Some x)) (sym is) (settled-leads type is_honest d old new may stands synced)

pub equal-if : {L : Type 0} (type : LegType L) (old new : StripeState L) (durable : Option Durable) (d : Durable) (result : Bool) → durable ≡ Some d
    → (IsTrue type.honest → Stands type old d → EqualOutside type old d → (block : ℕ) → block < new.place.blocks → IsEqualAt type.model new d block)
    → IfSome durable (λ d. IsTrue type.honest → Stands type old d → EqualOutside type old d → IsTrue result → (block : ℕ) → block < new.place.blocks → IsEqualAt type.model new d block)
equal-if type old new durable d result is equal =
    subst (λ (o : Option Durable). IfSome o (λ d. IsTrue type.honest → Stands type old d → EqualOutside type old d → IsTrue result → (block : ℕ) → block < new.place.blocks → IsEqualAt type.model new d block)) (sym is)
    (λ is_honest stands outside on. equal is_honest stands outside)

-- where nothing is marked, no block is
none-marked : (marked : List Bool) (span : ℕ) → list_any (λ m. m) marked ≡ false → slice_index_or marked span false ≡ false
none-marked [] span off = get_or_past [] span false (omega arith)
none-marked (true ∷ marked) span off = absurd (cc)
none-marked (false ∷ marked) zero off = refl
none-marked (false ∷ marked) (suc span) off = none-marked marked span off

pub unmarked-equal-all : {L : Type 0} (type : LegType L) (stripe : StripeState L) (d : Durable) → list_any (λ m. m) d.marked ≡ false
    → EqualOutside type stripe d → (block : ℕ) → block < stripe.place.blocks → IsEqualAt type.model stripe d block
unmarked-equal-all type stripe d off outside block inside = outside block inside (none-marked d.marked (block / stripe.place.region / d.span) off)

-- the last sync failed
pub ends-so : {L : Type 0} (type : LegType L) (leg : ℕ) (result : Bool) (mid new : StripeState L) → TriesSync type leg result mid new → result ≡ false → EndsInFailure type new
ends-so type leg result mid new tries off = (leg, mid, subst (λ (b : Bool). TriesSync type leg b mid new) off tries)

pub hindered-if : {L : Type 0} (type : LegType L) (old new : StripeState L) (durable : Option Durable) (d : Durable) (result : Bool) → durable ≡ Some d → (MaySettle old d → ⊥) ⊎ EndsInFailure type new
    → IfSome durable (λ d. result ≡ false → (MaySettle old d → ⊥) ⊎ EndsInFailure type new)
hindered-if type old new durable d result is why = subst (λ (o : Option Durable). IfSome o (λ d. result ≡ false → (MaySettle old d → ⊥) ⊎ EndsInFailure type new)) (sym is) (λ off. why)

-- where each leg was synced since the marks might be cleared so, they may be cleared
pub cleared-if : {L : Type 0} (type : LegType L) (stripe : StripeState L) (durable : Option Durable) (d : Durable) → durable ≡ Some d → IfSome durable (MayClear type stripe)
    → IfSome durable (λ d. IsTrue type.honest → Stands type stripe d → Unmarks type.model stripe d (cleared d))
cleared-if {L} type stripe durable d is may =
    subst (λ (o : Option Durable). IfSome o (λ d. IsTrue type.honest → Stands type stripe d → Unmarks type.model stripe d (cleared d))) (sym is)
    (λ is_honest stands. let here : MayClear type stripe d = subst (λ (o : Option Durable). IfSome o (MayClear type stripe)) is may in
    let stood : Stands type here.before d = record {
      keeps = here.keeps;
      runs = sym (ap (λ (x : StripeState L). x.stopped) here.synced.stays) ∙ stands.runs;
      apart = λ leg named joins. stands.apart leg named (ap (λ (x : StripeState L). leg_state leg x) here.synced.stays ∙ joins);
    } in record {
      after = refl;
      equal = λ block inside off on. settled-equal type is_honest d here.before stripe here.may stood here.synced block inside;
    })
