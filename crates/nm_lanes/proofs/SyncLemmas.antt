-- Syncs of legs, one more at a time.
use Rattle.std.proofs.Common.{◌≡◌, inl, inr, ℕ, ◌+◌, ◌<◌, Bool, true, false, List, [], ◌∷◌, ◌++◌, map, subst, append-nil, arith, if◌then◌else◌}
use Rattle.std.proofs.lemmas.Bool.{cases_lt}
use Rattle.nm_rules.specs.declared.refusal.Refusal.TheVariants.{AlreadyOut}
use Rattle.nm_stripe.specs.Flush.{SyncsLeg, HasSynced, IsFlush}
use Rattle.nm_stripe.specs.declared.answer.Answer.{Answer}
use Rattle.nm_stripe.specs.declared.answer.Answer.TheVariants.{Synced, Refused}
use Rattle.nm_stripe.specs.declared.step.Step.{Step}
use Rattle.nm_stripe.specs.declared.step.Step.TheVariants.{Flush}
use Rattle.nm_lanes.specs.declared.call_error_kind.CallErrorKind.{CallErrorKind}
use Rattle.nm_lanes.specs.Done.{Done, done_as}
use Rattle.nm_lanes.specs.Ends.{BeganOwn, ByStep, LaneDid, LaneEnds, LaneTries}
use Rattle.nm_lanes.specs.Flushes.{SomeSyncs, SyncsOne, SyncsOrFindsOut, IsStripeFlush}
use Rattle.nm_lanes.specs.Lane.{LaneStops}
use Rattle.nm_lanes.specs.Lists.{MirrorStep, answers_of, steps_of, stripe_list}
use Rattle.nm_lanes.specs.Own.{helps, own_done, EndsSo}
use Rattle.nm_lanes.specs.Steps.{Nobodys, Completes}
use Rattle.nm_lanes.specs.Syncs.{AllSync, IsLegSyncs, LaneSyncs, LaneSyncStops}
use Rattle.nm_lanes.proofs.ClaimedLemmas.{syncs-claimed}
use Rattle.nm_lanes.proofs.LaneLemmas.{does-does, does-stops, stops-more}

pub synced-left : {L : Type 0} (leg : ℕ) (xs ys : List (Done L)) → SomeSyncs leg xs → SomeSyncs leg (xs ++ ys)
synced-left leg [] ys h = absurd h
synced-left leg (x ∷ xs) ys (inl h) = inl h
synced-left leg (x ∷ xs) ys (inr h) = inr (synced-left leg xs ys h)

pub synced-right : {L : Type 0} (leg : ℕ) (xs ys : List (Done L)) → SomeSyncs leg ys → SomeSyncs leg (xs ++ ys)
synced-right leg [] ys h = h
synced-right leg (x ∷ xs) ys h = inr (synced-right leg xs ys h)

-- what own steps did, all steps did
all-synced : {L : Type 0} (leg : ℕ) (b : Bool) (x : Done L) (own list : List (Done L)) → (SomeSyncs leg own → SomeSyncs leg list) → SomeSyncs leg (if b then own else x ∷ own) → SomeSyncs leg (x ∷ list)
all-synced leg true x own list more h = inr (more h)
all-synced leg false x own list more (inl h) = inl h
all-synced leg false x own list more (inr h) = inr (more h)

pub own-synced : {L : Type 0} (leg : ℕ) (list : List (Done L)) → SomeSyncs leg (own_done list) → SomeSyncs leg list
own-synced leg [] h = h
own-synced leg (x ∷ list) h = all-synced leg (helps x.step x.answer) x (own_done list) list (own-synced leg list) h

pub own-flush : {L : Type 0} (legs : ℕ) (list : List (Done L)) → IsStripeFlush legs (own_done list) → IsStripeFlush legs list
own-flush legs list all leg lt = own-synced leg list (all leg lt)

-- a step of a call's flush is one of a stripe's
syncs-leg : {L : Type 0} (leg : ℕ) (step : Step L) (answer : Answer L) → SyncsOrFindsOut leg step answer → SyncsLeg leg step answer
syncs-leg leg (Flush other) Synced h = h
syncs-leg leg (Flush other) (Refused AlreadyOut handed) h = h
syncs-leg leg step answer h = absurd h

some-synced : {L : Type 0} (leg : ℕ) (list : List (Done L)) → SomeSyncs leg list → HasSynced leg (map (λ d. d.step) list) (map (λ d. d.answer) list)
some-synced leg [] h = h
some-synced leg (d ∷ list) (inl h) = inl (syncs-leg leg d.step d.answer h)
some-synced leg (d ∷ list) (inr h) = inr (some-synced leg list h)

pub flush-in-stripe : {L : Type 0} (legs stripe : ℕ) (list : List (MirrorStep L)) → IsStripeFlush legs (stripe_list stripe list) → IsFlush legs (steps_of stripe list) (answers_of stripe list)
flush-in-stripe legs stripe list all leg lt = some-synced leg (stripe_list stripe list) (all leg lt)

all-more : {L : Type 0} (legs : ℕ) (xs : List (Done L)) (d : Done L) → AllSync legs xs → SyncsOne legs d → AllSync legs (xs ++ d ∷ [])
all-more legs [] d all one = (one, tt)
all-more legs (x ∷ xs) d all one = (all.0, all-more legs xs d all.1 one)

module _ {L D : Type 0} (follows : D → List (Done L) → D → Type 0)
    (joins : (first mid last : D) (before after : List (Done L)) → follows first before mid → follows mid after last → follows first (before ++ after) last) where
  -- one leg more
  pub syncs-more : (old mid new : D) (legs leg : ℕ) → leg < legs → LaneSyncs follows (old, mid) legs leg → Completes follows mid new (Flush leg) (SyncsOrFindsOut leg (Flush leg)) → LaneSyncs follows (old, new) legs (leg + 1)
  syncs-more old mid new legs leg lt a b =
      let d = done_as (Flush leg) b.answer in
      record {
        own = a.own ++ d ∷ [];
        does = does-does follows joins old mid new a.own (d ∷ []) a.does b.does;
        only = all-more legs a.own d a.only (record { leg = leg; inside = lt; syncs = b.is_answer });
        each = λ other upto. elim (cases_lt other leg) [
          | inl before ↦ synced-left other a.own (d ∷ []) (a.each other before)
          | inr above ↦
              let last : leg ≡ other = omega (arith, above, upto) in
              synced-right other a.own (d ∷ []) (inl (subst (λ (n : ℕ). SyncsOrFindsOut n (Flush leg) b.answer) last b.is_answer))
        ];
      }

  -- the end of the call at a leg
  pub syncs-stop : (old mid new : D) (legs leg : ℕ) (kind : CallErrorKind) → LaneSyncs follows (old, mid) legs leg → LaneStops follows mid new [] (EndsSo Nobodys kind) → LaneSyncStops follows (old, new) legs kind
  syncs-stop old mid new legs leg kind a b = record {
    own = a.own;
    only = a.only;
    stops = subst (λ (own : List (Done L)). LaneStops follows old new own (EndsSo Nobodys kind)) (append-nil a.own) (does-stops follows joins old mid new a.own [] (EndsSo Nobodys kind) a.does b);
  }

module _ {L D : Type 0} (follows : D → List (Done L) → D → Type 0) where
  -- each leg was synced
  pub syncs-did : (legs : ℕ) (old new : D) → LaneSyncs follows (old, new) legs legs → LaneDid follows (λ own. IsLegSyncs legs own) old new
  syncs-did legs old new a = record { own = a.own; all = record { only = a.only; each = a.each }; claimed = syncs-claimed legs a.own a.only; does = a.does }

  -- a sync ended the call
  pub syncs-tried : (legs stripe : ℕ) (kind : CallErrorKind) (old new : D) → LaneSyncStops follows (old, new) legs kind → LaneTries follows (λ own. AllSync legs own) (record { stripe = stripe; kind = kind }) stripe old new
  syncs-tried legs stripe kind old new a =
      let ends : LaneEnds follows (λ own. AllSync legs own) (old, new) a.own kind = ByStep (stops-more follows old new a.own Nobodys (BeganOwn a.own) kind (λ ticket none. absurd none) a.stops) in
      record { own = a.own; share = a.only; did = inr (omega arith, kind, ends); ends = λ is. ends }
