-- One try of a step, and then another.
use Rattle.std.proofs.Common.{◌≡◌, ℕ, Ok, true, false, None, List, [], ◌∷◌, ◌++◌, refl, rules}
use Rattle.nm_rules.specs.declared.refusal.Refusal.{Refusal}
use Rattle.nm_rules.specs.declared.refusal.Refusal.TheVariants as refusal
use Rattle.nm_stripe.specs.declared.answer.Answer.{Answer}
use Rattle.nm_stripe.specs.declared.step.Step.{Step}
use Rattle.nm_stripe.specs.declared.step.Step.TheVariants.{Flush, Read}
use Rattle.nm_stripe.specs.declared.sync.Syncing.TheVariants as syncing
use Rattle.nm_lanes.specs.Answers.{answer_of_sync, refused_with_nothing}
use Rattle.nm_lanes.specs.Done.{Done, done_as}
use Rattle.nm_lanes.specs.Flushes.{SyncsOrFindsOut}
use Rattle.nm_lanes.specs.Own.{end_of, finds_out, helps}
use Rattle.nm_lanes.specs.Lane.{LaneDoes}
use Rattle.nm_lanes.specs.Steps.{Completes, CompletesRead}
use Rattle.nm_lanes.proofs.LaneLemmas.{does-own, does-does}

-- a refused flush only helps, unless it found the leg out
pub sync-helps : (L : Type 0) (leg : ℕ) (r : Refusal) → end_of r ≡ None → finds_out r ≡ false → helps {L = L} (Flush leg) (refused_with_nothing r) ≡ true
sync-helps L leg r e other = rw (e, other) refl

-- tries, and the one that succeeded
pub does-completes : {L D : Type 0} (follows : D → List (Done L) → D → Type 0)
    (joins : (first mid last : D) (before after : List (Done L)) → follows first before mid → follows mid after last → follows first (before ++ after) last)
    (old mid new : D) (step : Step L) (IsAnswer : Answer L → Type 0) → LaneDoes follows old mid [] → Completes follows mid new step IsAnswer → Completes follows old new step IsAnswer
does-completes follows joins old mid new step IsAnswer a b = record { answer = b.answer; does = does-does follows joins old mid new [] (done_as step b.answer ∷ []) a b.does; is_answer = b.is_answer }

-- the same of a read
pub does-reads : {L D : Type 0} (follows : D → List (Done L) → D → Type 0)
    (joins : (first mid last : D) (before after : List (Done L)) → follows first before mid → follows mid after last → follows first (before ++ after) last)
    (old mid new : D) (block count : ℕ) (IsAnswer : Answer L → Type 0) → LaneDoes follows old mid [] → CompletesRead follows mid new block count IsAnswer → CompletesRead follows old new block count IsAnswer
does-reads follows joins old mid new block count IsAnswer a b = record { room = b.room; long = b.long; completes = does-completes follows joins old mid new (Read block b.room) IsAnswer a b.completes }

module _ {L D : Type 0} (follows : D → List (Done L) → D → Type 0) (old new : D) (leg : ℕ) where
  -- a flush that was done
  pub sync-done : follows old (done_as (Flush leg) (answer_of_sync (Ok syncing.Synced)) ∷ []) new → Completes follows old new (Flush leg) (SyncsOrFindsOut leg (Flush leg))
  sync-done leads = record { answer = answer_of_sync (Ok syncing.Synced); does = does-own follows old new (Flush leg) (answer_of_sync (Ok syncing.Synced)) leads refl; is_answer = refl }

  -- or that found its leg out
  pub syncs-out : (r : Refusal) → finds_out r ≡ true → follows old (done_as (Flush leg) (refused_with_nothing r) ∷ []) new → Completes follows old new (Flush leg) (SyncsOrFindsOut leg (Flush leg))
  syncs-out refusal.AlreadyOut is leads = record { answer = refused_with_nothing refusal.AlreadyOut; does = does-own follows old new (Flush leg) (refused_with_nothing refusal.AlreadyOut) leads refl; is_answer = refl }
  syncs-out r is leads = search (rules, is)
