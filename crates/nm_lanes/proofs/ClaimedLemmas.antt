-- Own steps that leave no write unclaimed.
use Rattle.std.proofs.Common.{◌≡◌, ℕ, List, [], ◌∷◌, ◌++◌, subst}
use Rattle.nm_lanes.specs.declared.run.Run.{Run}
use Rattle.nm_geometry.specs.Geometry.{Geometry}
use Rattle.nm_stripe.specs.declared.answer.Answer.{Answer}
use Rattle.nm_stripe.specs.declared.answer.Answer.TheVariants.{Begun}
use Rattle.nm_stripe.specs.declared.step.Step.{Step}
use Rattle.nm_stripe.specs.declared.step.Step.TheVariants.{Begin, Push, Claim, Read, Fail, Attach, Return, Replace, Copy, Promote, Sync, Flush}
use Rattle.nm_lanes.specs.declared.run_write.RunWrite.{RunWrite}
use Rattle.nm_lanes.specs.Done.{Done}
use Rattle.nm_lanes.specs.Ends.{EndsClaimed}
use Rattle.nm_lanes.specs.Flushes.{SyncsOrFindsOut}
use Rattle.nm_lanes.specs.Lists.{steps_in}
use Rattle.nm_lanes.specs.Reads.{IsValue, ReadsEach}
use Rattle.nm_lanes.specs.Steps.{IsWritten}
use Rattle.nm_lanes.specs.Syncs.{AllSync}
use Rattle.nm_lanes.specs.Writes.{WritesEach}

module _ {L : Type 0} where
  pub claimed-append : (xs ys : List (Done L)) → EndsClaimed xs → EndsClaimed ys → EndsClaimed (xs ++ ys)
  claimed-append [] ys a b = b
  claimed-append (x ∷ []) [] a b = a
  claimed-append (x ∷ []) (y ∷ ys) a b = b
  claimed-append (x ∷ (z ∷ xs)) ys a b = claimed-append (z ∷ xs) ys a b

  -- an answer of a kind that no begin has
  pub not-begun : (Is : Answer L → Type 0) (answer : Answer L) → ((ticket : ℕ) → Is (Begun ticket) → ⊥) → Is answer → (ticket : ℕ) → answer ≡ Begun ticket → ⊥
  not-begun Is answer none a ticket is = none ticket (subst (λ (told : Answer L). Is told) is a)

  -- reads of all runs
  pub reads-claimed : (shape : Geometry) (runs : List Run) (stripe : ℕ) (own : List (Done L)) → ReadsEach shape runs (steps_in stripe own) → EndsClaimed own
  reads-claimed shape runs stripe [] a = tt
  reads-claimed shape (x ∷ runs) stripe (d ∷ []) a = not-begun (λ told. IsValue told) d.answer (λ ticket none. none) a.0.value
  reads-claimed shape (x ∷ runs) stripe (d ∷ (e ∷ own)) a = reads-claimed shape runs stripe (e ∷ own) a.1
  reads-claimed shape [] stripe (d ∷ own) a = absurd a

  -- writes of all runs
  pub writes-claimed : (shape : Geometry) (writes : List RunWrite) (stripe : ℕ) (own : List (Done L)) → WritesEach shape writes (steps_in stripe own) → EndsClaimed own
  writes-claimed shape writes stripe [] a = tt
  writes-claimed shape (x ∷ writes) stripe (b ∷ (e ∷ [])) a = not-begun (λ told. IsWritten told) e.answer (λ ticket none. none) a.0.written
  writes-claimed shape (x ∷ writes) stripe (b ∷ (e ∷ (d ∷ own))) a = writes-claimed shape writes stripe (d ∷ own) a.1
  writes-claimed shape [] stripe (b ∷ own) a = absurd a
  writes-claimed shape (x ∷ writes) stripe (b ∷ []) a = absurd a

  -- a sync begins no write
  no-sync : (leg : ℕ) (step : Step L) (ticket : ℕ) → SyncsOrFindsOut leg step (Begun ticket) → ⊥
  no-sync leg (Begin block bytes) ticket a = a
  no-sync leg (Push number other) ticket a = a
  no-sync leg (Claim number) ticket a = a
  no-sync leg (Read block room) ticket a = a
  no-sync leg (Fail other) ticket a = a
  no-sync leg (Attach other) ticket a = a
  no-sync leg (Return other marks) ticket a = a
  no-sync leg (Replace other new) ticket a = a
  no-sync leg (Copy other most from) ticket a = a
  no-sync leg (Promote other) ticket a = a
  no-sync leg (Sync other) ticket a = a
  no-sync leg (Flush other) ticket a = a

  -- syncs alone
  pub syncs-claimed : (legs : ℕ) (own : List (Done L)) → AllSync legs own → EndsClaimed own
  syncs-claimed legs [] a = tt
  syncs-claimed legs (d ∷ []) a = not-begun (λ told. SyncsOrFindsOut a.0.leg d.step told) d.answer (λ ticket syncs. no-sync a.0.leg d.step ticket syncs) a.0.syncs
  syncs-claimed legs (d ∷ (e ∷ own)) a = syncs-claimed legs (e ∷ own) a.1
