-- One leg of a list is called: what of the legs is durable afterwards.
use Rattle.std.proofs.Common.{◌≡◌, ◌≢◌, ⊎_elim, ℕ, Bool, true, IsTrue, List, refl, sym, ap, ◌∙◌, subst, slice_get}
use Rattle.std.proofs.lemmas.Option.{slice_get_within}
use Rattle.nm_replay.specs.declared.block.Block.{Block}
use Rattle.nm_replay.proofs.Arrays.{slice_get-set_same, slice_get-set_other}
use Rattle.nm_leg.specs.Leg.{Leg, LegType}
use Rattle.nm_leg.specs.LegCalls.{ChangesLeg, SyncsLegAt}
use Rattle.nm_rules.specs.BlockCalls.{ReadsBlockAt, WritesBlockAt}
use Rattle.nm_rules.specs.Array.{contents_of}
use Rattle.nm_rules.specs.Flushed.{durable_at, durable_of}
use Rattle.nm_rules.proofs.LegLemmas.{calls-after, calls-before, calls-other}
use Rattle.nm_rules.proofs.RecordLemmas.{one_or_two}

-- every other leg keeps what is durable of it
pub calls-durable_other : {L : Type 0} (model : L → Leg) (old new : List L) (k j : ℕ) (before after : L) → ChangesLeg model k old new before after → j ≢ k → durable_of model new j ≡ durable_of model old j
calls-durable_other model old new k j before after calls ne =
    ap (λ xs. durable_of model xs j) calls.others ∙ ap (λ o. durable_at model o) (slice_get-set_other old k j after (λ e. ne (sym e)))

-- of the called leg it is what the call left
pub calls-durable_after : {L : Type 0} (model : L → Leg) (old new : List L) (k : ℕ) (before after : L) → ChangesLeg model k old new before after → durable_of model new k ≡ (model after).durable
calls-durable_after model old new k before after calls =
    ap (λ xs. durable_of model xs k) calls.others ∙ ap (λ o. durable_at model o) (slice_get-set_same old k after (slice_get_within old k before calls.was))

pub calls-durable_before : {L : Type 0} (model : L → Leg) (old new : List L) (k : ℕ) (before after : L) → ChangesLeg model k old new before after → durable_of model old k ≡ (model before).durable
calls-durable_before model old new k before after calls = ap (λ o. durable_at model o) calls.was

-- an honest read changes nothing that is durable
pub reads-durable : {L : Type 0} (type : LegType L) (succeeded : Bool) (old new : List L) (k at j : ℕ) (filled : Block) → IsTrue type.honest → ReadsBlockAt type succeeded k at old new filled → durable_of type.model new j ≡ durable_of type.model old j
reads-durable type succeeded old new k at j filled is_honest r =
    ⊎_elim (λ is. subst (λ (i : ℕ). durable_of type.model new i ≡ durable_of type.model old i) (sym is)
    (calls-durable_after type.model old new k r.before r.after r.change ∙ r.reads.durable is_honest ∙ sym (calls-durable_before type.model old new k r.before r.after r.change)))
    (λ ne. calls-durable_other type.model old new k j r.before r.after r.change ne) (one_or_two j k)

module _ {L : Type 0} (type : LegType L) (succeeded : Bool) (old new : List L) (k at : ℕ) (bytes : List ℕ) (w : WritesBlockAt type succeeded k at bytes old new) where
  -- a write, whether it went well or not, leaves each other block of every leg, and what is durable of it
  pub writes-contents_block : (j b : ℕ) → IsTrue type.honest → b ≢ at → slice_get (contents_of type.model new j) b ≡ slice_get (contents_of type.model old j) b
  writes-contents_block j b is_honest off =
      ⊎_elim (λ is. subst (λ (i : ℕ). slice_get (contents_of type.model new i) b ≡ slice_get (contents_of type.model old i) b) (sym is)
      (ap (λ xs. slice_get xs b) (calls-after type.model old new k w.before w.after w.change) ∙ w.writes.others is_honest b off ∙ ap (λ xs. slice_get xs b) (sym (calls-before type.model old new k w.before w.after w.change))))
      (λ ne. ap (λ xs. slice_get xs b) (calls-other type.model old new k j w.before w.after w.change ne)) (one_or_two j k)

  pub writes-durable_block : (j b : ℕ) → IsTrue type.honest → b ≢ at → slice_get (durable_of type.model new j) b ≡ slice_get (durable_of type.model old j) b
  writes-durable_block j b is_honest off =
      ⊎_elim (λ is. subst (λ (i : ℕ). slice_get (durable_of type.model new i) b ≡ slice_get (durable_of type.model old i) b) (sym is)
      (ap (λ xs. slice_get xs b) (calls-durable_after type.model old new k w.before w.after w.change) ∙ w.writes.durable_others is_honest b off
      ∙ ap (λ xs. slice_get xs b) (sym (calls-durable_before type.model old new k w.before w.after w.change))))
      (λ ne. ap (λ xs. slice_get xs b) (calls-durable_other type.model old new k j w.before w.after w.change ne)) (one_or_two j k)

  -- and all of every other leg
  pub writes-contents_other : (j : ℕ) → j ≢ k → contents_of type.model new j ≡ contents_of type.model old j
  writes-contents_other j ne = calls-other type.model old new k j w.before w.after w.change ne

  pub writes-durable_other : (j : ℕ) → j ≢ k → durable_of type.model new j ≡ durable_of type.model old j
  writes-durable_other j ne = calls-durable_other type.model old new k j w.before w.after w.change ne

module _ {L : Type 0} (type : LegType L) (succeeded : Bool) (old new : List L) (k : ℕ) (s : SyncsLegAt type succeeded k old new) where
  -- an honest sync changes no contents
  pub syncs-contents : (j : ℕ) → IsTrue type.honest → contents_of type.model new j ≡ contents_of type.model old j
  syncs-contents j is_honest =
      ⊎_elim (λ is. subst (λ (i : ℕ). contents_of type.model new i ≡ contents_of type.model old i) (sym is)
      (calls-after type.model old new k s.before s.after s.change ∙ s.syncs.contents is_honest ∙ sym (calls-before type.model old new k s.before s.after s.change)))
      (λ ne. calls-other type.model old new k j s.before s.after s.change ne) (one_or_two j k)

  -- and nothing that is durable of the other legs
  pub syncs-durable_other : (j : ℕ) → j ≢ k → durable_of type.model new j ≡ durable_of type.model old j
  syncs-durable_other j ne = calls-durable_other type.model old new k j s.before s.after s.change ne

  -- what was durable as the leg holds it stays so, though the sync fails
  pub syncs-durable_kept : (b : ℕ) → IsTrue type.honest → slice_get (durable_of type.model old k) b ≡ slice_get (contents_of type.model old k) b → slice_get (durable_of type.model new k) b ≡ slice_get (durable_of type.model old k) b
  syncs-durable_kept b is_honest equal =
      let was = ap (λ xs. slice_get xs b) (calls-durable_before type.model old new k s.before s.after s.change) in
      ap (λ xs. slice_get xs b) (calls-durable_after type.model old new k s.before s.after s.change)
      ∙ s.syncs.durable_kept is_honest b (sym was ∙ equal ∙ ap (λ xs. slice_get xs b) (calls-before type.model old new k s.before s.after s.change)) ∙ sym was

-- an honest sync that went well leaves durable what the leg held
pub syncs-durable : {L : Type 0} (type : LegType L) (old new : List L) (k : ℕ) → IsTrue type.honest → SyncsLegAt type true k old new → durable_of type.model new k ≡ contents_of type.model old k
syncs-durable type old new k is_honest s =
    calls-durable_after type.model old new k s.before s.after s.change ∙ s.syncs.durable is_honest refl ∙ sym (calls-before type.model old new k s.before s.after s.change)
