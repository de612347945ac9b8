-- Passes whose calls are over stay so.
use Rattle.std.proofs.Common.{◌≡◌, ◌≢◌, ℕ, ◌≤◌, ◌<◌, ⊎_elim, List, [], ◌∷◌, ◌++◌, length, set, true, false, refl, ap, sym, ◌∙◌, subst, arith}
use mathlib.Core.List.{IsPrefix}
use mathlib.Core.Option.{some}
use lib.ListN.{get_elem?}
use Rattle.atomic_table.proofs.Lists.{at_set}
use Rattle.nm_book.specs.declared.rule.Entry.{Entry}
use Rattle.nm_book.specs.declared.rule.Past.{Past}
use Rattle.nm_book.specs.declared.rule.View.{View}
use Rattle.nm_book.specs.Log.{calls_by, NotActing, AllGone, Apart, Distinct, Retired}
use Rattle.nm_book.proofs.Lists.{at_end, length_end, prefix_self, prefix_trans, set_length}

module _ {E : Type 0} where
  -- who does not act does not begin to
  abbrev Still : List (View E) → List (View E) → Type 0
  Still views after = (length views ≤ length after) × ((k : ℕ) → k < length views → NotActing views k → NotActing after k)

  -- and gets no entry in a log that goes on
  abbrev pub Quiet : List (View E) → List (Entry E) → List (Entry E) → Type 0
  Quiet views log after = ((k : ℕ) → NotActing views k → calls_by k after ≡ calls_by k log) × IsPrefix log after

  still_set : (views : List (View E)) (i : ℕ) (v w : View E) → get_elem? views i ≡ some v → (w.acts ≡ true → v.acts ≡ true)
      → Still views (set views i w)
  still_set views i v w at acts = (
    omega (arith, set_length views i w),
    λ k l idle u e a. ⊎_elim
        (λ (x : (k ≡ i) × (w ≡ u)). idle v (subst (λ (n : ℕ). get_elem? views n ≡ some v) (sym x.0) at) (acts (ap (λ (z : View E). z.acts) x.1 ∙ a)))
        (λ (x : (k ≢ i) × (get_elem? views k ≡ some u)). idle u x.1 a)
        (at_set views i k w u e),
  )

  still_end : (views : List (View E)) (w : View E) → Still views (views ++ w ∷ [])
  still_end views w = (
    omega (arith, length_end views w),
    λ k l idle u e a. ⊎_elim
        (λ (x : (k < length views) × (get_elem? views k ≡ some u)). idle u x.1 a)
        (λ (x : (k ≡ length views) × (w ≡ u)). absurd (omega (arith, l, x.0)))
        (at_end views w u k e),
  )

  all_on : (views after : List (View E)) (log more : List (Entry E)) → Still views after → Quiet views log more
      → (ps : List (Past E)) → AllGone views log ps → AllGone after more ps
  all_on views after log more still quiet [] all = tt
  all_on views after log more still quiet (p ∷ ps) all = (
    record {
      there = (let l = all.0.there in let m = still.0 in omega (arith, l, m));
      idle = still.1 p.who all.0.there all.0.idle;
      all = quiet.0 p.who all.0.idle ∙ all.0.all;
      seen = prefix_trans p.seen log more all.0.seen quiet.1;
    },
    all_on views after log more still quiet ps all.1,
  )

  -- one seat changes
  pub gone_set : (views : List (View E)) (log more : List (Entry E)) (i : ℕ) (v w : View E) → get_elem? views i ≡ some v
      → (w.acts ≡ true → v.acts ≡ true) → Quiet views log more
      → ((j : ℕ) (u : View E) → get_elem? views j ≡ some u → Retired views log u) → Retired (set views i w) more w
      → (j : ℕ) (u : View E) → get_elem? (set views i w) j ≡ some u → Retired (set views i w) more u
  gone_set views log more i v w at acts quiet gone own j u e = ⊎_elim
      (λ (x : (j ≡ i) × (w ≡ u)). subst (λ (z : View E). Retired (set views i w) more z) x.1 own)
      (λ (x : (j ≢ i) × (get_elem? views j ≡ some u)). (let g = gone j u x.1 in (g.0, all_on views (set views i w) log more (still_set views i v w at acts) quiet u.gone g.1)))
      (at_set views i j w u e)

  -- one that changes, and stays as it is in this
  pub gone_kept : (views : List (View E)) (log : List (Entry E)) (i : ℕ) (v w : View E) → get_elem? views i ≡ some v
      → (w.acts ≡ true → v.acts ≡ true) → w.gone ≡ v.gone
      → ((j : ℕ) (u : View E) → get_elem? views j ≡ some u → Retired views log u) → Retired (set views i w) log w
  gone_kept views log i v w at acts same gone =
      let g = gone i v at in
      subst (λ (ps : List (Past E)). Distinct ps × AllGone (set views i w) log ps) (sym same)
      (g.0, all_on views (set views i w) log log (still_set views i v w at acts) ((λ k n. refl), prefix_self log) v.gone g.1)

  pub gone_same : (views : List (View E)) (log : List (Entry E)) (i : ℕ) (v : View E) → get_elem? views i ≡ some v
      → ((j : ℕ) (u : View E) → get_elem? views j ≡ some u → Retired views log u) → Retired (set views i v) log v
  gone_same views log i v at gone = gone_kept views log i v v at (λ a. a) refl gone

  -- one seat more
  pub gone_end : (views : List (View E)) (log : List (Entry E)) (w : View E)
      → ((j : ℕ) (u : View E) → get_elem? views j ≡ some u → Retired views log u) → Retired (views ++ w ∷ []) log w
      → (j : ℕ) (u : View E) → get_elem? (views ++ w ∷ []) j ≡ some u → Retired (views ++ w ∷ []) log u
  gone_end views log w gone own j u e = ⊎_elim
      (λ (x : (j < length views) × (get_elem? views j ≡ some u)). (let g = gone j u x.1 in (g.0, all_on views (views ++ w ∷ []) log log (still_end views w) ((λ k n. refl), prefix_self log) u.gone g.1)))
      (λ (x : (j ≡ length views) × (w ≡ u)). subst (λ (z : View E). Retired (views ++ w ∷ []) log z) x.1 own)
      (at_end views w u j e)

  -- who acts is none of those whose calls are over
  pub apart_of : (views : List (View E)) (log : List (Entry E)) (i : ℕ) (v : View E) → get_elem? views i ≡ some v → v.acts ≡ true
      → (ps : List (Past E)) → AllGone views log ps → Apart i ps
  apart_of views log i v at acts [] all = tt
  apart_of views log i v at acts (p ∷ ps) all = (
    (λ (same : p.who ≡ i). all.0.idle v (subst (λ (n : ℕ). get_elem? views n ≡ some v) (sym same) at) acts),
    apart_of views log i v at acts ps all.1,
  )

  -- both seats of a join, of which the second does not act any more
  pub gone_join : (views : List (View E)) (log : List (Entry E)) (i : ℕ) (v both : View E) (other : ℕ) (w spent : View E)
      → get_elem? views i ≡ some v → (both.acts ≡ true → v.acts ≡ true)
      → get_elem? (set views i both) other ≡ some w → spent.acts ≡ false
      → ((j : ℕ) (u : View E) → get_elem? views j ≡ some u → Retired views log u)
      → (ps : List (Past E)) → AllGone views log ps → AllGone (set (set views i both) other spent) log ps
  gone_join views log i v both other w spent at acts there idle gone ps all =
      all_on (set views i both) (set (set views i both) other spent) log log
      (still_set (set views i both) other w spent there (λ (a : spent.acts ≡ true). absurd (cc (idle, a)))) ((λ k n. refl), prefix_self log) ps
      (all_on views (set views i both) log log (still_set views i v both at acts) ((λ k n. refl), prefix_self log) ps all)
