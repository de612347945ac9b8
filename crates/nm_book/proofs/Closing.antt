-- The same, where the closer's seat is known by its parts.
use Rattle.std.proofs.Common.{◌≡◌, ℕ, List, [], ◌∷◌, true, sym, subst}
use Rattle.atomic_table.specs.Table.{State, Allows, Joins}
use Rattle.nm_book.specs.declared.rule.Past.{Past}
use Rattle.nm_book.specs.declared.rule.View.{View}
use Rattle.nm_book.specs.declared.rule.Entry.{Entry}
use Rattle.nm_book.specs.declared.rule.Shard.{Shard}
use Rattle.nm_book.specs.Log.{Kept, as_closer, as_keeper, nobody, over_in, over_of, past_of, OneLog}
use Rattle.nm_book.proofs.Moves.{closes, closes_shard, ends}

module _ {E : Type 0} (legal : ℕ → List E → Type 0) where
  pub closes_as : (by : ℕ) (v : View E) (gone : List (Past E)) (shards : List (Shard E)) (other : ℕ) (w : View E) → v ≡ as_closer gone shards → w.acts ≡ true
      → Joins (λ (x : State (Unit {0}) (View E)). Kept legal x.views) by v other w (as_closer (past_of w ∷ v.gone) (over_in v.role)) nobody
  closes_as by v gone shards other w is acts = subst (λ (u : View E). Joins (λ (x : State (Unit {0}) (View E)). Kept legal x.views) by u other w (as_closer (past_of w ∷ u.gone) (over_in u.role)) nobody) (sym is) (closes legal by gone shards other w acts)

  pub closes_shard_as : (by : ℕ) (v : View E) (gone : List (Past E)) (shards : List (Shard E)) (other s : ℕ) (all : List (Entry E)) (w : View E) → v ≡ as_closer gone shards → w ≡ as_keeper s all
      → Joins (λ (x : State (Unit {0}) (View E)). Kept legal x.views) by v other w (as_closer v.gone (over_of w ∷ over_in v.role)) nobody
  closes_shard_as by v gone shards other s all w is keeps =
      subst (λ (u : View E). Joins (λ (x : State (Unit {0}) (View E)). Kept legal x.views) by u other w (as_closer u.gone (over_of w ∷ over_in u.role)) nobody) (sym is)
      (subst (λ (u : View E). Joins (λ (x : State (Unit {0}) (View E)). Kept legal x.views) by (as_closer gone shards) other u (as_closer gone (over_of u ∷ shards)) nobody) (sym keeps) (closes_shard legal by gone shards other s all))

  pub ends_as : (slots by : ℕ) (me : View E × List (ℕ × Unit {0})) (gone : List (Past E)) (shards : List (Shard E)) → me ≡ (as_closer gone shards, [])
      → Allows (λ (x : State (Unit {0}) (View E)). Kept legal x.views) slots by me 0 (λ n. n) (λ n m. (m ≡ (as_closer me.0.gone (over_in me.0.role), [])) × OneLog legal me.0.gone (over_in me.0.role))
  ends_as slots by me gone shards is = subst (λ (u : View E × List (ℕ × Unit {0})). Allows (λ (x : State (Unit {0}) (View E)). Kept legal x.views) slots by u 0 (λ n. n) (λ n m. (m ≡ (as_closer u.0.gone (over_in u.0.role), [])) × OneLog legal u.0.gone (over_in u.0.role))) (sym is) (ends legal slots by gone shards)
