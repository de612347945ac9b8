-- Where an honest leg has no mark, what is durable is what reads find: so a loss of power leaves that.
use Rattle.std.proofs.Common.{◌≡◌, ⊎_elim, ℕ, zero, suc, ◌<◌, ◌≤◌, Bool, false, List, [], ◌∷◌, Option, None, Some, length, refl, sym, ap, ◌∙◌, arith, get_or, slice_get}
use Rattle.std.proofs.lemmas.Bool.{cases_lt}
use Rattle.nm_replay.specs.declared.block.Block.{Block}
use Rattle.nm_leg.specs.Leg.{IsDurableElsewhere, Leg}
use Rattle.nm_rules.specs.Array.{contents_at}
use Rattle.nm_rules.specs.Unsynced.{unsynced_at}
use Rattle.nm_losses.specs.Crashing.{CrashesTo, PowerTakesTheUnsynced}

-- a flag of the list that is not set
unset : (flags : List Bool) (k : ℕ) → k < length flags → get_or flags k false ≡ false → slice_get flags k ≡ Some false
unset [] k inside is = absurd (omega (arith, inside))
unset (b ∷ flags) zero inside is = ap (λ (x : Bool). Some x) is
unset (b ∷ flags) (suc k) inside is = unset flags k (omega (arith, inside)) is

-- behind its end a list has nothing
pub past : (xs : List Block) (k : ℕ) → length xs ≤ k → slice_get xs k ≡ None
past [] k end = refl
past (x ∷ xs) zero end = absurd (omega (arith, end))
past (x ∷ xs) (suc k) end = past xs k (omega (arith, end))

module _ {L : Type 0} (model : L → Leg) (each : (leg : L) → length (model leg).unsynced ≡ length (model leg).contents) (elsewhere : (leg : L) → IsDurableElsewhere (model leg)) where
  -- what has no mark is left
  left-there : (held part : L) → CrashesTo model held part → (block : ℕ) → get_or (model held).unsynced block false ≡ false → slice_get (model part).contents block ≡ slice_get (model held).contents block
  left-there held part c block none =
      ⊎_elim
      (λ inside. ⊎_elim (λ durable. durable ∙ elsewhere held block (unset (model held).unsynced block (omega (arith, inside, each held)) none)) (λ stays. stays) (c.left block))
      (λ end. past (model part).contents block (omega (arith, end, c.long)) ∙ sym (past (model held).contents block end))
      (cases_lt block (length (model held).contents))

  pub power-takes : PowerTakesTheUnsynced model
  power-takes stripe leg held part at out c =
      let same_marks : unsynced_at model (slice_get stripe.legs leg) ≡ (model held).unsynced = ap (λ (o : Option L). unsynced_at model o) at in
      let same_held : contents_at model (slice_get stripe.legs leg) ≡ (model held).contents = ap (λ (o : Option L). contents_at model o) at in
      record {
        out = out;
        long = c.long ∙ sym (ap (λ (xs : List Block). length xs) same_held);
        marks = c.marks ∙ sym same_marks;
        kept = λ block clear none.
            left-there held part c block (sym (ap (λ (flags : List Bool). get_or flags block false) same_marks) ∙ none)
            ∙ sym (ap (λ (xs : List Block). slice_get xs block) same_held);
      }
