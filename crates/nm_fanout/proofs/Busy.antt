-- Which record is under way on a block, after each change of the records.
use Rattle.std.proofs.Common.{◌≡◌, ◌≢◌, ℕ, Bool, true, false, cond, ◌==◌, ◌&&◌, List, [], ◌∷◌, ◌++◌, Option, None, Some, refl, sym, ap, ◌∙◌, eq-eqb, ne_eqb, inl, inr}
use Rattle.std.specs.Option.{option_or}
use Rattle.std.proofs.lemmas.Bool.Decides.{eqb_tells}
use Rattle.std.proofs.lemmas.List.Folds.{find-append}
use Rattle.nm_fanout.specs.declared.write_record.Record.{Record}
use Rattle.nm_fanout.specs.Record.{is_under_way}
use Rattle.nm_fanout.specs.Records.{busy_on, with_new}
use Rattle.nm_fanout.specs.Runs.{meets}
use Rattle.nm_fanout.proofs.Owed.{tells}

-- whether the record is the one that a block is busy with
abbrev pub holds : ℕ → Record → Bool
holds b r = (r.block == b) && is_under_way r

-- or one of these blocks, for a run
abbrev pub holds_among : ℕ → ℕ → Record → Bool
holds_among first count r = meets first count r

holds-other : (b : ℕ) (r : Record) → r.block ≢ b → holds b r ≡ false
holds-other b r ne = let other : (r.block == b) ≡ false = ne_eqb r.block b ne in rw other refl

pub holds-idle : (b : ℕ) (r : Record) → is_under_way r ≡ false → holds b r ≡ false
holds-idle b r idle = elim (eqb_tells r.block b)
    [ inl w ↦ rw (w.0, idle) refl | inr w ↦ rw w.0 refl ]

pub holds-same : (b : ℕ) (r : Record) → r.block ≡ b → is_under_way r ≡ true → holds b r ≡ true
holds-same b r e busy = let same : (r.block == b) ≡ true = eq-eqb r.block b e in rw (same, busy)
    refl

-- what a block is busy with is under way there
first-holds : (b : ℕ) (r x : Record) (o : Option Record)
    → (o ≡ Some x → (x.block ≡ b) × (is_under_way x ≡ true)) → cond (holds b r) (Some r) o ≡ Some x
    → (x.block ≡ b) × (is_under_way x ≡ true)
first-holds b r x o later h =
    elim (eqb_tells r.block b) [
      | inl w ↦ elim (tells (is_under_way r)) [
        | inl busy ↦
            let here : Some r ≡ Some x = rw (w.0, busy) at h in
            let e : r ≡ x = cc in (
              ap (λ (y : Record). y.block) (sym e) ∙ w.1,
              ap (λ (y : Record). is_under_way y) (sym e)
                  ∙ busy,
            )
        | inr idle ↦ later (rw (w.0, idle) at h)
      ]
      | inr w ↦ later (rw w.0 at h)
    ]

pub busy_on-Some : (b : ℕ) (rs : List Record) (x : Record) → busy_on b rs ≡ Some x
    → (x.block ≡ b) × (is_under_way x ≡ true)
busy_on-Some b [] x h = absurd cc
busy_on-Some b (r ∷ rs) x h = first-holds b r x (busy_on b rs) (busy_on-Some b rs x) h

-- the records before one, that one, and the records after it
pub busy_on-parts : (b : ℕ) (older newer : List Record) (x : Record)
    → busy_on b (older ++ x ∷ newer) ≡ option_or (busy_on b older)
    (cond (holds b x) (Some x) (busy_on b newer))
busy_on-parts b older newer x = find-append (holds b) older (x ∷ newer)

-- a write that begins, seen from another block
pub busy_on-with_new_other : (b : ℕ) (r : Record) (rs : List Record) → r.block ≢ b
    → busy_on b (with_new r rs) ≡ busy_on b rs
busy_on-with_new_other b r [] other = let no : holds b r ≡ false = holds-other b r other in rw no
    refl
busy_on-with_new_other b r (x ∷ rs) other = ap (λ (o : Option Record). cond (holds b x) (Some x) o)
    (busy_on-with_new_other b r rs other)

pub skip-first : (b : ℕ) (x : Record) (o : Option Record) → cond (holds b x) (Some x) o ≡ None
    → (holds b x ≡ false) × (o ≡ None)
skip-first b x o h =
    elim (tells (holds b x)) [
      | inl w ↦ absurd (let here : Some x ≡ None = rw w at h in cc)
      | inr w ↦ (w, rw w at h)
    ]

-- a block with no record under way is not busy with any of them
pub busy_on-absent : (b : ℕ) (older newer : List Record) (x : Record) → x.block ≡ b
    → is_under_way x ≡ true → busy_on b (older ++ x ∷ newer) ≡ None → ⊥
busy_on-absent b [] newer x e busy h =
    let yes : holds b x ≡ true = holds-same b x e busy in
    let here : Some x ≡ None = rw yes at h in cc
busy_on-absent b (r ∷ older) newer x e busy h =
    busy_on-absent b older newer x e busy (skip-first b r (busy_on b (older ++ x ∷ newer)) h).1
