-- A start that is sure has found the newest save that was done.
use Rattle.std.proofs.Common.{◌≡◌, ◌⊎◌, ⊎_elim, inl, inr, ℕ, ◌<◌, ◌≤◌, arith, Bool, true, false, List, [], ◌∷◌, refl, sym, ap, ◌∙◌, subst, nat_le}
use Rattle.std.proofs.lemmas.Bool.Decides.{nat_tests}
use Rattle.nm_assemble.specs.Saves.{AllOlder, AreSaves, IsOneOf, ReadsAt, Save, SureIsNewest, SureSeesAll, SurelyListed, Unless}

older-one : (generation : ℕ) (saves : List Save) (s : Save) → AllOlder generation saves → IsOneOf s saves → s.generation < generation
older-one generation [] s all one = absurd one
older-one generation (e ∷ saves) s all one =
    ⊎_elim (λ is. subst (λ (x : Save). x.generation < generation) (sym is) all.0) (λ more. older-one generation saves s all.1 more) one

-- a done save that is newer, and names only legs that the found one lists
record LaterDone (found : Save) (saves : List Save) : Type 0 where
  save : Save
  saved : IsOneOf save saves
  done : save.done ≡ true
  newer : found.generation < save.generation
  listed : (leg : ℕ) → save.named leg ≡ true → found.listed leg ≡ true
  some : (leg : ℕ) × (save.named leg ≡ true)
  everywhere : (leg : ℕ) → save.named leg ≡ true → save.reached leg ≡ true

-- a done save in between
record Between (found : Save) (saves : List Save) : Type 0 where
  save : Save
  saved : IsOneOf save saves
  done : save.done ≡ true
  newer : found.generation < save.generation

-- the found save may still be the durable one, or one that was done came after it
listed-or-between : (legs : ℕ → Bool) (found : Save) (saves : List Save) → AreSaves saves → SurelyListed legs saves → IsOneOf found saves
    → ((leg : ℕ) → legs leg ≡ true → found.listed leg ≡ true) ⊎ Between found saves
listed-or-between legs found [] are listed one = absurd one
listed-or-between legs found (e ∷ saves) are listed one =
    ⊎_elim
    (λ is. inl (subst (λ (x : Save). (leg : ℕ) → legs leg ≡ true → x.listed leg ≡ true) (sym is) listed.0))
    (λ more.
    (elim e.done as (λ v. e.done ≡ v → Unless v (SurelyListed legs saves) → ((leg : ℕ) → legs leg ≡ true → found.listed leg ≡ true) ⊎ Between found (e ∷ saves)) [
      | true ↦ λ done rest. inr (record { save = e; saved = inl refl; done = done; newer = older-one e.generation saves found are.0.newer more })
      | false ↦ λ done rest. ⊎_elim
          (λ yes. inl yes)
          (λ between. inr (record { save = between.save; saved = inr between.saved; done = between.done; newer = between.newer }))
          (listed-or-between legs found saves are.1 rest more)
    ]) refl listed.1)
    one

later : (saves : List Save) (found e : Save) → AreSaves saves → IsOneOf found saves → IsOneOf e saves → e.done ≡ true → found.generation < e.generation → LaterDone found saves
later [] found e are one saved done newer = absurd one
later (x ∷ saves) found e are one saved done newer =
    ⊎_elim
    (λ found_is. ⊎_elim
    (λ e_is. absurd (let clash : found.generation ≡ e.generation = ap (λ (s : Save). s.generation) found_is ∙ ap (λ (s : Save). s.generation) (sym e_is) in omega (arith, clash, newer)))
    (λ e_more. absurd (let below = older-one x.generation saves e are.0.newer e_more in let is : found.generation ≡ x.generation = ap (λ (s : Save). s.generation) found_is in omega (arith, below, is, newer)))
    saved)
    (λ found_more. ⊎_elim
    (λ e_is. ⊎_elim
    (λ listed. record {
      save = x;
      saved = inl refl;
      done = subst (λ (s : Save). s.done ≡ true) e_is done;
      newer = subst (λ (s : Save). found.generation < s.generation) e_is newer;
      listed = listed;
      some = are.0.some;
      everywhere = are.0.everywhere (subst (λ (s : Save). s.done ≡ true) e_is done);
    })
    (λ between. on (later saves found between.save are.1 found_more between.saved between.done between.newer))
    (listed-or-between x.named found saves are.1 are.0.listed found_more))
    (λ e_more. on (later saves found e are.1 found_more e_more done newer))
    saved)
    one
  where
    on : LaterDone found saves → LaterDone found (x ∷ saves)
    on l = record { save = l.save; saved = inr l.saved; done = l.done; newer = l.newer; listed = l.listed; some = l.some; everywhere = l.everywhere }

reads-one : (leg generation : ℕ) (saves : List Save) (s : Save) → ReadsAt leg generation saves → IsOneOf s saves → s.reached leg ≡ true → s.generation ≤ generation
reads-one leg generation [] s reads one got = absurd one
reads-one leg generation (e ∷ saves) s reads one got =
    ⊎_elim
    (λ is. subst (λ (x : Save). x.generation ≤ generation) (sym is) (reads.0 (subst (λ (x : Save). x.reached leg ≡ true) is got)))
    (λ more. reads-one leg generation saves s reads.1 more got)
    one

at_most : (a b : ℕ) → (b < a → ⊥) → a ≤ b
at_most a b never = (elim (nat_le a b) as (λ v. nat_le a b ≡ v → a ≤ b) [
  | true ↦ λ is. grind (arith, nat_tests)
  | false ↦ λ is. absurd (never (grind (arith, nat_tests)))
]) refl

pub sure-newest : SureIsNewest
sure-newest saves found e are sure saved done =
    at_most e.generation found.generation (λ newer.
    let l = later saves found e are sure.saved saved done newer in
    let leg = l.some.0 in
    let read = sure.read leg (l.listed leg l.some.1) in
    let reached = reads-one leg read.0 saves l.save read.2 l.saved (l.everywhere leg l.some.1) in
    omega (arith, reached, read.1, l.newer))

-- a newer attempt names only legs that the found one lists, or a done one came between
record Tried (found : Save) (saves : List Save) (e : Save) : Type 0 where
  listed : ((leg : ℕ) → e.named leg ≡ true → found.listed leg ≡ true) ⊎ Between found saves
  first : e.done ≡ false → (leg : ℕ) → e.touched leg ≡ true → e.named leg ≡ true

tried : (saves : List Save) (found e : Save) → AreSaves saves → IsOneOf found saves → IsOneOf e saves → found.generation < e.generation → Tried found saves e
tried [] found e are one saved newer = absurd one
tried (x ∷ saves) found e are one saved newer =
    ⊎_elim
    (λ found_is. ⊎_elim
    (λ e_is. absurd (let clash : found.generation ≡ e.generation = ap (λ (s : Save). s.generation) found_is ∙ ap (λ (s : Save). s.generation) (sym e_is) in omega (arith, clash, newer)))
    (λ e_more. absurd (let below = older-one x.generation saves e are.0.newer e_more in let is : found.generation ≡ x.generation = ap (λ (s : Save). s.generation) found_is in omega (arith, below, is, newer)))
    saved)
    (λ found_more. ⊎_elim
    (λ e_is. subst (λ (s : Save). Tried found (x ∷ saves) s) (sym e_is) (record {
      listed = ⊎_elim (λ listed. inl listed) (λ between. inr (on-between between)) (listed-or-between x.named found saves are.1 are.0.listed found_more);
      first = are.0.first;
    }))
    (λ e_more.
    let more = tried saves found e are.1 found_more e_more newer in
    record {
      listed = ⊎_elim (λ listed. inl listed) (λ between. inr (on-between between)) more.listed;
      first = more.first;
    })
    saved)
    one
  where
    on-between : Between found saves → Between found (x ∷ saves)
    on-between between = record { save = between.save; saved = inr between.saved; done = between.done; newer = between.newer }

pub sure-sees : SureSeesAll
sure-sees saves found e are sure saved newer =
    let attempt = tried saves found e are sure.saved saved newer in
    let not_done : e.done ≡ false = not-done e.done refl in (
      not_done,
      λ leg touched. ⊎_elim
          (λ listed. listed leg (attempt.first not_done leg touched))
          (λ between. absurd (let most = sure-newest saves found between.save are sure between.saved between.done in omega (arith, most, between.newer)))
          attempt.listed,
    )
  where
    not-done : (v : Bool) → e.done ≡ v → e.done ≡ false
    not-done true is = absurd (let most = sure-newest saves found e are sure saved is in omega (arith, most, newer))
    not-done false is = is
