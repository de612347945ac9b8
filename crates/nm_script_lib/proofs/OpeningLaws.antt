-- The opening that is read of the lines after the mirror line is theirs; where none is read, the line
-- that is named is wrong in its place.
use Rattle.std.proofs.Common.{◌≡◌, ℕ, ◌+◌, Bool, true, false, List, [], ◌∷◌, ◌++◌, length, filter, Some, None, Option, Ok, Err, refl, sym, ap, ◌∙◌, append_assoc, arith, ◌⊎◌, inl, inr}
use Rattle.std.specs.List.{AllByRecursion}
use Rattle.std.proofs.lemmas.Bool.{both_ways}
use Rattle.std.proofs.lemmas.List.{append-nil}
use Rattle.nm_script_lib.specs.declared.load.Load.{Load}
use Rattle.nm_script_lib.specs.declared.mirror_line.MirrorLine.{MirrorLine}
use Rattle.nm_script_lib.specs.declared.step.Step.{Step}
use Rattle.nm_script_lib.specs.Forms.{IsLine}
use Rattle.nm_script_lib.specs.Grammar.{IsStepLine, IsOpening, load_form, start_form, step_form, has_content}
use Rattle.nm_script_lib.specs.BadLine.{IsNoLoad, IsStart}
use Rattle.nm_script_lib.specs.Reading.{read_line}
use Rattle.nm_script_lib.specs.ScriptReading.{Opened, is_between, by_load, by_start, opening_from}
use Rattle.nm_script_lib.proofs.FormLaws.{line_sound, line_complete}
use Rattle.nm_script_lib.proofs.LineLaws.{chosen, FirstFrom, first_here, first_later, no_step}
use Rattle.nm_script_lib.proofs.BetweenLaws.{IsLoaded, IsBetweenFrom, between_read, between_is_read, loaded_here, loaded_back, skipped_here, skipped_back}

-- an opening that is read is one

-- the lines begin with these loads, after those so far, and a start
pub record Found (m : MirrorLine) (sofar : List Load) (n : ℕ) (lines : List (List ℕ)) (o : Opened)
    : Type 0 where
  pub before : List (List ℕ)
  pub after : List (List ℕ)
  pub loads : List Load
  pub master : ℕ
  pub split : lines ≡ before ++ after
  pub opens : IsOpening m (filter has_content before) loads (Some master)
  pub is : o ≡ (sofar ++ loads, Some master, length before + n, after)

-- a line more, which has no content
skipped : (m : MirrorLine) (sofar : List Load) (n : ℕ) (line : List ℕ) (lines : List (List ℕ)) (o : Opened) →
    has_content line ≡ false → Found m sofar (n + 1) lines o → Found m sofar n (line ∷ lines) o
skipped m sofar n line lines o empty f =
    let number : length f.before + (n + 1) ≡ length (line ∷ f.before) + n = omega arith in
    record {
      before = line ∷ f.before;
      after = f.after;
      loads = f.loads;
      master = f.master;
      split = ap (λ r. line ∷ r) f.split;
      opens = rw empty f.opens;
      is = f.is ∙ ap (λ k. let x : Opened = (sofar ++ f.loads, Some f.master, k, f.after) in x) number;
    }

-- a load more
loaded_first : (m : MirrorLine) (sofar : List Load) (n : ℕ) (line : List ℕ) (lines : List (List ℕ))
    (load : Load) (o : Opened) → has_content line ≡ true → read_line (load_form m) line ≡ Some load →
    Found m (sofar ++ load ∷ []) (n + 1) lines o → Found m sofar n (line ∷ lines) o
loaded_first m sofar n line lines load o full reads f =
    let number : length f.before + (n + 1) ≡ length (line ∷ f.before) + n = omega arith in
    let opens : IsOpening m (line ∷ filter has_content f.before) (load ∷ f.loads) (Some f.master) = (
      line ∷ f.opens.0,
      f.opens.1,
      ap (λ r. line ∷ r) f.opens.2,
      (line_sound (load_form m) line load reads, f.opens.3),
      f.opens.4,
    ) in
    record {
      before = line ∷ f.before;
      after = f.after;
      loads = load ∷ f.loads;
      master = f.master;
      split = ap (λ r. line ∷ r) f.split;
      opens = rw full opens;
      is = f.is
          ∙ ap (λ k. let x : Opened = ((sofar ++ load ∷ []) ++ f.loads, Some f.master, k, f.after) in x) number
          ∙ ap (λ ls. let x : Opened = (ls, Some f.master, length (line ∷ f.before) + n, f.after) in x)
          (append_assoc sofar (load ∷ []) f.loads);
    }

-- the start
started_first : (m : MirrorLine) (sofar : List Load) (n : ℕ) (line : List ℕ) (lines : List (List ℕ))
    (master : ℕ) (o : Opened) → has_content line ≡ true → read_line (start_form m) line ≡ Some master →
    ◌≡◌ {A = Opened} (sofar, Some master, n + 1, lines) o → Found m sofar n (line ∷ lines) o
started_first m sofar n line lines master o full reads e =
    let number : n + 1 ≡ length (line ∷ []) + n = omega arith in
    let opens : IsOpening m (line ∷ []) [] (Some master) =
    ([], line, refl, tt, line_sound (start_form m) line master reads) in
    record {
      before = line ∷ [];
      after = lines;
      loads = [];
      master = master;
      split = refl;
      opens = rw full opens;
      is = sym e
          ∙ ap (λ k. let x : Opened = (sofar, Some master, k, lines) in x) number
          ∙ ap (λ ls. let x : Opened = (ls, Some master, length (line ∷ []) + n, lines) in x)
          (sym (append-nil sofar));
    }

-- the lines open with no start: the first with content that is no load is a step, or there is none

no_load : (m : MirrorLine) (line : List ℕ) → read_line (load_form m) line ≡ None → (load : Load) →
    IsLine (load_form m) line load → ⊥
no_load m line none load is = let some = line_complete (load_form m) line load is in cc

no_start : (m : MirrorLine) (line : List ℕ) → read_line (start_form m) line ≡ None → IsStart m line → ⊥
no_start m line none is = let some = line_complete (start_form m) line is.0 is.1 in cc

no_content_is_load : (m : MirrorLine) (line : List ℕ) → has_content line ≡ false → IsNoLoad m line → ⊥
no_content_is_load m line empty bad = both_ways (has_content line) empty bad.0

a_load_is_load : (m : MirrorLine) (line : List ℕ) (load : Load) →
    read_line (load_form m) line ≡ Some load → IsNoLoad m line → ⊥
a_load_is_load m line load reads bad = bad.1 load (line_sound (load_form m) line load reads)

-- the first line that is no load is a step that stands not between a load and a start
pub record StepFirst (m : MirrorLine) (sofar : List Load) (n : ℕ) (lines : List (List ℕ)) : Type 0 where
  pub number : ℕ
  pub first : FirstFrom (IsNoLoad m) n lines number
  pub step : Step
  pub is : IsStepLine m first.line step
  pub alone : IsBetweenFrom m sofar first.before first.after → ⊥

abbrev pub OpensNothing : MirrorLine → List Load → ℕ → List (List ℕ) → Type 0
OpensNothing m sofar n lines =
    AllByRecursion (λ line. IsNoLoad m line → ⊥) lines ⊎ StepFirst m sofar n lines

nothing_later : (m : MirrorLine) (sofar more : List Load) (n : ℕ) (line : List ℕ) (lines : List (List ℕ)) →
    (IsNoLoad m line → ⊥) →
    ((before : List (List ℕ)) → IsLoaded sofar (line ∷ before) → IsLoaded more before) →
    OpensNothing m more (n + 1) lines → OpensNothing m sofar n (line ∷ lines)
nothing_later m sofar more n line lines fails loaded (inl none) = inl (fails, none)
nothing_later m sofar more n line lines fails loaded (inr s) = inr (record {
  number = s.number;
  first = first_later (IsNoLoad m) n line lines s.number fails s.first;
  step = s.step;
  is = s.is;
  alone = λ between. s.alone (loaded s.first.before between.0, between.1);
})

-- what is read is none, and the lines open with no start; or it is what they open with
abbrev pub Opening : MirrorLine → Opened → List Load → ℕ → List (List ℕ) → Opened → Type 0
Opening m none sofar n lines o = ((o ≡ none) × OpensNothing m sofar n lines) ⊎ Found m sofar n lines o

by_start_found : (m : MirrorLine) (none : Opened) (sofar : List Load) (n : ℕ) (line : List ℕ)
    (lines : List (List ℕ)) (o : Opened) (master : Option ℕ) (step : Option Step) (between : Bool) →
    has_content line ≡ true → read_line (load_form m) line ≡ None →
    read_line (start_form m) line ≡ master → read_line (step_form m) line ≡ step →
    is_between m sofar lines ≡ between →
    by_start master step between none sofar n lines ≡ Ok o → Opening m none sofar n (line ∷ lines) o
by_start_found m none sofar n line lines o None None between full loads starts steps stands h = cc
by_start_found m none sofar n line lines o None (Some step) true full loads starts steps stands h = cc
by_start_found m none sofar n line lines o None (Some step) false full loads starts steps stands h =
    let same : o ≡ none = cc in
    inl (
      same,
      inr (record {
        number = n;
        first = first_here (IsNoLoad m) n line lines n refl (full, no_load m line loads);
        step = step;
        is = line_sound (step_form m) line step steps;
        alone = between_is_read m sofar lines stands;
      }),
    )
by_start_found m none sofar n line lines o (Some master) step between full loads starts steps stands h =
    let same : ◌≡◌ {A = Opened} (sofar, Some master, n + 1, lines) o = cc in
    inr (started_first m sofar n line lines master o full starts same)

by_load_found : (m : MirrorLine) (none : Opened) (sofar : List Load) (n : ℕ) (line : List ℕ)
    (lines : List (List ℕ)) (o : Opened) (load : Option Load) → has_content line ≡ true →
    ((more : List Load) → opening_from m none more (n + 1) lines ≡ Ok o →
    Opening m none more (n + 1) lines o) →
    read_line (load_form m) line ≡ load →
    by_load load (λ load. opening_from m none (sofar ++ (load ∷ [])) (n + 1) lines)
    (by_start (read_line (start_form m) line) (read_line (step_form m) line)
    (is_between m sofar lines) none sofar n lines) ≡ Ok o →
    Opening m none sofar n (line ∷ lines) o
by_load_found m none sofar n line lines o None full rest reads h =
    by_start_found m none sofar n line lines o (read_line (start_form m) line)
    (read_line (step_form m) line) (is_between m sofar lines) full reads refl refl refl h
by_load_found m none sofar n line lines o (Some load) full rest reads h =
    elim (rest (sofar ++ load ∷ []) h) [
      | inl is ↦ inl (
        is.0,
        nothing_later m sofar (sofar ++ load ∷ []) n line lines (a_load_is_load m line load reads)
            (loaded_here sofar load line) is.1,
      )
      | inr f ↦ inr (loaded_first m sofar n line lines load o full reads f)
    ]

pub found : (m : MirrorLine) (none : Opened) (sofar : List Load) (n : ℕ) (lines : List (List ℕ)) (o : Opened) →
    opening_from m none sofar n lines ≡ Ok o → Opening m none sofar n lines o
found m none sofar n [] o h = let same : o ≡ none = cc in inl (same, inl tt)
found m none sofar n (line ∷ lines) o h =
    elim (chosen (has_content line)
    (by_load (read_line (load_form m) line)
    (λ load. opening_from m none (sofar ++ (load ∷ [])) (n + 1) lines)
    (by_start (read_line (start_form m) line) (read_line (step_form m) line)
    (is_between m sofar lines) none sofar n lines))
    (opening_from m none sofar (n + 1) lines) (Ok o) h) [
      | inl p ↦ by_load_found m none sofar n line lines o (read_line (load_form m) line) p.0
          (λ more. found m none more (n + 1) lines o) refl p.1
      | inr p ↦ elim (found m none sofar (n + 1) lines o p.1) [
        | inl is ↦ inl (
          is.0,
          nothing_later m sofar sofar n line lines (no_content_is_load m line p.0)
              (λ before. skipped_here sofar line before p.0) is.1,
        )
        | inr f ↦ inr (skipped m sofar n line lines o p.0 f)
      ]
    ]

-- the line that is named is the first with content that is no load, and no start; and no step
-- either, or one between a load and a start

pub record WrongFrom (m : MirrorLine) (sofar : List Load) (n : ℕ) (lines : List (List ℕ)) (k : ℕ)
    : Type 0 where
  pub first : FirstFrom (IsNoLoad m) n lines k
  pub no_start : IsStart m first.line → ⊥
  pub wrong : ((s : Step) → IsStepLine m first.line s → ⊥)
      ⊎ IsBetweenFrom m sofar first.before first.after

still_wrong : (m : MirrorLine) (sofar more : List Load) (line first : List ℕ) (before after : List (List ℕ)) →
    (IsLoaded more before → IsLoaded sofar (line ∷ before)) →
    ((s : Step) → IsStepLine m first s → ⊥) ⊎ IsBetweenFrom m more before after →
    ((s : Step) → IsStepLine m first s → ⊥) ⊎ IsBetweenFrom m sofar (line ∷ before) after
still_wrong m sofar more line first before after loaded (inl is) = inl is
still_wrong m sofar more line first before after loaded (inr between) =
    inr (loaded between.0, between.1)

wrong_later : (m : MirrorLine) (sofar more : List Load) (n : ℕ) (line : List ℕ) (lines : List (List ℕ)) (k : ℕ) →
    (IsNoLoad m line → ⊥) →
    ((before : List (List ℕ)) → IsLoaded more before → IsLoaded sofar (line ∷ before)) →
    WrongFrom m more (n + 1) lines k → WrongFrom m sofar n (line ∷ lines) k
wrong_later m sofar more n line lines k fails loaded w = record {
  first = first_later (IsNoLoad m) n line lines k fails w.first;
  no_start = w.no_start;
  wrong = still_wrong m sofar more line w.first.line w.first.before w.first.after
      (loaded w.first.before) w.wrong;
}

by_start_wrong : (m : MirrorLine) (none : Opened) (sofar : List Load) (n : ℕ) (line : List ℕ)
    (lines : List (List ℕ)) (k : ℕ) (master : Option ℕ) (step : Option Step) (between : Bool) →
    has_content line ≡ true → read_line (load_form m) line ≡ None →
    read_line (start_form m) line ≡ master → read_line (step_form m) line ≡ step →
    is_between m sofar lines ≡ between →
    by_start master step between none sofar n lines ≡ Err k → WrongFrom m sofar n (line ∷ lines) k
by_start_wrong m none sofar n line lines k None None between full loads starts steps stands h =
    let here : n ≡ k = cc in
    record {
      first = first_here (IsNoLoad m) n line lines k here (full, no_load m line loads);
      no_start = no_start m line starts;
      wrong = inl (no_step m line steps);
    }
by_start_wrong m none sofar n line lines k None (Some step) true full loads starts steps stands h =
    let here : n ≡ k = cc in
    record {
      first = first_here (IsNoLoad m) n line lines k here (full, no_load m line loads);
      no_start = no_start m line starts;
      wrong = inr (between_read m sofar lines stands);
    }
by_start_wrong m none sofar n line lines k None (Some step) false full loads starts steps stands h = cc
by_start_wrong m none sofar n line lines k (Some master) step between full loads starts steps stands h = cc

by_load_wrong : (m : MirrorLine) (none : Opened) (sofar : List Load) (n : ℕ) (line : List ℕ)
    (lines : List (List ℕ)) (k : ℕ) (load : Option Load) → has_content line ≡ true →
    ((more : List Load) → opening_from m none more (n + 1) lines ≡ Err k →
    WrongFrom m more (n + 1) lines k) →
    read_line (load_form m) line ≡ load →
    by_load load (λ load. opening_from m none (sofar ++ (load ∷ [])) (n + 1) lines)
    (by_start (read_line (start_form m) line) (read_line (step_form m) line)
    (is_between m sofar lines) none sofar n lines) ≡ Err k →
    WrongFrom m sofar n (line ∷ lines) k
by_load_wrong m none sofar n line lines k None full rest reads h =
    by_start_wrong m none sofar n line lines k (read_line (start_form m) line)
    (read_line (step_form m) line) (is_between m sofar lines) full reads refl refl refl h
by_load_wrong m none sofar n line lines k (Some load) full rest reads h =
    wrong_later m sofar (sofar ++ load ∷ []) n line lines k (a_load_is_load m line load reads)
    (λ before. loaded_back sofar (sofar ++ load ∷ []) line before full) (rest (sofar ++ load ∷ []) h)

pub wrong : (m : MirrorLine) (none : Opened) (sofar : List Load) (n : ℕ) (lines : List (List ℕ)) (k : ℕ) →
    opening_from m none sofar n lines ≡ Err k → WrongFrom m sofar n lines k
wrong m none sofar n [] k h = cc
wrong m none sofar n (line ∷ lines) k h =
    elim (chosen (has_content line)
    (by_load (read_line (load_form m) line)
    (λ load. opening_from m none (sofar ++ (load ∷ [])) (n + 1) lines)
    (by_start (read_line (start_form m) line) (read_line (step_form m) line)
    (is_between m sofar lines) none sofar n lines))
    (opening_from m none sofar (n + 1) lines) (Err k) h) [
      | inl p ↦ by_load_wrong m none sofar n line lines k (read_line (load_form m) line) p.0
          (λ more. wrong m none more (n + 1) lines k) refl p.1
      | inr p ↦ wrong_later m sofar sofar n line lines k (no_content_is_load m line p.0)
          (skipped_back sofar line) (wrong m none sofar (n + 1) lines k p.1)
    ]
