-- Reading a text's lines in order finds the first of each kind, and reads those with content.
use Rattle.std.proofs.Common.{◌≡◌, ℕ, ◌+◌, Bool, true, false, cond, List, [], ◌∷◌, ◌++◌, length, filter, Some, None, Option, Result, Ok, Err, IsTrue, refl, ap, arith, ◌⊎◌, inl, inr}
use Rattle.std.specs.List.{AllByRecursion, AllZip}
use Rattle.std.proofs.lemmas.Bool.{cases_Bool, both_ways}
use Rattle.std.proofs.lemmas.Option.{same_Some}
use Rattle.nm_script_lib.specs.declared.mirror_line.MirrorLine.{MirrorLine}
use Rattle.nm_script_lib.specs.declared.step.Step.{Step}
use Rattle.nm_script_lib.specs.Grammar.{IsStepLine, step_form, has_content}
use Rattle.nm_script_lib.specs.BadLine.{IsFirst, IsBadStep}
use Rattle.nm_script_lib.specs.Reading.{read_line}
use Rattle.nm_script_lib.specs.ScriptReading.{first_where, content_from, onto_steps, steps_of}
use Rattle.nm_script_lib.proofs.FormLaws.{line_sound, line_complete}

pub chosen : {A : Type 0} (b : Bool) (x y z : A) → cond b x y ≡ z →
    ((b ≡ true) × (x ≡ z)) ⊎ ((b ≡ false) × (y ≡ z))
chosen true x y z h = inl (refl, h)
chosen false x y z h = inr (refl, h)

abbrev read_step : MirrorLine → List ℕ → Option Step
read_step m line = read_line (step_form m) line

step_sound : (m : MirrorLine) (line : List ℕ) (s : Step) → read_step m line ≡ Some s →
    IsStepLine m line s
step_sound m line s h = line_sound (step_form m) line s h

step_read : (m : MirrorLine) (line : List ℕ) (s : Step) → IsStepLine m line s →
    read_step m line ≡ Some s
step_read m line s h = line_complete (step_form m) line s h

-- the same as the first line of which a fact holds, where the first line here is the n-th
pub record FirstFrom (Holds : List ℕ →
    Type 0) (n : ℕ) (lines : List (List ℕ)) (k : ℕ) : Type 0 where
  pub before : List (List ℕ)
  pub line : List ℕ
  pub after : List (List ℕ)
  pub split : lines ≡ before ++ (line ∷ after)
  pub number : k ≡ length before + n
  pub none_before : AllByRecursion (λ other. Holds other → ⊥) before
  pub holds : Holds line

abbrev pub first_here : (Holds : List ℕ → Type 0) (n : ℕ) (line : List ℕ) (lines : List (List ℕ)) (k : ℕ) →
    n ≡ k → Holds line → FirstFrom Holds n (line ∷ lines) k
first_here Holds n line lines k e h = record {
  before = [];
  line = line;
  after = lines;
  split = refl;
  number = omega arith;
  none_before =
      tt;
  holds = h;
}

abbrev pub first_later : (Holds : List ℕ → Type 0) (n : ℕ) (line : List ℕ) (lines : List (List ℕ)) (k : ℕ) →
    (Holds line → ⊥) → FirstFrom Holds (n + 1) lines k → FirstFrom Holds n (line ∷ lines) k
first_later Holds n line lines k fails f = record {
  before = line ∷ f.before;
  line = f.line;
  after = f.after;
  split = ap (λ r. line ∷ r)
      f.split;
  number = omega (arith, f.number);
  none_before = (
    fails,
    f.none_before,
  );
  holds = f.holds;
}

pub first_of_lines : (Holds : List ℕ → Type 0) (lines : List (List ℕ)) (k : ℕ) →
    FirstFrom Holds 1 lines k → IsFirst Holds lines k
first_of_lines Holds lines k f = record {
  before = f.before;
  line = f.line;
  after = f.after;
  split = f.split;
  number = f.number;
  none_before = f.none_before;
  holds = f.holds;
}

-- the same, counted from the line after line n
pub later_first : (Holds : List ℕ → Type 0) (n from : ℕ) (lines : List (List ℕ)) (k : ℕ) →
    from ≡ n + 1 → FirstFrom Holds from lines k →
    (j : ℕ) × (k ≡ n + j) × IsFirst Holds lines j
later_first Holds n from lines k e f = (
  length f.before + 1,
  omega (arith, e, f.number),
  record {
    before = f.before;
    line = f.line;
    after = f.after;
    split = f.split;
    number =
        refl;
    none_before = f.none_before;
    holds = f.holds;
  },
)

pub where_found : (test : List ℕ → Bool) (Holds : List ℕ → Type 0) →
    ((l : List ℕ) → test l ≡ true → Holds l) → ((l : List ℕ) → test l ≡ false → Holds l → ⊥) →
    (n : ℕ) (lines : List (List ℕ)) (k : ℕ) → first_where test n lines ≡ Some k →
    FirstFrom Holds n lines k
where_found test Holds passes fails n [] k h = cc
where_found test Holds passes fails n (line ∷ lines) k h =
    elim (chosen (test line) (Some n) (first_where test (n + 1) lines) (Some k) h) [
      | inl p ↦ first_here Holds n line lines k (same_Some n k p.1) (passes line p.0)
      | inr p ↦ first_later Holds n line lines k (fails line p.0)
          (where_found test Holds passes fails (n + 1) lines k p.1)
    ]

pub where_none : (test : List ℕ → Bool) (Fails : List ℕ → Type 0) →
    ((l : List ℕ) → test l ≡ false → Fails l) →
    (n : ℕ) (lines : List (List ℕ)) → first_where test n lines ≡ None → AllByRecursion Fails lines
where_none test Fails fails n [] h = tt
where_none test Fails fails n (line ∷ lines) h =
    elim (chosen (test line) (Some n) (first_where test (n + 1) lines) None h) [
      | inl p ↦ cc
      | inr p ↦ (fails line p.0, where_none test Fails fails (n + 1) lines p.1)
    ]

pub none_where : (test : List ℕ → Bool) (Fails : List ℕ → Type 0) →
    ((l : List ℕ) → Fails l → test l ≡ false) →
    (n : ℕ) (lines : List (List ℕ)) → AllByRecursion Fails lines → first_where test n lines ≡ None
none_where test Fails fails n [] h = refl
none_where test Fails fails n (line ∷ lines) h = rw (fails line h.0)
    (none_where test Fails fails (n + 1) lines h.1)

-- the first line with content

pub record ContentFrom (n : ℕ) (lines : List (List ℕ)) (k : ℕ) (line : List ℕ) (rest : List (List ℕ))
    : Type 0 where
  pub before : List (List ℕ)
  pub split : lines ≡ before ++ (line ∷ rest)
  pub number : k ≡ length before + n
  pub skipped : AllByRecursion (λ other. IsTrue (has_content other) → ⊥) before
  pub here : IsTrue (has_content line)
  pub content : filter has_content lines ≡ line ∷ filter has_content rest

abbrev ContentHere : ℕ → List (List ℕ) → ℕ × List ℕ × List (List ℕ) → Type 0
ContentHere n lines x = ContentFrom n lines x.0 x.1 x.2

pub content_found : (n : ℕ) (lines : List (List ℕ)) (x : ℕ × List ℕ × List (List ℕ)) →
    content_from n lines ≡ Some x → ContentHere n lines x
content_found n [] x h = cc
content_found n (line ∷ lines) x h =
    elim (chosen (has_content line) (Some (n, line, lines)) (content_from (n + 1) lines) (Some x) h) [
      | inl p ↦ rw (← same_Some (
        n,
        line,
        lines,
      ) x p.1) (record {
        before = [];
        split = refl;
        number = omega arith;
        skipped = tt;
        here = p.0;
        content = rw
            p.0 refl;
      })
      | inr p ↦
          let f = content_found (n + 1) lines x p.1 in
          record {
            before = line ∷ f.before;
            split = ap (λ r. line ∷ r) f.split;
            number = omega (arith, f.number);
            skipped = ((λ passes. both_ways (has_content line) p.0 passes), f.skipped);
            here = f.here;
            content = rw p.0 f.content;
          }
    ]

pub content_none : (n : ℕ) (lines : List (List ℕ)) → content_from n lines ≡ None →
    AllByRecursion (λ line. has_content line ≡ false) lines
content_none n [] h = tt
content_none n (line ∷ lines) h =
    elim (chosen (has_content line) (Some (n, line, lines)) (content_from (n + 1) lines) None h) [
      | inl p ↦ cc
      | inr p ↦ (p.0, content_none (n + 1) lines p.1)
    ]

-- what the grammar calls the first line is found
pub content_back : (n : ℕ) (lines others : List (List ℕ)) (first : List ℕ) →
    filter has_content lines ≡ first ∷ others →
    (k : ℕ) × (rest : List (List ℕ)) × (content_from n lines ≡ Some (k, first, rest)) ×
    (filter has_content rest ≡ others)
content_back n [] others first h = cc
content_back n (line ∷ lines) others first h =
    elim (chosen (has_content line) (line ∷ filter has_content lines) (filter has_content lines) (first ∷ others)
    h) [
      | inl p ↦
          let e : line ≡ first = cc in
          let f : filter has_content lines ≡ others = cc in
          (n, lines, rw (p.0, e) refl, f)
      | inr p ↦
          let b = content_back (n + 1) lines others first p.1 in
          (b.0, b.1, rw p.0 b.2, b.3)
    ]

-- the steps

onto_ok : (o : Option Step) (n : ℕ) (r : Result (List Step) ℕ) (ss : List Step) →
    onto_steps o n r ≡ Ok ss →
    (s : Step) × (rest : List Step) × (o ≡ Some s) × (r ≡ Ok rest) × (ss ≡ s ∷ rest)
onto_ok None n r ss h = cc
onto_ok (Some s) n (Err k) ss h = cc
onto_ok (Some s) n (Ok rest) ss h = (s, rest, refl, refl, cc)

onto_err : (o : Option Step) (n : ℕ) (r : Result (List Step) ℕ) (k : ℕ) → onto_steps o n r ≡ Err k →
    ((o ≡ None) × (n ≡ k)) ⊎ ((s : Step) × (o ≡ Some s) × (r ≡ Err k))
onto_err None n r k h = inl (refl, cc)
onto_err (Some s) n (Err j) k h = inr (s, refl, h)
onto_err (Some s) n (Ok rest) k h = cc

pub steps_sound : (m : MirrorLine) (n : ℕ) (lines : List (List ℕ)) (ss : List Step) →
    steps_of m n lines ≡ Ok ss → AllZip (IsStepLine m) (filter has_content lines) ss
steps_sound m n [] ss h = let e : [] ≡ ss = cc in rw (← e) tt
steps_sound m n (line ∷ lines) ss h =
    elim (chosen (has_content line) (onto_steps (read_step m line) n (steps_of m (n + 1) lines))
    (steps_of m (n + 1) lines) (Ok ss) h) [
      | inl p ↦
          let o = onto_ok (read_step m line) n (steps_of m (n + 1) lines) ss p.1 in
          rw (p.0, o.4) (step_sound m line o.0 o.2, steps_sound m (n + 1) lines o.1 o.3)
      | inr p ↦ rw p.0 (steps_sound m (n + 1) lines ss p.1)
    ]

pub no_step : (m : MirrorLine) (line : List ℕ) → read_step m line ≡ None → (s : Step) → IsStepLine m line s →
    ⊥
no_step m line none s is = let some = step_read m line s is in cc

pub steps_bad : (m : MirrorLine) (n : ℕ) (lines : List (List ℕ)) (k : ℕ) → steps_of m n lines ≡ Err k →
    FirstFrom (IsBadStep m) n lines k
steps_bad m n [] k h = cc
steps_bad m n (line ∷ lines) k h =
    elim (chosen (has_content line) (onto_steps (read_step m line) n (steps_of m (n + 1) lines))
    (steps_of m (n + 1) lines) (Err k) h) [
      | inl p ↦ elim (onto_err (read_step m line) n (steps_of m (n + 1) lines) k p.1) [
        | inl q ↦ first_here (IsBadStep m) n line lines k q.1 (p.0, no_step m line q.0)
        | inr q ↦ first_later (IsBadStep m) n line lines k
            (λ bad. bad.1 q.0 (step_sound m line q.0 q.1)) (steps_bad m (n + 1) lines k q.2)
      ]
      | inr p ↦ first_later (IsBadStep m) n line lines k (λ bad. both_ways (has_content line) p.0 bad.0)
          (steps_bad m (n + 1) lines k p.1)
    ]

pub steps_read : (m : MirrorLine) (n : ℕ) (lines : List (List ℕ)) (ss : List Step) →
    AllZip (IsStepLine m) (filter has_content lines) ss → steps_of m n lines ≡ Ok ss
steps_read m n [] [] h = refl
steps_read m n [] (s ∷ ss) h = absurd h
steps_read m n (line ∷ lines) ss h = step m n line lines ss (steps_read m (n + 1) lines)
    (cases_Bool (has_content line)) h
  where
    there : (m : MirrorLine) (n : ℕ) (line : List ℕ) (lines : List (List ℕ)) (ss : List Step) →
        ((rest : List Step) → AllZip (IsStepLine m) (filter has_content lines) rest →
        steps_of m (n + 1) lines ≡ Ok rest) →
        AllZip (IsStepLine m) (line ∷ filter has_content lines) ss →
        onto_steps (read_step m line) n (steps_of m (n + 1) lines) ≡ Ok ss
    there m n line lines [] rest h = absurd h
    there m n line lines (s ∷ ss) rest h = rw (step_read m line s h.0, rest ss h.1) refl

    step : (m : MirrorLine) (n : ℕ) (line : List ℕ) (lines : List (List ℕ)) (ss : List Step) →
        ((rest : List Step) → AllZip (IsStepLine m) (filter has_content lines) rest →
        steps_of m (n + 1) lines ≡ Ok rest) →
        (has_content line ≡ true) ⊎ (has_content line ≡ false) →
        AllZip (IsStepLine m) (filter has_content (line ∷ lines)) ss →
        steps_of m n (line ∷ lines) ≡ Ok ss
    step m n line lines ss rest (inl e) h = let k : AllZip (IsStepLine m)
        (line ∷ filter has_content lines) ss = rw e at h in rw e (there m n line lines ss rest k)
    step m n line lines ss rest (inr e) h = let k : AllZip (IsStepLine m) (filter has_content lines) ss =
        rw e at h in rw e (rest ss k)
