-- What follows the mirror line, its opening and its steps, is read as the grammar says, each way.
use Rattle.std.proofs.Common.{◌≡◌, ℕ, ◌+◌, List, [], ◌++◌, length, filter, Some, None, Option, Result, Ok, Err, refl, sym, ap, subst, ◌∙◌, arith, ◌⊎◌, inl, inr}
use Rattle.std.specs.List.{AllZip}
use Rattle.std.proofs.lemmas.List.Elements.{filter-append}
use Rattle.nm_script_lib.specs.declared.load.Load.{Load}
use Rattle.nm_script_lib.specs.declared.mirror_line.MirrorLine.{MirrorLine}
use Rattle.nm_script_lib.specs.declared.step.Step.{Step}
use Rattle.nm_script_lib.specs.Grammar.{IsStepLine, IsOpening, has_content}
use Rattle.nm_script_lib.specs.BadLine.{FollowsOpening, Opens, StepFollows, NothingFollows, IsBetween, IsWrongOpening, IsBadStep, IsFirst}
use Rattle.nm_script_lib.specs.ScriptReading.{Opened, Said, opening_of, steps_of, with_opening, from_opening}
use Rattle.nm_script_lib.proofs.LineLaws.{later_first, steps_sound, steps_bad, steps_read}
use Rattle.nm_script_lib.proofs.BetweenLaws.{IsBetweenFrom}
use Rattle.nm_script_lib.proofs.OpeningLaws.{Found, found, WrongFrom, wrong, OpensNothing}
use Rattle.nm_script_lib.proofs.OpeningRead.{opening_then, no_opening_read}

-- the opening and the steps, each way

-- what it takes to be the lines after the mirror line
pub record ReadRest (m : MirrorLine) (rest : List (List ℕ)) (loads : List Load) (master : Option ℕ)
    (ss : List Step) : Type 0 where
  pub opening : List (List ℕ)
  pub others : List (List ℕ)
  pub content : filter has_content rest ≡ opening ++ others
  pub opens : IsOpening m opening loads master
  pub each_step : AllZip (IsStepLine m) others ss

-- the reading of the lines after the mirror line, of which the first is line n
abbrev pub read_rest : MirrorLine → ℕ → List (List ℕ) → Result Said ℕ
read_rest m n rest = from_opening m (opening_of m n rest)

with_opening_ok : (m p : MirrorLine) (o : Opened) (r : Result (List Step) ℕ) (loads : List Load)
    (master : Option ℕ) (ss : List Step) → with_opening m o r ≡ Ok (p, loads, master, ss) →
    (m ≡ p) × (o.0 ≡ loads) × (o.1 ≡ master) × (r ≡ Ok ss)
with_opening_ok m p o (Ok rest) loads master ss h =
    let e : ◌≡◌ {A = Said} (m, o.0, o.1, rest) (p, loads, master, ss) = cc in
    (ap (λ x. x.0) e, ap (λ x. x.1) e, ap (λ x. x.2) e, ap Ok (ap (λ x. x.3) e))
with_opening_ok m p o (Err k) loads master ss h = cc

with_opening_err : (m : MirrorLine) (o : Opened) (r : Result (List Step) ℕ) (k : ℕ) →
    with_opening m o r ≡ Err k → r ≡ Err k
with_opening_err m o (Ok rest) k h = cc
with_opening_err m o (Err j) k h = cc

-- what was read has an opening, and its steps
from_ok : (m p : MirrorLine) (r : Result Opened ℕ) (loads : List Load) (master : Option ℕ)
    (ss : List Step) → from_opening m r ≡ Ok (p, loads, master, ss) →
    (o : Opened) × (r ≡ Ok o) × (m ≡ p) × (o.0 ≡ loads) × (o.1 ≡ master)
    × (steps_of m o.2 o.3 ≡ Ok ss)
from_ok m p (Ok o) loads master ss h =
    let w = with_opening_ok m p o (steps_of m o.2 o.3) loads master ss h in
    (o, refl, w.0, w.1, w.2, w.3)
from_ok m p (Err k) loads master ss h = cc

-- what is not read has a wrong line in its opening, or in its steps
from_err : (m : MirrorLine) (r : Result Opened ℕ) (k : ℕ) → from_opening m r ≡ Err k →
    (r ≡ Err k) ⊎ ((o : Opened) × (r ≡ Ok o) × (steps_of m o.2 o.3 ≡ Err k))
from_err m (Ok o) k h = inr (o, refl, with_opening_err m o (steps_of m o.2 o.3) k h)
from_err m (Err j) k h = let same : j ≡ k = cc in inl (ap Err same)

none_sound : (m : MirrorLine) (n : ℕ) (rest : List (List ℕ)) (o : Opened) (loads : List Load)
    (master : Option ℕ) (ss : List Step) → o ≡ ([], None, n, rest) → o.0 ≡ loads → o.1 ≡ master →
    steps_of m o.2 o.3 ≡ Ok ss → ReadRest m rest loads master ss
none_sound m n rest o loads master ss e ls st steps =
    let loads_are : [] ≡ loads = ap (λ (x : Opened). x.0) (sym e) ∙ ls in
    let master_is : None ≡ master = ap (λ (x : Opened). x.1) (sym e) ∙ st in
    let steps_are : steps_of m n rest ≡ Ok ss = ap (λ (x : Opened). steps_of m x.2 x.3) (sym e) ∙ steps in
    let opens : IsOpening m [] [] None = (refl, refl) in
    record {
      opening = [];
      others = filter has_content rest;
      content = refl;
      opens = subst (λ x. IsOpening m [] loads x) master_is
          (subst (λ x. IsOpening m [] x None) loads_are opens);
      each_step = steps_sound m n rest ss steps_are;
    }

found_sound : (m : MirrorLine) (n : ℕ) (rest : List (List ℕ)) (o : Opened) (loads : List Load)
    (master : Option ℕ) (ss : List Step) → Found m [] n rest o → o.0 ≡ loads → o.1 ≡ master →
    steps_of m o.2 o.3 ≡ Ok ss → ReadRest m rest loads master ss
found_sound m n rest o loads master ss f ls st steps =
    let loads_are : f.loads ≡ loads = ap (λ (x : Opened). x.0) (sym f.is) ∙ ls in
    let master_is : Some f.master ≡ master = ap (λ (x : Opened). x.1) (sym f.is) ∙ st in
    let steps_are : steps_of m (length f.before + n) f.after ≡ Ok ss =
    ap (λ (x : Opened). steps_of m x.2 x.3) (sym f.is) ∙ steps in
    record {
      opening = filter has_content f.before;
      others = filter has_content f.after;
      content = ap (filter has_content) f.split ∙ filter-append has_content f.before f.after;
      opens = subst (λ x. IsOpening m (filter has_content f.before) loads x) master_is
          (subst (λ x. IsOpening m (filter has_content f.before) x (Some f.master)) loads_are f.opens);
      each_step = steps_sound m (length f.before + n) f.after ss steps_are;
    }

-- what is read of the lines after the mirror line is what they say
pub rest_sound : (m p : MirrorLine) (n : ℕ) (rest : List (List ℕ)) (loads : List Load)
    (master : Option ℕ) (ss : List Step) → read_rest m n rest ≡ Ok (p, loads, master, ss) →
    (m ≡ p) × ReadRest m rest loads master ss
rest_sound m p n rest loads master ss h =
    let w = from_ok m p (opening_of m n rest) loads master ss h in (
      w.2,
      elim (found m ([], None, n, rest) [] n rest w.0 w.1) [
        | inl e ↦ none_sound m n rest w.0 loads master ss e.0 w.3 w.4 w.5
        | inr f ↦ found_sound m n rest w.0 loads master ss f w.3 w.4 w.5
      ],
    )

-- what they say is read
pub rest_read : (m : MirrorLine) (n : ℕ) (rest opening others : List (List ℕ)) (loads : List Load)
    (master : Option ℕ) (ss : List Step) → filter has_content rest ≡ opening ++ others →
    IsOpening m opening loads master → AllZip (IsStepLine m) others ss →
    read_rest m n rest ≡ Ok (m, loads, master, ss)
rest_read m n rest opening others loads None ss h o each =
    let all : filter has_content rest ≡ others = h ∙ ap (λ x. x ++ others) o.0 in
    let none = no_opening_read m ([], None, n, rest) n rest others ss all each in
    rw (none, o.1, steps_read m n rest ss (rw all each)) refl
rest_read m n rest opening others loads (Some master) ss h o each =
    let r = opening_then m n rest opening others loads master h o in
    rw (r.reads, steps_read m r.number r.after ss (rw r.content each)) refl

-- the line that is named is a wrong one of the opening, or the first after it that is no step

nothing_follows : (m : MirrorLine) (n : ℕ) (rest : List (List ℕ)) → OpensNothing m [] n rest →
    FollowsOpening m rest 0 rest
nothing_follows m n rest (inl none) = NothingFollows none
nothing_follows m n rest (inr s) = StepFollows (length s.first.before + 1) (record {
  before = s.first.before;
  line = s.first.line;
  after = s.first.after;
  split = s.first.split;
  number = refl;
  none_before = s.first.none_before;
  holds = s.first.holds;
}) s.step s.is (λ between. s.alone (inr between.0, between.1))

-- where the wrong line of the opening is, counted from the mirror line
pub record WrongAfter (m : MirrorLine) (n : ℕ) (rest : List (List ℕ)) (k : ℕ) : Type 0 where
  pub line : ℕ
  pub number : n + line ≡ k
  pub is : IsWrongOpening m rest line

between_lines : (m : MirrorLine) (before after : List (List ℕ)) → IsBetweenFrom m [] before after →
    IsBetween m before after
between_lines m before after (inl none, starts) = absurd (omega (arith, none))
between_lines m before after (inr some, starts) = (some, starts)

is_wrong : (m : MirrorLine) (line : List ℕ) (before after : List (List ℕ)) →
    ((s : Step) → IsStepLine m line s → ⊥) ⊎ IsBetweenFrom m [] before after →
    ((s : Step) → IsStepLine m line s → ⊥) ⊎ IsBetween m before after
is_wrong m line before after (inl no_step) = inl no_step
is_wrong m line before after (inr between) = inr (between_lines m before after between)

wrong_after : (m : MirrorLine) (n : ℕ) (rest : List (List ℕ)) (k : ℕ) → WrongFrom m [] (n + 1) rest k →
    WrongAfter m n rest k
wrong_after m n rest k w = record {
  line = length w.first.before + 1;
  number = omega (arith, w.first.number);
  is = record {
    next = record {
      before = w.first.before;
      line = w.first.line;
      after = w.first.after;
      split = w.first.split;
      number = refl;
      none_before = w.first.none_before;
      holds = w.first.holds;
    };
    no_start = w.no_start;
    wrong = is_wrong m w.first.line w.first.before w.first.after w.wrong;
  };
}

-- where the line to name is, counted from the mirror line
pub record BadAfter (m : MirrorLine) (n : ℕ) (rest : List (List ℕ)) (k : ℕ) : Type 0 where
  pub skipped : ℕ
  pub line : ℕ
  pub after : List (List ℕ)
  pub number : n + skipped + line ≡ k
  pub follows : FollowsOpening m rest skipped after
  pub first : IsFirst (IsBadStep m) after line

bad_here : (m : MirrorLine) (n from j : ℕ) (rest after : List (List ℕ)) (k : ℕ) → from ≡ j + (n + 1) →
    FollowsOpening m rest j after → steps_of m from after ≡ Err k → BadAfter m n rest k
bad_here m n from j rest after k e follows h =
    let bad = steps_bad m from after k h in
    let first = later_first (IsBadStep m) (n + j) from after k (omega (arith, e)) bad in
    record {
      skipped = j;
      line = first.0;
      after = after;
      number = sym first.1;
      follows = follows;
      first = first.2;
    }

steps_wrong : (m : MirrorLine) (n : ℕ) (rest : List (List ℕ)) (k : ℕ) (o : Opened) →
    opening_of m (n + 1) rest ≡ Ok o → steps_of m o.2 o.3 ≡ Err k → BadAfter m n rest k
steps_wrong m n rest k o is steps =
    elim (found m ([], None, n + 1, rest) [] (n + 1) rest o is) [
      | inl e ↦
          let here : steps_of m (n + 1) rest ≡ Err k =
          ap (λ (x : Opened). steps_of m x.2 x.3) (sym e.0) ∙ steps in
          bad_here m n (n + 1) 0 rest rest k (omega arith) (nothing_follows m (n + 1) rest e.1) here
      | inr f ↦
          let here : steps_of m (length f.before + (n + 1)) f.after ≡ Err k =
          ap (λ (x : Opened). steps_of m x.2 x.3) (sym f.is) ∙ steps in
          bad_here m n (length f.before + (n + 1)) (length f.before) rest f.after k refl
          (Opens f.before f.after f.loads f.master f.split f.opens) here
    ]

pub rest_bad : (m : MirrorLine) (n : ℕ) (rest : List (List ℕ)) (k : ℕ) → read_rest m (n + 1) rest ≡ Err k →
    WrongAfter m n rest k ⊎ BadAfter m n rest k
rest_bad m n rest k h =
    elim (from_err m (opening_of m (n + 1) rest) k h) [
      | inl is ↦ inl (wrong_after m n rest k (wrong m ([], None, n + 1, rest) [] (n + 1) rest k is))
      | inr o ↦ inr (steps_wrong m n rest k o.0 o.1 o.2)
    ]
