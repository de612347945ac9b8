-- A run of steps, one step longer; and what is written of it.
use Rattle.std.proofs.Common.{◌≡◌, ℕ, List, [], ◌∷◌, ◌++◌, Option, Some, None, Result, Ok, Err, OnOk, OnErr, codes, refl, sym, ap, subst, ◌∙◌, append_assoc}
use Rattle.std.specs.List.{flat_map}
use Rattle.std.proofs.lemmas.List.{flat_map_more, append-nil}
use Rattle.std.proofs.lemmas.Grind.{flat_map-append}
use Rattle.std.specs.Io.KnownBytes.{Appends, Keeps}
use Rattle.std.proofs.KnownBytes.{Appends-trans, Appends-nil}
use Rattle.nm_script_lib.specs.declared.load.Load.{Load}
use Rattle.nm_script_lib.specs.declared.mirror_line.MirrorLine.{MirrorLine}
use Rattle.nm_script_lib.specs.declared.step.Step.{Step}
use Rattle.nm_script_lib.specs.declared.script_stripe.ScriptStripe.{ScriptStripe}
use Rattle.nm_script_lib.specs.ScriptStripe.{Begins}
use Rattle.nm_script_lib.specs.Printing.{ended_line}
use Rattle.nm_script_lib.specs.Streams.{AppendsPrefix, FlushesPrefix}
use Rattle.nm_script_lib.specs.Runs.{Prints, PrintsAll, lines_of, history, run_text, AddsLine, RunsSteps, RunsPrefix, WholeRun, PartOfRun, NoSteps, FirstSteps, AllSteps, Writes, loaded_line, opening_text}

pub on_err : {T E : Type 0} (r : Result T E) (P : Type 0) → P → OnErr r P
on_err (Ok x) P p = tt
on_err (Err e) P p = p

-- one more step of a run

prints_more : (m : MirrorLine) (ss : List Step) (xs : List (List ℕ)) (a b c : ScriptStripe) (s : Step)
    (x : List ℕ) → PrintsAll m ss xs a b → Prints m s x b c →
    PrintsAll m (ss ++ s ∷ []) (xs ++ x ∷ []) a c
prints_more m [] [] a b c s x e h = (c, rw (← e) h, refl)
prints_more m [] (y ∷ xs) a b c s x e h = absurd e
prints_more m (r ∷ ss) [] a b c s x e h = absurd e
prints_more m (r ∷ ss) (y ∷ xs) a b c s x e h =
    (e.0, e.1, prints_more m ss xs e.0 b c s x e.2 h)

lines_more : (before : List ℕ) (xs : List (List ℕ)) (x : List ℕ) →
    before ++ lines_of (xs ++ x ∷ []) ≡ (before ++ lines_of xs) ++ ended_line x
lines_more before xs x = sym (flat_map_more ended_line before xs x)

-- what was flushed, and then more
pub flushes_more : (old cur new : Option (List ℕ)) (all some more kept : List ℕ) →
    FlushesPrefix old cur all some → FlushesPrefix cur new (some ++ more) kept →
    FlushesPrefix old new (all ++ more) kept
flushes_more old cur new all some more kept h k = (
  h.0 ++ k.0,
  ap (λ r. r ++ more) h.1 ∙ append_assoc h.0 some more ∙ ap (λ r. h.0 ++ r) k.1 ∙
      sym (append_assoc h.0 k.0 kept),
  Appends-trans old cur new h.0 k.0 h.2 k.2,
)

pub prefix_more : (old cur new : Option (List ℕ)) (all some more : List ℕ) →
    FlushesPrefix old cur all some → AppendsPrefix cur new (some ++ more) →
    AppendsPrefix old new (all ++ more)
prefix_more old cur new all some more h k = (
  h.0 ++ k.0,
  k.1,
  ap (λ r. r ++ more) h.1 ∙ append_assoc h.0 some more ∙ ap (λ r. h.0 ++ r) k.2 ∙
      sym (append_assoc h.0 k.0 k.1),
  Appends-trans old cur new h.0 k.0 h.2 k.3,
)

-- what was flushed is a prefix
pub prefix_flushed : (old new : Option (List ℕ)) (all kept : List ℕ) → FlushesPrefix old new all kept →
    AppendsPrefix old new all
prefix_flushed old new all kept h = (h.0, kept, h.1, h.2)

pub steps_more : (m : MirrorLine) (prefix : List Step) (before mid after : ScriptStripe) (s : Step)
    (old cur new : Option (List ℕ)) (buffer some added kept : List ℕ) →
    RunsSteps m prefix before mid (λ text. FlushesPrefix old cur (buffer ++ text) some) →
    AddsLine m s mid after some added →
    FlushesPrefix cur new added kept →
    RunsSteps m (prefix ++ s ∷ []) before after
    (λ text. FlushesPrefix old new (buffer ++ text) kept)
steps_more m prefix before mid after s old cur new buffer some added kept h line p = record {
  texts = h.texts ++ line.text ∷ [];
  printed = prints_more m prefix h.texts before mid after s line.text h.printed line.prints;
  written = rw (lines_more buffer h.texts line.text)
      (flushes_more old cur new (buffer ++ lines_of h.texts) some (ended_line line.text) kept
      h.written (rw line.added at p));
}

-- a run ends early, before or after the line of its last step
pub stopped_before : (m : MirrorLine) (prefix rest steps : List Step) (before mid : ScriptStripe)
    (old cur : Option (List ℕ)) (buffer some : List ℕ) → steps ≡ prefix ++ rest →
    RunsSteps m prefix before mid (λ text. FlushesPrefix old cur (buffer ++ text) some) →
    RunsPrefix m steps before (λ text. AppendsPrefix old cur (buffer ++ text))
stopped_before m prefix rest steps before mid old cur buffer some e h = record {
  prefix = prefix;
  rest = rest;
  texts = h.texts;
  after = mid;
  split = e;
  printed = h.printed;
  written = prefix_flushed old cur (buffer ++ lines_of h.texts) some h.written;
}

pub stopped_after : (m : MirrorLine) (prefix rest steps : List Step) (before mid after : ScriptStripe)
    (s : Step) (old cur new : Option (List ℕ)) (buffer some added : List ℕ) →
    steps ≡ (prefix ++ s ∷ []) ++ rest →
    RunsSteps m prefix before mid (λ text. FlushesPrefix old cur (buffer ++ text) some) →
    AddsLine m s mid after some added →
    AppendsPrefix cur new added →
    RunsPrefix m steps before (λ text. AppendsPrefix old new (buffer ++ text))
stopped_after m prefix rest steps before mid after s old cur new buffer some added e h line w = record {
  prefix = prefix ++ s ∷ [];
  rest = rest;
  texts = h.texts ++ line.text ∷ [];
  after = after;
  split = e;
  printed = prints_more m prefix h.texts before mid after s line.text h.printed line.prints;
  written = rw (lines_more buffer h.texts line.text)
      (prefix_more old cur new (buffer ++ lines_of h.texts) some (ended_line line.text)
      h.written (rw line.added at w));
}

-- the lines of a list of things, one thing longer, or cut anywhere

pub items_more : {A : Type 0} (line : A →
    List ℕ) (old cur new : Option (List ℕ)) (buffer some kept : List ℕ) (xs : List A) (x : A) →
    FlushesPrefix old cur (buffer ++ flat_map line xs) some → FlushesPrefix cur new (some ++ line x) kept →
    FlushesPrefix old new (buffer ++ flat_map line (xs ++ x ∷ [])) kept
items_more line old cur new buffer some kept xs x h p =
    rw (sym (flat_map_more line buffer xs x))
    (flushes_more old cur new (buffer ++ flat_map line xs) some (line x) kept h p)

pub items_prefix : {A : Type 0} (line : A →
    List ℕ) (old new : Option (List ℕ)) (buffer : List ℕ) (all xs ys : List A) → all ≡ xs ++ ys →
    AppendsPrefix old new (buffer ++ flat_map line xs) →
    AppendsPrefix old new (buffer ++ flat_map line all)
items_prefix line old new buffer all xs ys e h =
    let whole : buffer ++ flat_map line all ≡ (buffer ++ flat_map line xs) ++ flat_map line ys =
    ap (λ r. buffer ++ r) (ap (flat_map line) e ∙ flat_map-append line xs ys) ∙
    sym (append_assoc buffer (flat_map line xs) (flat_map line ys)) in (
      h.0,
      h.1 ++ flat_map line ys,
      whole ∙ ap (λ r. r ++ flat_map line ys) h.2 ∙
          append_assoc h.0 h.1 (flat_map line ys),
      h.3,
    )

pub items_prefix_more : {A : Type 0} (line : A →
    List ℕ) (old cur new : Option (List ℕ)) (buffer some : List ℕ) (xs : List A) (x : A) →
    FlushesPrefix old cur (buffer ++ flat_map line xs) some → AppendsPrefix cur new (some ++ line x) →
    AppendsPrefix old new (buffer ++ flat_map line (xs ++ x ∷ []))
items_prefix_more line old cur new buffer some xs x h p =
    rw (sym (flat_map_more line buffer xs x))
    (prefix_more old cur new (buffer ++ flat_map line xs) some (line x) h p)

-- prefixes and wholes

pub prefix_none : (a : Option (List ℕ)) (all : List ℕ) → AppendsPrefix a a all
prefix_none a all = ([], all, refl, Appends-nil a)

pub prefix_longer : (old new : Option (List ℕ)) (all more : List ℕ) → AppendsPrefix old new all →
    AppendsPrefix old new (all ++ more)
prefix_longer old new all more h = (
  h.0,
  h.1 ++ more,
  ap (λ r. r ++ more) h.2 ∙
      append_assoc h.0 h.1 more,
  h.3,
)

pub prefix_whole : (old new : Option (List ℕ)) (all : List ℕ) → Appends old new all →
    AppendsPrefix old new all
prefix_whole old new all h = (all, [], sym (append-nil all), h)

pub all_sent : (old cur new : Option (List ℕ)) (all some : List ℕ) → FlushesPrefix old cur all some →
    Appends cur new some → Appends old new all
all_sent old cur new all some h k = rw h.1 (Appends-trans old cur new h.0 some h.2 k)

pub prefix_sent : (old cur new : Option (List ℕ)) (all some : List ℕ) → FlushesPrefix old cur all some →
    AppendsPrefix cur new some → AppendsPrefix old new all
prefix_sent old cur new all some h k = (
  h.0 ++ k.0,
  k.1,
  h.1 ∙ ap (λ r. h.0 ++ r) k.2 ∙
      sym (append_assoc h.0 k.0 k.1),
  Appends-trans old cur new h.0 k.0 h.2 k.3,
)

pub appends_kept : (old cur new : Option (List ℕ)) (all : List ℕ) → Appends old cur all →
    Keeps cur new → Appends old new all
appends_kept None cur new all h k = tt
appends_kept (Some x) None new all h k = absurd h
appends_kept (Some x) (Some y) None all h k = absurd k
appends_kept (Some x) (Some y) (Some z) all h k = k ∙ h

-- the pieces of a history after the buffer
pub regroup : (g c l y : List ℕ) → g ++ ((c ++ l) ++ y) ≡ ((g ++ c) ++ l) ++ y
regroup g c l y = simp append_assoc

pub prefix_after : (old cur new : Option (List ℕ)) (all more : List ℕ) → Appends old cur all →
    AppendsPrefix cur new more → AppendsPrefix old new (all ++ more)
prefix_after old cur new all more h k = (
  all ++ k.0,
  k.1,
  ap (λ r. all ++ r) k.2 ∙
      sym (append_assoc all k.0 k.1),
  Appends-trans old cur new all k.0 h k.3,
)

pub whole_more : (old cur new : Option (List ℕ)) (all some more : List ℕ) →
    FlushesPrefix old cur all some → Appends cur new (some ++ more) → Appends old new (all ++ more)
whole_more old cur new all some more h k =
    let e : all ++ more ≡ h.0 ++ (some ++ more) = ap (λ r. r ++ more) h.1 ∙
    append_assoc h.0 some more in
    rw e (Appends-trans old cur new h.0 (some ++ more) h.2 k)

-- what is written after the lines of an opening

pub runs_after : (m : MirrorLine) (steps : List Step) (start end : ScriptStripe)
    (old mid cur : Option (List ℕ)) (before some rest : List ℕ) → FlushesPrefix old mid before some →
    RunsSteps m steps start end (λ text. FlushesPrefix mid cur (some ++ text) rest) →
    RunsSteps m steps start end (λ text. FlushesPrefix old cur (before ++ text) rest)
runs_after m steps start end old mid cur before some rest h r = record {
  texts = r.texts;
  printed = r.printed;
  written = flushes_more old mid cur before some (lines_of r.texts) rest h r.written;
}

pub stops_after : (m : MirrorLine) (steps : List Step) (start : ScriptStripe)
    (old mid cur : Option (List ℕ)) (before some : List ℕ) → FlushesPrefix old mid before some →
    RunsPrefix m steps start (λ text. AppendsPrefix mid cur (some ++ text)) →
    RunsPrefix m steps start (λ text. AppendsPrefix old cur (before ++ text))
stops_after m steps start old mid cur before some h r = record {
  prefix = r.prefix;
  rest = r.rest;
  texts = r.texts;
  after = r.after;
  split = r.split;
  printed = r.printed;
  written = prefix_more old mid cur before some (lines_of r.texts) h r.written;
}

-- after an empty buffer stand the opening's lines alone
pub opening_alone : (loads : List Load) (master : Option ℕ) (buffer : List ℕ) → buffer ≡ [] →
    buffer ++ opening_text loads master ≡ opening_text loads master
opening_alone loads master buffer e = ap (λ x. x ++ opening_text loads master) e

-- a whole run, and what is written of one that ends early

pub run_not_opened : (m : MirrorLine) (loads : List Load) (master : Option ℕ) (steps : List Step)
    (a : Option (List ℕ)) → Writes (PartOfRun m loads master steps) (AppendsPrefix a a)
run_not_opened m loads master steps a = ([], NoSteps, prefix_none a [])

pub opening_cut : (m : MirrorLine) (loads : List Load) (master : Option ℕ) (steps : List Step)
    (start : ScriptStripe) (old new : Option (List ℕ)) (before : List ℕ) → Begins m loads master start →
    before ≡ opening_text loads master → AppendsPrefix old new before →
    Writes (PartOfRun m loads master steps) (AppendsPrefix old new)
opening_cut m loads master steps start old new before is e h = (
  opening_text loads master ++ [],
  FirstSteps start start [] steps [] is refl refl,
  prefix_longer old new (opening_text loads master) [] (subst (λ (x : List ℕ). AppendsPrefix old new x) e h),
)

pub run_stopped : (m : MirrorLine) (loads : List Load) (master : Option ℕ) (steps : List Step)
    (start : ScriptStripe) (old new : Option (List ℕ)) (before : List ℕ) → Begins m loads master start →
    before ≡ opening_text loads master →
    RunsPrefix m steps start (λ text. AppendsPrefix old new (before ++ text)) →
    Writes (PartOfRun m loads master steps) (AppendsPrefix old new)
run_stopped m loads master steps start old new before is e h = (
  opening_text loads master ++ lines_of h.texts,
  FirstSteps start h.after h.prefix h.rest h.texts is h.split h.printed,
  subst (λ (x : List ℕ). AppendsPrefix old new (x ++ lines_of h.texts)) e h.written,
)

abbrev done : (m : MirrorLine) (loads : List Load) (master : Option ℕ) (steps : List Step)
    (start end : ScriptStripe) (old new : Option (List ℕ)) (before rest : List ℕ) →
    Begins m loads master start →
    (h : RunsSteps m steps start end (λ text. FlushesPrefix old new (before ++ text) rest)) →
    WholeRun m loads master steps (opening_text loads master ++ run_text h.texts end)
done m loads master steps start end old new before rest is h = record
    { start = start; begins = is; texts = h.texts; end = end; printed = h.printed; whole = refl }

-- the opening's lines, then those of the steps, then the history
regrouped : (before opening lines last : List ℕ) → before ≡ opening →
    (before ++ lines) ++ last ≡ opening ++ (lines ++ last)
regrouped before opening lines last e =
    ap (λ x. (x ++ lines) ++ last) e ∙ append_assoc opening lines last

pub run_done : (m : MirrorLine) (loads : List Load) (master : Option ℕ) (steps : List Step)
    (start end : ScriptStripe) (old cur new : Option (List ℕ)) (before rest : List ℕ) →
    Begins m loads master start → before ≡ opening_text loads master →
    RunsSteps m steps start end (λ text. FlushesPrefix old cur (before ++ text) rest) →
    Appends cur new (rest ++ history end.stripe) → Writes (WholeRun m loads master steps) (Appends old new)
run_done m loads master steps start end old cur new before rest is e h w = (
  opening_text loads master ++ run_text h.texts end,
  done m loads master steps start end old cur before rest is h,
  subst (λ (x : List ℕ). Appends old new x)
      (regrouped before (opening_text loads master) (lines_of h.texts) (history end.stripe) e)
      (whole_more old cur new (before ++ lines_of h.texts) rest (history end.stripe) h.written w),
)

pub run_cut : (m : MirrorLine) (loads : List Load) (master : Option ℕ) (steps : List Step)
    (start end : ScriptStripe) (old cur new : Option (List ℕ)) (before rest : List ℕ) →
    Begins m loads master start → before ≡ opening_text loads master →
    RunsSteps m steps start end (λ text. FlushesPrefix old cur (before ++ text) rest) →
    AppendsPrefix cur new (rest ++ history end.stripe) →
    Writes (PartOfRun m loads master steps) (AppendsPrefix old new)
run_cut m loads master steps start end old cur new before rest is e h w = (
  opening_text loads master ++ run_text h.texts end,
  AllSteps (opening_text loads master ++ run_text h.texts end)
      (done m loads master steps start end old cur before rest is h),
  subst (λ (x : List ℕ). AppendsPrefix old new x)
      (regrouped before (opening_text loads master) (lines_of h.texts) (history end.stripe) e)
      (prefix_more old cur new (before ++ lines_of h.texts) rest (history end.stripe) h.written w),
)

-- the lines of the loads, and then the line of the start

pub loads_then : (loads : List Load) (master : ℕ) (start : Option ℕ) (buffer : List ℕ) →
    start ≡ Some master →
    (buffer ++ flat_map loaded_line loads) ++ ended_line (codes "started") ≡
    buffer ++ opening_text loads start
loads_then loads master start buffer is =
    append_assoc buffer (flat_map loaded_line loads) (ended_line (codes "started")) ∙
    ap (λ s. buffer ++ opening_text loads s) (sym is)

pub loads_cut : (loads : List Load) (master : ℕ) (start : Option ℕ) (old new : Option (List ℕ))
    (buffer : List ℕ) → start ≡ Some master →
    AppendsPrefix old new (buffer ++ flat_map loaded_line loads) →
    AppendsPrefix old new (buffer ++ opening_text loads start)
loads_cut loads master start old new buffer is h =
    subst (λ (x : List ℕ). AppendsPrefix old new x) (loads_then loads master start buffer is)
    (prefix_longer old new (buffer ++ flat_map loaded_line loads) (ended_line (codes "started")) h)

pub start_cut : (loads : List Load) (master : ℕ) (start : Option ℕ) (old cur new : Option (List ℕ))
    (buffer some added : List ℕ) → start ≡ Some master →
    FlushesPrefix old cur (buffer ++ flat_map loaded_line loads) some →
    added ≡ some ++ ended_line (codes "started") → AppendsPrefix cur new added →
    AppendsPrefix old new (buffer ++ opening_text loads start)
start_cut loads master start old cur new buffer some added is h e w =
    subst (λ (x : List ℕ). AppendsPrefix old new x) (loads_then loads master start buffer is)
    (prefix_more old cur new (buffer ++ flat_map loaded_line loads) some (ended_line (codes "started")) h
    (subst (λ (x : List ℕ). AppendsPrefix cur new x) e w))

pub start_done : (loads : List Load) (master : ℕ) (start : Option ℕ) (old cur new : Option (List ℕ))
    (buffer some added kept : List ℕ) → start ≡ Some master →
    FlushesPrefix old cur (buffer ++ flat_map loaded_line loads) some →
    added ≡ some ++ ended_line (codes "started") → FlushesPrefix cur new added kept →
    FlushesPrefix old new (buffer ++ opening_text loads start) kept
start_done loads master start old cur new buffer some added kept is h e w =
    subst (λ (x : List ℕ). FlushesPrefix old new x kept) (loads_then loads master start buffer is)
    (flushes_more old cur new (buffer ++ flat_map loaded_line loads) some (ended_line (codes "started"))
    kept h (subst (λ (x : List ℕ). FlushesPrefix cur new x kept) e w))

pub ok_then : {T E : Type 0} (r : Result T E) (P Q : Type 0) → (P → Q) → OnOk r P → OnOk r Q
ok_then (Ok x) P Q f p = f p
ok_then (Err e) P Q f p = tt

pub err_then : {T E : Type 0} (r : Result T E) (P Q : Type 0) → (P → Q) → OnErr r P → OnErr r Q
err_then (Ok x) P Q f p = tt
err_then (Err e) P Q f p = f p
