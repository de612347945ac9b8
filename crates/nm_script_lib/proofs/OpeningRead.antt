-- An opening is read as it is, and steps alone are read as none.
use Rattle.std.proofs.Common.{◌≡◌, ℕ, ◌+◌, Bool, true, false, cond, List, [], ◌∷◌, ◌++◌, filter, Some, None, Result, Ok, codes, refl, sym, ap, subst, ◌∙◌, append_assoc, inl, inr}
use Rattle.std.specs.List.{AllZip}
use Rattle.std.proofs.lemmas.List.{append-nil}
use Rattle.nm_script_lib.specs.declared.load.Load.{Load}
use Rattle.nm_script_lib.specs.declared.mirror_line.MirrorLine.{MirrorLine}
use Rattle.nm_script_lib.specs.declared.step.Step.{Step}
use Rattle.nm_script_lib.specs.Forms.{Form, Keyword, NoForm, IsLine}
use Rattle.nm_script_lib.specs.Grammar.{IsStepLine, IsOpening, load_form, start_form, step_form, run_form, leg_form, look_form, has_content}
use Rattle.nm_script_lib.specs.Reading.{pieces, is_word, read, read_line, if_at_end, ◌>>=◌}
use Rattle.nm_script_lib.specs.ScriptReading.{Opened, opening_from}
use Rattle.nm_script_lib.proofs.FormLaws.{same_word, line_complete}
use Rattle.nm_script_lib.proofs.LineLaws.{chosen}

-- a line with another first word is not read

by_word : {A B : Type 0} (name : List ℕ) (rest : Form A) (other : Form B) (w : List ℕ)
    (words : List (List ℕ)) (y : B) (b : Bool) → is_word w name ≡ b →
    (read other (name ∷ words) ≡ None) → (read other (w ∷ words) >>= if_at_end) ≡ Some y →
    (cond b (read rest words) None >>= if_at_end) ≡ None
by_word name rest other w words y true e none is =
    let same : w ≡ name = same_word w name e in
    let fails : (read other (w ∷ words) >>= if_at_end) ≡ None =
    ap (λ x. read other (x ∷ words) >>= if_at_end) same ∙ ap (λ o. o >>= if_at_end) none in
    cc
by_word name rest other w words y false e none is = refl

by_words : {A B : Type 0} (name : List ℕ) (rest : Form A) (other : Form B) (words : List (List ℕ))
    (y : B) → ((ws : List (List ℕ)) → read other (name ∷ ws) ≡ None) →
    (read other words >>= if_at_end) ≡ Some y →
    (read (Keyword name rest NoForm) words >>= if_at_end) ≡ None
by_words name rest other [] y none is = refl
by_words name rest other (w ∷ words) y none is =
    by_word name rest other w words y (is_word w name) refl (none words) is

-- no other line is one of this keyword
other_line : {A B : Type 0} (name : List ℕ) (rest : Form A) (other : Form B) (line : List ℕ) (y : B) →
    ((ws : List (List ℕ)) → read other (name ∷ ws) ≡ None) → read_line other line ≡ Some y →
    read_line (Keyword name rest NoForm) line ≡ None
unfolding read_line
other_line name rest other line y none is = by_words name rest other (pieces 32 line) y none is

start_no_load : (m : MirrorLine) (line : List ℕ) (master : ℕ) → IsLine (start_form m) line master →
    read_line (load_form m) line ≡ None
start_no_load m line master is =
    other_line (codes "load") _ (start_form m) line master (λ ws. refl)
    (line_complete (start_form m) line master is)

loads_nothing : (m : MirrorLine) (ws : List (List ℕ)) → read (step_form m) (codes "load" ∷ ws) ≡ None
unfolding step_form run_form leg_form look_form
loads_nothing m ws = refl

starts_nothing : (m : MirrorLine) (ws : List (List ℕ)) → read (step_form m) (codes "start" ∷ ws) ≡ None
unfolding step_form run_form leg_form look_form
starts_nothing m ws = refl

step_no_load : (m : MirrorLine) (line : List ℕ) (s : Step) → IsStepLine m line s →
    read_line (load_form m) line ≡ None
step_no_load m line s is =
    other_line (codes "load") _ (step_form m) line s (loads_nothing m)
    (line_complete (step_form m) line s is)

step_no_start : (m : MirrorLine) (line : List ℕ) (s : Step) → IsStepLine m line s →
    read_line (start_form m) line ≡ None
step_no_start m line s is =
    other_line (codes "start") _ (step_form m) line s (starts_nothing m)
    (line_complete (step_form m) line s is)

-- an opening is read as it is

abbrev pub AreLoadLines : MirrorLine → List (List ℕ) → List Load → Type 0
AreLoadLines m before loads = AllZip (λ line load. IsLine (load_form m) line load) before loads

-- the lines are read as this opening, and these with content follow
pub record ReadsOpening (m : MirrorLine) (none : Opened) (sofar : List Load) (n : ℕ)
    (lines others : List (List ℕ)) (loads : List Load) (master : ℕ) : Type 0 where
  pub number : ℕ
  pub after : List (List ℕ)
  pub reads : opening_from m none sofar n lines ≡ Ok (sofar ++ loads, Some master, number, after)
  pub content : filter has_content after ≡ others

no_content : (before others : List (List ℕ)) (last : List ℕ) → [] ≡ before ++ (last ∷ others) → ⊥
no_content [] others last h = cc
no_content (b ∷ before) others last h = cc

reads_first : (m : MirrorLine) (none : Opened) (sofar : List Load) (n : ℕ) (line : List ℕ)
    (lines before others : List (List ℕ)) (last : List ℕ) (loads : List Load) (master : ℕ) →
    has_content line ≡ true →
    ((more rest : List Load) (bs : List (List ℕ)) → filter has_content lines ≡ bs ++ (last ∷ others) →
    AreLoadLines m bs rest → ReadsOpening m none more (n + 1) lines others rest master) →
    line ∷ filter has_content lines ≡ before ++ (last ∷ others) → AreLoadLines m before loads →
    IsLine (start_form m) last master →
    ReadsOpening m none sofar n (line ∷ lines) others loads master
reads_first m none sofar n line lines [] others last [] master full rest h are is =
    let here : line ≡ last = cc in
    let after : filter has_content lines ≡ others = cc in
    record {
      number = n + 1;
      after = lines;
      reads = rw (full, here, start_no_load m last master is, line_complete (start_form m) last master is, append-nil sofar) refl;
      content = after;
    }
reads_first m none sofar n line lines [] others last (l ∷ loads) master full rest h are is = absurd are
reads_first m none sofar n line lines (b ∷ before) others last [] master full rest h are is = absurd are
reads_first m none sofar n line lines (b ∷ before) others last (l ∷ loads) master full rest h are is =
    let here : line ≡ b = cc in
    let after : filter has_content lines ≡ before ++ (last ∷ others) = cc in
    let r = rest (sofar ++ l ∷ []) loads before after are.1 in
    record {
      number = r.number;
      after = r.after;
      reads = rw (full, here, line_complete (load_form m) b l are.0) (r.reads
          ∙ ap (λ ls. let x : Result Opened ℕ = Ok (ls, Some master, r.number, r.after) in x)
          (append_assoc sofar (l ∷ []) loads));
      content = r.content;
    }

reads_later : (m : MirrorLine) (none : Opened) (sofar : List Load) (n : ℕ) (line : List ℕ)
    (lines others : List (List ℕ)) (loads : List Load) (master : ℕ) → has_content line ≡ false →
    ReadsOpening m none sofar (n + 1) lines others loads master →
    ReadsOpening m none sofar n (line ∷ lines) others loads master
reads_later m none sofar n line lines others loads master empty r = record {
  number = r.number;
  after = r.after;
  reads = rw empty r.reads;
  content = r.content;
}

reads_opening : (m : MirrorLine) (none : Opened) (sofar : List Load) (n : ℕ)
    (lines before others : List (List ℕ)) (last : List ℕ) (loads : List Load) (master : ℕ) →
    filter has_content lines ≡ before ++ (last ∷ others) → AreLoadLines m before loads →
    IsLine (start_form m) last master → ReadsOpening m none sofar n lines others loads master
reads_opening m none sofar n [] before others last loads master h are is =
    absurd (no_content before others last h)
reads_opening m none sofar n (line ∷ lines) before others last loads master h are is =
    elim (chosen (has_content line) (line ∷ filter has_content lines) (filter has_content lines)
    (before ++ (last ∷ others)) h) [
      | inl p ↦ reads_first m none sofar n line lines before others last loads master p.0
          (λ more rest bs e ls. reads_opening m none more (n + 1) lines bs others last rest master e ls is)
          p.1 are is
      | inr p ↦ reads_later m none sofar n line lines others loads master p.0
          (reads_opening m none sofar (n + 1) lines before others last loads master p.1 are is)
    ]

-- an opening with a start, and what follows it
pub opening_then : (m : MirrorLine) (n : ℕ) (lines opening others : List (List ℕ)) (loads : List Load)
    (master : ℕ) → filter has_content lines ≡ opening ++ others →
    IsOpening m opening loads (Some master) →
    ReadsOpening m ([], None, n, lines) [] n lines others loads master
opening_then m n lines opening others loads master h o =
    reads_opening m ([], None, n, lines) [] n lines o.0 others o.1 loads master
    (h ∙ ap (λ x. x ++ others) o.2 ∙ append_assoc o.0 (o.1 ∷ []) others) o.3 o.4

-- steps alone are read as no opening

none_before : (m : MirrorLine) (none : Opened) (n : ℕ) (line : List ℕ)
    (lines rest : List (List ℕ)) (ss : List Step) → has_content line ≡ true →
    AllZip (IsStepLine m) (line ∷ rest) ss → opening_from m none [] n (line ∷ lines) ≡ Ok none
none_before m none n line lines rest [] full h = absurd h
none_before m none n line lines rest (s ∷ ss) full h =
    rw (
      full,
      step_no_load m line s h.0,
      step_no_start m line s h.0,
      line_complete (step_form m) line s h.0,
    ) refl

pub no_opening_read : (m : MirrorLine) (none : Opened) (n : ℕ) (lines rest : List (List ℕ))
    (ss : List Step) → filter has_content lines ≡ rest → AllZip (IsStepLine m) rest ss →
    opening_from m none [] n lines ≡ Ok none
no_opening_read m none n [] rest ss e h = refl
no_opening_read m none n (line ∷ lines) rest ss e h =
    elim (chosen (has_content line) (line ∷ filter has_content lines) (filter has_content lines) rest e) [
      | inl p ↦ none_before m none n line lines (filter has_content lines) ss p.0
          (subst (λ x. AllZip (IsStepLine m) x ss) (sym p.1) h)
      | inr p ↦ let r = no_opening_read m none (n + 1) lines rest ss p.1 h in rw p.0 r
    ]
