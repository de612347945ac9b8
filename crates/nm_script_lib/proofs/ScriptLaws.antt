-- A text is read as the script that it is, and where it is none the right line is named.
use Rattle.std.proofs.Common.{◌≡◌, ℕ, ◌+◌, ◌<◌, true, false, cond, not, List, [], ◌∷◌, ◌++◌, length, filter, get_or, take, zero, suc, Some, None, Option, Result, Ok, Err, codes, refl, sym, ap, subst, ◌∙◌, arith, inl, inr, ◌==◌}
use Rattle.std.specs.List.{AllByRecursion, Any, list_any, slice_split, before_first, after_first, position_or_len}
use Rattle.std.specs.Str.{IsUtf8, is_utf8}
use Rattle.std.proofs.lemmas.Bool.{cases_Bool, both_ways, not-true, not-false, not_from_true, eqb-true, cases_lt, or_parts, false_from_ne_true}
use Rattle.std.proofs.lemmas.Str.{IsUtf8-from_is_utf8, is_utf8-from_IsUtf8}
use Rattle.std.proofs.lemmas.List.{take_all}
use Rattle.std.proofs.lemmas.List.Folds.{Any-from_list_any}
use Rattle.std.proofs.lemmas.List.Splits.{slice_split_first}
use Rattle.nm_script_lib.specs.declared.load.Load.{Load}
use Rattle.nm_script_lib.specs.declared.mirror_line.MirrorLine.{MirrorLine}
use Rattle.nm_script_lib.specs.declared.step.Step.{Step}
use Rattle.nm_script_lib.specs.Grammar.{IsMirrorLine, mirror_form, IsScript, has_content}
use Rattle.nm_script_lib.specs.BadLine.{IsFirst, IsNotUtf8, HasContent, NamesMirror, IsBadMirror, Names, NotUtf8, NoMirrorLine, WrongMirrorLine, WrongOpening, WrongStep, NamesLine}
use Rattle.nm_script_lib.specs.Reading.{pieces, is_word, read_line}
use Rattle.nm_script_lib.specs.ScriptReading.{first_where, content_from, names_mirror, Said, after_mirror, from_content, from_utf8, script_of}
use Rattle.nm_script_lib.proofs.Pieces.{split_whole}
use Rattle.nm_script_lib.proofs.Joined.{are_separated, pieces_are}
use Rattle.nm_script_lib.proofs.FormLaws.{same_word, word_same, line_sound, line_complete}
use Rattle.nm_script_lib.proofs.LineLaws.{first_of_lines, where_found, where_none, none_where, ContentFrom, content_found, content_none, content_back}
use Rattle.nm_script_lib.proofs.RestLaws.{ReadRest, read_rest, rest_sound, rest_read, rest_bad}

-- UTF-8

not_utf8 : (line : List ℕ) → not (is_utf8 line) ≡ true → IsNotUtf8 line
not_utf8 line h is = both_ways (is_utf8 line) (not-true (is_utf8 line) h)
    (is_utf8-from_IsUtf8 line is)

utf8 : (line : List ℕ) → not (is_utf8 line) ≡ false → IsUtf8 line
utf8 line h = IsUtf8-from_is_utf8 line (not-false (is_utf8 line) h)

utf8_back : (line : List ℕ) → IsUtf8 line → not (is_utf8 line) ≡ false
utf8_back line is = not_from_true (is_utf8 line) (is_utf8-from_IsUtf8 line is)

not_utf8_back : (line : List ℕ) → not (is_utf8 line) ≡ false → IsNotUtf8 line → ⊥
not_utf8_back line h is_not = is_not (utf8 line h)

-- a script is read

same_bad : (a b : ℕ) → ◌≡◌ {A = Result Said ℕ} (Err a) (Err b) → a ≡ b
same_bad a b h = cc

-- what it takes to be a script, at lines that are known
pub record ReadLines (lines : List (List ℕ)) (m : MirrorLine) (loads : List Load) (master : Option ℕ)
    (ss : List Step) : Type 0 where
  pub first : List ℕ
  pub rest : List (List ℕ)
  pub utf8 : AllByRecursion IsUtf8 lines
  pub content : filter has_content lines ≡ first ∷ filter has_content rest
  pub mirror : IsMirrorLine first m
  pub reads : ReadRest m rest loads master ss

after_sound : (lines rest : List (List ℕ)) (n : ℕ) (line : List ℕ) (o : Option MirrorLine) (m : MirrorLine)
    (loads : List Load) (master : Option ℕ) (ss : List Step) → o ≡ read_line mirror_form line →
    AllByRecursion IsUtf8 lines → filter has_content lines ≡ line ∷ filter has_content rest →
    after_mirror lines n rest o ≡ Ok (m, loads, master, ss) → ReadLines lines m loads master ss
after_sound lines rest n line None m loads master ss e u f h = cc
after_sound lines rest n line (Some x) m loads master ss e u f h =
    let w = rest_sound x m (n + 1) rest loads master ss h in
    let is : read_line mirror_form line ≡ Some m = sym e ∙ ap Some w.0 in
    record {
      first = line;
      rest = rest;
      utf8 = u;
      content = f;
      mirror = line_sound mirror_form line m is;
      reads = subst (λ y. ReadRest y rest loads master ss) w.0 w.1;
    }

content_sound : (lines : List (List ℕ)) (o : Option (ℕ × List ℕ ×
    List (List ℕ))) (m : MirrorLine) (loads : List Load) (master : Option ℕ) (ss : List Step) →
    content_from 1 lines ≡ o → AllByRecursion IsUtf8 lines →
    from_content lines o ≡ Ok (m, loads, master, ss) → ReadLines lines m loads master ss
content_sound lines None m loads master ss e u h = cc
content_sound lines (Some (n, line, rest)) m loads master ss e u h =
    let f = content_found 1 lines (n, line, rest) e in
    after_sound lines rest n line (read_line mirror_form line) m loads master ss refl u f.content h

utf8_sound : (lines : List (List ℕ)) (o : Option ℕ) (m : MirrorLine) (loads : List Load)
    (master : Option ℕ) (ss : List Step) → first_where (λ line. not (is_utf8 line)) 1 lines ≡ o →
    from_utf8 lines o ≡ Ok (m, loads, master, ss) → ReadLines lines m loads master ss
utf8_sound lines (Some k) m loads master ss e h = cc
utf8_sound lines None m loads master ss e h =
    content_sound lines (content_from 1 lines) m loads master ss refl
    (where_none (λ line. not (is_utf8 line)) IsUtf8 utf8 1 lines e) h

-- a text that is read is a script
pub script_sound : (text : List ℕ) (m : MirrorLine) (loads : List Load) (master : Option ℕ)
    (ss : List Step) → script_of (pieces 10 text) ≡ Ok (m, loads, master, ss) →
    IsScript text m loads master ss
unfolding script_of
script_sound text m loads master ss h =
    let lines : List (List ℕ) = pieces 10 text in
    let r = utf8_sound lines (first_where (λ line. not (is_utf8 line)) 1 lines) m loads master ss refl h in
    record {
      lines = lines;
      first = r.first;
      opening = r.reads.opening;
      others = r.reads.others;
      are_lines = are_separated 10 text;
      utf8 = r.utf8;
      content = r.content ∙ ap (λ x. r.first ∷ x) r.reads.content;
      mirror = r.mirror;
      opens = r.reads.opens;
      each_step = r.reads.each_step;
    }

-- a script is read as it is
pub script_read : (text : List ℕ) (m : MirrorLine) (loads : List Load) (master : Option ℕ)
    (ss : List Step) → IsScript text m loads master ss →
    script_of (pieces 10 text) ≡ Ok (m, loads, master, ss)
unfolding script_of
script_read text m loads master ss h =
    let e = pieces_are 10 text h.lines h.are_lines in
    let u = none_where (λ line. not (is_utf8 line)) IsUtf8 utf8_back 1 h.lines h.utf8 in
    let b = content_back 1 h.lines (h.opening ++ h.others) h.first h.content in
    let rest : read_rest m (b.0 + 1) b.1 ≡ Ok (m, loads, master, ss) =
    rest_read m (b.0 + 1) b.1 h.opening h.others loads master ss b.3 h.opens h.each_step in
    rw (e, u, b.2, line_complete mirror_form h.first m h.mirror) rest

-- the line that is named

first_part : (line : List ℕ) → (rest : List (List ℕ)) ×
    (pieces 32 line ≡ before_first (λ b. b == 32) line ∷ rest)
first_part line = elim (cases_lt (position_or_len (λ b. b == 32) line) (length line)) [
  | inl inside ↦ (
    slice_split (λ b. b == 32) (after_first (λ b. b == 32) line),
    slice_split_first (λ b. b == 32) line 0 inside,
  )
  | inr outside ↦ (
    [],
    split_whole (λ b. b == 32) line outside ∙
        ap (λ r. r ∷ []) (sym (take_all (position_or_len (λ b. b == 32) line) line outside)),
  )
]

names_test : (line : List ℕ) →
    names_mirror line ≡ is_word (before_first (λ b. b == 32) line) (codes "mirror")
names_test line = let f = first_part line in rw f.1 refl

names_passed : (line : List ℕ) → names_mirror line ≡ true → NamesMirror line
names_passed line h = same_word (before_first (λ b. b == 32) line) (codes "mirror")
    (sym (names_test line) ∙ h)

names_failed : (line : List ℕ) → names_mirror line ≡ false → NamesMirror line → ⊥
names_failed line h is =
    let t : names_mirror line ≡ true = names_test line ∙ ap (λ w. is_word w (codes "mirror")) is ∙
    word_same (codes "mirror") in
    both_ways (names_mirror line) h t

none_names : (lines : List (List ℕ)) → list_any names_mirror lines ≡ false →
    AllByRecursion (λ line. NamesMirror line → ⊥) lines
none_names [] h = tt
none_names (line ∷ lines) h =
    let p = or_parts (names_mirror line) (list_any names_mirror lines) h in
    (names_failed line p.0, none_names lines p.1)

any_names : (lines : List (List ℕ)) → list_any names_mirror lines ≡ true → Any NamesMirror lines
any_names lines h = let a = Any-from_list_any names_mirror lines h in
    (a.0, a.1, a.2, a.3, names_passed a.1 a.4)

head_taken : (k b : ℕ) (bytes : List ℕ) → 0 < k → get_or (take k (b ∷ bytes)) 0 0 ≡ b
head_taken zero b bytes h = absurd (omega arith)
head_taken (suc k) b bytes h = refl

-- a line that is skipped is empty or begins with another byte
skipped_names : (line : List ℕ) → has_content line ≡ false → names_mirror line ≡ false
skipped_names [] h = refl
skipped_names (b ∷ bytes) h =
    let hash = eqb-true b 35 (not-false (b == 35) h) in
    false_from_ne_true (names_mirror (b ∷ bytes)) (λ t. let is = names_passed (b ∷ bytes) t in
    first_byte b bytes hash is)
  where
    first_byte : (b : ℕ) (bytes : List ℕ) → b ≡ 35 → NamesMirror (b ∷ bytes) → ⊥
    first_byte b bytes e is =
        let P : ℕ → Type 0 = λ x. NamesMirror (x ∷ bytes) in
        let t : NamesMirror (35 ∷ bytes) = subst P e is in
        let first : ◌≡◌ {A = ℕ} 35 109 =
        sym (head_taken (position_or_len (λ x. x == 32) (35 ∷ bytes)) 35 bytes (omega arith)) ∙
        ap (λ w. get_or w 0 0) t in
        omega (arith, first)

skipped_none : (lines : List (List ℕ)) → AllByRecursion (λ line. has_content line ≡ false) lines →
    AllByRecursion (λ line. NamesMirror line → ⊥) lines
skipped_none [] h = tt
skipped_none (line ∷ lines) h = (names_failed line (skipped_names line h.0), skipped_none lines h.1)

no_mirror : (line : List ℕ) → read_line mirror_form line ≡ None → IsBadMirror line
no_mirror line none m is = let some = line_complete mirror_form line m is in cc

abbrev one_first : (k : ℕ) (lines rest : List (List ℕ)) (line : List ℕ) →
    ContentFrom 1 lines k line rest → IsFirst HasContent lines k
one_first k lines rest line f = record {
  before = f.before;
  line = line;
  after = rest;
  split = f.split;
  number = f.number;
  none_before
      = f.skipped;
  holds = f.here;
}

named_at : (a n : ℕ) (lines : List (List ℕ)) → n ≡ a → Names lines a → Names lines n
named_at a n lines e h = rw e h

after_bad : (lines rest : List (List ℕ)) (n : ℕ) (line : List ℕ) (o : Option MirrorLine) (k : ℕ) →
    o ≡ read_line mirror_form line →
    AllByRecursion IsUtf8 lines → ContentFrom 1 lines n line rest →
    after_mirror lines n rest o ≡ Err k → Names lines k
after_bad lines rest n line None k e u f h =
    let is = no_mirror line (sym e) in
    elim (cases_Bool (list_any names_mirror lines)) [
      | inl some ↦
          let t : n ≡ k = same_bad n k (sym (ap (λ b. Err (cond b n 1)) some) ∙ h) in
          named_at n k lines (sym t)
          (WrongMirrorLine n u (any_names lines some) (one_first n lines rest line f) is)
      | inr fails ↦
          let t : 1 ≡ k = same_bad 1 k (sym (ap (λ b. Err (cond b n 1)) fails) ∙ h) in
          named_at 1 k lines (sym t) (NoMirrorLine u (none_names lines fails))
    ]
after_bad lines rest n line (Some m) k e u f h =
    elim (rest_bad m n rest k h) [
      | inl bad ↦ named_at (n + bad.line) k lines (sym bad.number)
          (WrongOpening n bad.line m u (one_first n lines rest line f)
          (line_sound mirror_form line m (sym e)) bad.is)
      | inr bad ↦ named_at (n + bad.skipped + bad.line) k lines (sym bad.number)
          (WrongStep n bad.skipped bad.line m u (one_first n lines rest line f)
          (line_sound mirror_form line m (sym e)) bad.after bad.follows bad.first)
    ]

content_bad : (lines : List (List ℕ)) (o : Option (ℕ × List ℕ × List (List ℕ))) (k : ℕ) →
    content_from 1 lines ≡ o →
    AllByRecursion IsUtf8 lines → from_content lines o ≡ Err k → Names lines k
content_bad lines None k e u h = named_at 1 k lines (sym (same_bad 1 k h))
    (NoMirrorLine u (skipped_none lines (content_none 1 lines e)))
content_bad lines (Some (n, line, rest)) k e u h =
    after_bad lines rest n line (read_line mirror_form line) k refl u (content_found 1 lines (
      n,
      line,
      rest,
    ) e) h

utf8_bad : (lines : List (List ℕ)) (o : Option ℕ) (k : ℕ) →
    first_where (λ line. not (is_utf8 line)) 1 lines ≡ o → from_utf8 lines o ≡ Err k → Names lines k
utf8_bad lines (Some n) k e h =
    named_at n k lines (sym (same_bad n k h))
    (NotUtf8 n (first_of_lines IsNotUtf8 lines n
    (where_found (λ line. not (is_utf8 line)) IsNotUtf8 not_utf8 not_utf8_back 1 lines n e)))
utf8_bad lines None k e h =
    content_bad lines (content_from 1 lines) k refl
    (where_none (λ line. not (is_utf8 line)) IsUtf8 utf8 1 lines e) h

-- where a text is not read, the line is the one to name
pub line_named : (text : List ℕ) (k : ℕ) → script_of (pieces 10 text) ≡ Err k → NamesLine text k
unfolding script_of
line_named text k h =
    let lines : List (List ℕ) = pieces 10 text in (
      lines,
      are_separated 10 text,
      utf8_bad lines (first_where (λ line. not (is_utf8 line)) 1 lines) k refl h,
    )
