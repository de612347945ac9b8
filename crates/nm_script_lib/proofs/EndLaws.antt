-- How a run ends, from how its parts end.
use Rattle.std.proofs.Common.{◌≡◌, ℕ, List, [], ◌∷◌, ◌++◌, Option, Result, Ok, Err, OnOk, OnErr, IfErr, IsErrAnd, codes, decimal, refl, sym, subst, append_assoc}
use Rattle.std.specs.Io.KnownBytes.{Appends}
use Rattle.std.proofs.KnownBytes.{Appends-trans}
use Rattle.nm_script_lib.specs.declared.load.Load.{Load}
use Rattle.nm_script_lib.specs.declared.mirror_line.MirrorLine.{MirrorLine}
use Rattle.nm_script_lib.specs.declared.step.Step.{Step}
use Rattle.nm_script_lib.specs.declared.parse_error.ParseError.{ParseError}
use Rattle.nm_script_lib.specs.declared.parse_error.ParseError.TheVariants.{Memory, BadStep}
use Rattle.nm_script_lib.specs.declared.run_error.RunError.{RunError}
use Rattle.nm_script_lib.specs.Grammar.{IsScript}
use Rattle.nm_script_lib.specs.BadLine.{NamesLine}
use Rattle.nm_script_lib.specs.Streams.{AppendsPrefix, ReadsAll}
use Rattle.nm_script_lib.specs.RunErrors.{error_of_parse, bad_step_line}
use Rattle.nm_script_lib.specs.Ending.{ReadsNone, CannotRead}
use Rattle.nm_script_lib.proofs.RunLaws.{prefix_longer, prefix_after, prefix_whole}

-- the message that names a line, written in three calls

line_parts : (line : ℕ) →
    bad_step_line line ≡ (codes "line " ++ decimal line) ++ codes ": bad step\n"
line_parts line = append_assoc (codes "line " ++ decimal line) (codes ": bad step") (10 ∷ [])

pub line_first : (line : ℕ) (old new : Option (List ℕ)) → AppendsPrefix old new (codes "line ") →
    AppendsPrefix old new (bad_step_line line)
line_first line old new h = subst (λ (x : List ℕ). AppendsPrefix old new x) (sym (line_parts line))
    (prefix_longer old new (codes "line " ++ decimal line) (codes ": bad step\n")
    (prefix_longer old new (codes "line ") (decimal line) h))

pub line_second : (line : ℕ) (old cur new : Option (List ℕ)) → Appends old cur (codes "line ") →
    AppendsPrefix cur new (decimal line) → AppendsPrefix old new (bad_step_line line)
line_second line old cur new h k = subst (λ (x : List ℕ). AppendsPrefix old new x)
    (sym (line_parts line))
    (prefix_longer old new (codes "line " ++ decimal line) (codes ": bad step\n")
    (prefix_after old cur new (codes "line ") (decimal line) h k))

pub line_third : (line : ℕ) (old cur mid new : Option (List ℕ)) → Appends old cur (codes "line ") →
    Appends cur mid (decimal line) →
    AppendsPrefix mid new (codes ": bad step\n") → AppendsPrefix old new (bad_step_line line)
line_third line old cur mid new h k l = subst (λ (x : List ℕ). AppendsPrefix old new x)
    (sym (line_parts line))
    (prefix_after old mid new (codes "line " ++ decimal line) (codes ": bad step\n")
    (Appends-trans old cur mid (codes "line ") (decimal line) h k) l)

-- a text that is not read as a script

pub cannot_read : (old new : Option (List ℕ)) (text : List ℕ) (e : ParseError) (s : RunError) →
    s ≡ error_of_parse e → ReadsAll old new text →
    ((n : ℕ) → ◌≡◌ {A = ParseError} e (BadStep n) → NamesLine text n) →
    ((m : MirrorLine) (loads : List Load) (master : Option ℕ) (steps : List Step) →
    IsScript text m loads master steps → e ≡ Memory) → CannotRead old new s
cannot_read old new text Memory s is read named script = subst (CannotRead old new) (sym is) tt
cannot_read old new text (BadStep line) s is read named script =
    let none : ReadsNone old new line = record {
      text = text;
      read = read;
      named = named line refl;
      none = λ m loads master steps h. let e = script m loads master steps h in cc;
    } in
    subst (CannotRead old new) (sym is) none

-- what was reported, whether all of it was written or not

pub reported_prefix : {E : Type 0} (r : Result (Unit {0}) E) (old new : Option (List ℕ)) (line : List ℕ)
    →
    OnOk r (Appends old new line) → OnErr r (AppendsPrefix old new line) → AppendsPrefix old new line
reported_prefix (Ok x) old new line h k = prefix_whole old new line h
reported_prefix (Err e) old new line h k = k

pub if_err : {T E : Type 0} (r : Result T E) (P Q : E → Type 0) → IsErrAnd r Q →
    ((e : E) → Q e → P e) → IfErr r P
if_err (Ok x) P Q h f = tt
if_err (Err e) P Q h f = f e h
