-- What the private reader gives is the grammar's, by the laws on texts alone.
use Rattle.std.proofs.Common.{◌≡◌, ℕ, List, Option, Result, Ok, Err, IfOk, IsErrOf, MatchResult, refl, sym, ap, ◌∙◌}
use Rattle.nm_script_lib.specs.declared.load.Load.{Load}
use Rattle.nm_script_lib.specs.declared.mirror_line.MirrorLine.{MirrorLine}
use Rattle.nm_script_lib.specs.declared.step.Step.{Step}
use Rattle.nm_script_lib.specs.declared.script.Script.{Script}
use Rattle.nm_script_lib.specs.declared.parse_error.ParseError.{ParseError}
use Rattle.nm_script_lib.specs.declared.parse_error.ParseError.TheVariants.{Memory, BadStep}
use Rattle.nm_script_lib.specs.Grammar.{IsScript}
use Rattle.nm_script_lib.specs.BadLine.{NamesLine}
use Rattle.nm_script_lib.specs.Reading.{pieces}
use Rattle.nm_script_lib.specs.ScriptReading.{script_of, Reads, Said, SaysAll}
use Rattle.nm_script_lib.proofs.ScriptLaws.{script_sound, script_read, line_named}
use Rattle.nm_script_lib.proofs.script.parse.Goals as goal

-- what a script is read as
abbrev Read : List ℕ → Result Script ParseError → Type 0
Read text r = Reads (λ s. (s.mirror, s.loads.items, s.master, s.steps.items)) r
    (script_of (pieces 10 text))

is_parsed : (text : List ℕ) (r : Result Script ParseError) → Read text r →
    IfOk r (λ s. IsScript text s.mirror s.loads.items s.master s.steps.items)
is_parsed text (Ok s) h = script_sound text s.mirror s.loads.items s.master s.steps.items h
is_parsed text (Err e) h = tt

same_parts : (m : MirrorLine) (loads : List Load) (master : Option ℕ) (ss : List Step) (s : Script) →
    ◌≡◌ {A = Result Said ℕ} (Ok (s.mirror, s.loads.items, s.master, s.steps.items))
    (Ok (m, loads, master, ss)) → SaysAll m loads master ss s
same_parts m loads master ss s h =
    let p : ◌≡◌ {A = Said} (s.mirror, s.loads.items, s.master, s.steps.items) (m, loads, master, ss) = cc in
    record {
      same_mirror = ap (λ x. x.0) p;
      same_loads = ap (λ x. x.1) p;
      same_master = ap (λ x. x.2) p;
      same_steps = ap (λ x. x.3) p;
    }

is_script : (text : List ℕ) (m : MirrorLine) (loads : List Load) (master : Option ℕ) (ss : List Step)
    (r : Result Script ParseError) → Read text r → IsScript text m loads master ss →
    MatchResult r (SaysAll m loads master ss) (λ e. e ≡ Memory)
is_script text m loads master ss (Ok s) h is =
    same_parts m loads master ss s (sym h ∙ script_read text m loads master ss is)
is_script text m loads master ss (Err Memory) h is = refl
is_script text m loads master ss (Err (BadStep line)) h is =
    let e = script_read text m loads master ss is in cc

is_named : (text : List ℕ) (n : ℕ) (r : Result Script ParseError) → Read text r →
    IsErrOf r (BadStep n) → NamesLine text n
is_named text n (Ok s) h e = cc
is_named text n (Err Memory) h e = cc
is_named text n (Err (BadStep line)) h e = let same : line ≡ n = cc in
    line_named text n (h ∙ ap Err same)

pub returns-clause-parsed : goal.returns-clause-parsed
returns-clause-parsed c = is_parsed c.args.text.now c.script_of.result c.script_of.ensures

pub returns-clause-script : goal.returns-clause-script
returns-clause-script c = λ m loads master ss is. is_script c.args.text.now m loads master ss
    c.script_of.result c.script_of.ensures is

pub returns-clause-named : goal.returns-clause-named
returns-clause-named c = λ n e. is_named c.args.text.now n c.script_of.result c.script_of.ensures e
