-- What a run of a script writes.
use Rattle.std.specs.Prelude.{◌≡◌, ℕ, List, [], ◌∷◌, ◌++◌, ◌↔◌, Bool, true, IsTrue}
use Rattle.std.specs.Prelude.{Option, None, Some, Result, slice_get, codes}
use Rattle.std.specs.List.{flat_map}
use Rattle.nm_replay.specs.History.{Consistent}
use Rattle.nm_replay.specs.declared.entry.Entry.{Entry}
use Rattle.nm_replay.specs.declared.block.Block.{Block}
use Rattle.nm_stripe.specs.declared.answer.Answer.{Answer}
use Rattle.nm_rules.specs.declared.refusal.Refusal.{Refusal}
use Rattle.nm_script_lib.specs.declared.load.Load.{Load}
use Rattle.nm_script_lib.specs.declared.mirror_line.MirrorLine.{MirrorLine}
use Rattle.nm_script_lib.specs.declared.power_leg.PowerLeg.{PowerLeg}
use Rattle.nm_script_lib.specs.declared.script_stripe.ScriptStripe.{ScriptStripe}
use Rattle.nm_script_lib.specs.declared.step.Step.{Step}
use Rattle.nm_script_lib.specs.declared.step.Step.TheVariants.{Ask, Fuse, Peek, Lose, State}
use Rattle.nm_script_lib.specs.MemStripe.{MemStripe}
use Rattle.nm_script_lib.specs.Printing.{ended_line, answer_text, holds_text, history_lines}
use Rattle.nm_script_lib.specs.Printing.{loss_text}
use Rattle.nm_script_lib.specs.ScriptStripe.{Answers, Begins, LosesPower, shown}
use Rattle.nm_script_lib.specs.StateLine.{state_text}

-- A step prints this text, and leaves the stripe so: a step of the stripe prints its answer, a loss
-- of power how many blocks it changed, and any other changes nothing that a contract sees.
abbrev pub Prints : MirrorLine → Step → List ℕ → ScriptStripe → ScriptStripe → Type 0
Prints m (Ask step) text old new =
    (answer : Answer PowerLeg) × Answers m step answer old new × (text ≡ answer_text answer)
Prints m (Fuse leg call) text old new = (text ≡ codes "fused") × (new ≡ old)
Prints m (Peek leg block) text old new =
    (found : Block) × (slice_get (shown old leg) block ≡ Some found)
    × (text ≡ holds_text found) × (new ≡ old)
Prints m (Lose leg) text old new =
    (loss : Result ℕ Refusal) × LosesPower leg loss old new × (text ≡ loss_text loss)
Prints m State text old new = (text ≡ state_text old.stripe) × (new ≡ old)

-- The steps print these texts, one a step, one after the other.
abbrev pub PrintsAll : MirrorLine → List Step → List (List ℕ) → ScriptStripe → ScriptStripe → Type 0
PrintsAll m [] [] old new = new ≡ old
PrintsAll m (step ∷ steps) (text ∷ texts) old new =
    (mid : ScriptStripe) × Prints m step text old mid × PrintsAll m steps texts mid new
PrintsAll m steps texts old new = ⊥

-- A text for each step, each on a line of its own.
abbrev pub lines_of : List (List ℕ) → List ℕ
lines_of texts = flat_map ended_line texts

-- A step's line was added to what was there.
pub record AddsLine (m : MirrorLine) (step : Step) (old new : ScriptStripe)
    (before after : List ℕ) : Type 0 where
  pub text : List ℕ
  pub prints : Prints m step text old new
  pub added : after ≡ before ++ ended_line text

-- A fact about a history's lines, which have `legal yes` exactly where it is consistent.
abbrev pub JudgesHistory : List Entry → ℕ → (List ℕ → Type 0) → Type 0
JudgesHistory entries total P =
    (is_legal : Bool) → (IsTrue is_legal ↔ Consistent entries)
    → P (history_lines entries total is_legal)

-- The lines of the history that a stripe keeps, which is legal.
abbrev pub history : MemStripe → List ℕ
history stripe = history_lines stripe.kept.entries stripe.total true

-- What a run writes after its opening: a line for each step, then the history.
abbrev pub run_text : List (List ℕ) → ScriptStripe → List ℕ
run_text texts end = lines_of texts ++ history end.stripe

-- The line of a load.
abbrev pub loaded_line : Load → List ℕ
loaded_line load = ended_line (codes "loaded")

-- What is printed as a stripe opens: a line for each load and one for the start, if there is one.
abbrev pub opening_text : List Load → Option ℕ → List ℕ
opening_text loads None = []
opening_text loads (Some master) = flat_map loaded_line loads ++ ended_line (codes "started")

-- The whole of a run: the lines of its opening, and then those of its steps and the history.
pub record WholeRun (m : MirrorLine) (loads : List Load) (master : Option ℕ) (steps : List Step)
    (text : List ℕ) : Type 0 where
  pub start : ScriptStripe
  pub begins : Begins m loads master start
  pub texts : List (List ℕ)
  pub end : ScriptStripe
  pub printed : PrintsAll m steps texts start end
  pub whole : text ≡ opening_text loads master ++ run_text texts end

-- The lines of a run that ends early: none, those of its opening and its first steps, or all.
pub data PartOfRun (m : MirrorLine) (loads : List Load) (master : Option ℕ) (steps : List Step)
    : List ℕ → Type 0 where
  NoSteps : PartOfRun m loads master steps []
  FirstSteps : (start end : ScriptStripe) (prefix rest : List Step) (texts : List (List ℕ))
      → Begins m loads master start → steps ≡ prefix ++ rest
      → PrintsAll m prefix texts start end
      → PartOfRun m loads master steps (opening_text loads master ++ lines_of texts)
  AllSteps : (text : List ℕ) → WholeRun m loads master steps text
      → PartOfRun m loads master steps text

-- The steps were done, and their lines were written so.
pub record RunsSteps (m : MirrorLine) (steps : List Step) (before after : ScriptStripe)
    (Written : List ℕ → Type 0) : Type 0 where
  pub texts : List (List ℕ)
  pub printed : PrintsAll m steps texts before after
  pub written : Written (lines_of texts)

-- Some first steps were done, and their lines were written so.
pub record RunsPrefix (m : MirrorLine) (steps : List Step) (before : ScriptStripe)
    (Written : List ℕ → Type 0) : Type 0 where
  pub prefix : List Step
  pub rest : List Step
  pub texts : List (List ℕ)
  pub after : ScriptStripe
  pub split : steps ≡ prefix ++ rest
  pub printed : PrintsAll m prefix texts before after
  pub written : Written (lines_of texts)

-- Some text of this kind was written, whole or in part.
abbrev pub Writes : (List ℕ → Type 0) → (List ℕ → Type 0) → Type 0
Writes Kind Written = (text : List ℕ) × Kind text × Written text
