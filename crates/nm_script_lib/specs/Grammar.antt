-- The script language: which bytes are a script, and what it says.
use Rattle.std.specs.Prelude.{◌≡◌, ℕ, ◌^◌, ◌-◌, ◌%◌, Bool, false, List, [], ◌∷◌, ◌==◌, not, min}
use Rattle.std.specs.Prelude.{IsUtf8}
use Rattle.std.specs.Prelude.{codes, filter, ◌++◌, Option, None, Some}
use Rattle.std.specs.List.{AllZip, AllByRecursion}
use Rattle.nm_script_lib.specs.declared.load.Load.{Load}
use Rattle.nm_script_lib.specs.declared.mirror_line.MirrorLine.{MirrorLine}
use Rattle.nm_script_lib.specs.declared.step.Step.{Step}
use Rattle.nm_script_lib.specs.declared.step.Step.TheVariants.{Ask, Fuse, Peek, Lose, State}
use Rattle.nm_script_lib.specs.declared.step.StripeStep.TheVariants.{Begin, Zero, Patch, Push}
use Rattle.nm_script_lib.specs.declared.step.StripeStep.TheVariants.{Claim, Read, Fail, Attach}
use Rattle.nm_script_lib.specs.declared.step.StripeStep.TheVariants.{Replace, Copy, Promote, Sync}
use Rattle.nm_script_lib.specs.declared.step.StripeStep.TheVariants.{Run, Get, Return, Flush}
use Rattle.nm_script_lib.specs.Forms.{Number, Below, Within, Byte, Form, Makes, Then, ThenPolicy}
use Rattle.nm_script_lib.specs.Forms.{NoForm, one, two, keywords, IsLine, AreSeparated}

-- The arguments of a write of a part of a block: which block, from which of its bytes on, how many
-- bytes, which end inside the block, and the byte that they all are.
unfoldable pub patch_args : MirrorLine → Form Step
patch_args m =
    Then (Below m.blocks) (λ block.
    Then (Below 512) (λ start.
    Then (Within 1 (512 - start)) (λ len.
    Then Byte (λ fill. Makes (Ask (Patch block start len fill))))))

-- The steps that the stripe has no part in: each one's word, its arguments, and the step.
unfoldable pub look_form : MirrorLine → Form Step
look_form m = keywords (
    (codes "fuse", two (Below m.legs) (Within 1 (2 ^ 64 - 1)) Fuse) ∷
    (codes "peek", two (Below m.legs) (Below m.blocks) Peek) ∷
    (codes "lose", one (Below m.legs) Lose) ∷
    (codes "state", Makes State) ∷ []) NoForm

-- The steps of the stripe that copy a leg, or make it the master or durable, and those above.
abbrev pub copy_form : MirrorLine → Form Step
copy_form m = keywords (
    (codes "copy", one (Below m.legs) (λ leg. Ask (Copy leg 1))) ∷
    (codes "copies", two (Below m.legs) (Within 1 (2 ^ 64 - 1)) (λ leg most. Ask (Copy leg most))) ∷
    (codes "promote", one (Below m.legs) (λ leg. Ask (Promote leg))) ∷
    (codes "sync", one (Below m.legs) (λ leg. Ask (Sync leg))) ∷
    (codes "flush", one (Below m.legs) (λ leg. Ask (Flush leg))) ∷ [])
    (look_form m)

-- The steps of the stripe that change a leg, and those above.
unfoldable pub leg_form : MirrorLine → Form Step
leg_form m = keywords (
    (codes "fail", one (Below m.legs) (λ leg. Ask (Fail leg))) ∷
    (codes "attach", one (Below m.legs) (λ leg. Ask (Attach leg))) ∷
    (codes "return", one (Below m.legs) (λ leg. Ask (Return leg))) ∷
    (codes "replace", two (Below m.legs) Byte (λ leg fill. Ask (Replace leg fill))) ∷ [])
    (copy_form m)

-- How many blocks a run may have that begins with this block: up to the end of its region and of
-- the mirror, and 128 at most.
abbrev pub most_run : MirrorLine → ℕ → ℕ
most_run m block = min 128 (min (m.region - block % m.region) (m.blocks - block))

-- The arguments of a write of a run: its first block, how many it has, and the byte that all are.
unfoldable pub run_args : MirrorLine → Form Step
run_args m =
    Then (Below m.blocks) (λ block.
    Then (Within 1 (most_run m block)) (λ count.
    Then Byte (λ fill. Makes (Ask (Run block count fill)))))

-- The arguments of a read of a run: its first block, and how many it has.
unfoldable pub get_args : MirrorLine → Form Step
get_args m =
    Then (Below m.blocks) (λ block.
    Then (Within 1 (most_run m block)) (λ count. Makes (Ask (Get block count))))

-- The steps on runs of several blocks, and those above.
unfoldable pub run_form : MirrorLine → Form Step
run_form m = keywords (
    (codes "run", run_args m) ∷
    (codes "get", get_args m) ∷ [])
    (leg_form m)

-- The steps that go on with a write, or read a block, and those above.
abbrev pub ticket_form : MirrorLine → Form Step
ticket_form m = keywords (
    (codes "push", two Number (Below m.legs) (λ ticket leg. Ask (Push ticket leg))) ∷
    (codes "claim", one Number (λ ticket. Ask (Claim ticket))) ∷
    (codes "read", one (Below m.blocks) (λ block. Ask (Read block))) ∷ [])
    (run_form m)

-- All steps on such a mirror: those that begin a write of a block, and those above.
unfoldable pub step_form : MirrorLine → Form Step
step_form m = keywords (
    (codes "begin", two (Below m.blocks) Byte (λ block fill. Ask (Begin block fill))) ∷
    (codes "zero", one (Below m.blocks) (λ block. Ask (Zero block))) ∷
    (codes "patch", patch_args m) ∷ [])
    (ticket_form m)

-- The arguments of the mirror line: LEGS BLOCKS REGION CHUNK POLICY FIRST, each in its range.
abbrev pub mirror_args : Form MirrorLine
mirror_args =
    Then (Within 1 8) (λ legs.
    Then (Within 1 65536) (λ blocks.
    Then (Within 1 65536) (λ region.
    Then (Within 1 region) (λ chunk.
    ThenPolicy (λ policy.
    Then (Within 0 (2 ^ 63)) (λ first.
    Makes (record {
      legs = legs;
      blocks = blocks;
      region = region;
      chunk = chunk;
      policy = policy;
      first = first;
    })))))))

-- The mirror line.
abbrev pub mirror_form : Form MirrorLine
mirror_form = keywords ((codes "mirror", mirror_args) ∷ []) NoForm

-- The line of a step on such a mirror.
abbrev pub IsStepLine : MirrorLine → List ℕ → Step → Type 0
IsStepLine m line step = IsLine (step_form m) line step

-- The line that says what mirror the steps run on.
abbrev pub IsMirrorLine : List ℕ → MirrorLine → Type 0
IsMirrorLine line m = IsLine mirror_form line m

-- The line of a load: the leg, the block, and the byte that all of the block's bytes are.
abbrev pub load_form : MirrorLine → Form Load
load_form m = keywords ((
  codes "load",
  Then (Below m.legs) (λ leg. Then (Below m.blocks) (λ block. Then Byte (λ fill.
      Makes (record { leg = leg; block = block; fill = fill })))),
) ∷ []) NoForm

-- The line that starts a comparison with a leg.
abbrev pub start_form : MirrorLine → Form ℕ
start_form m = keywords ((codes "start", one (Below m.legs) (λ leg. leg)) ∷ []) NoForm

-- The lines between the mirror line and the steps: none, and no leg is loaded or compared; or
-- loads, and then one start.
abbrev pub IsOpening : MirrorLine → List (List ℕ) → List Load → Option ℕ → Type 0
IsOpening m lines loads None = (lines ≡ []) × (loads ≡ [])
IsOpening m lines loads (Some master) =
    (before : List (List ℕ)) × (last : List ℕ) × (lines ≡ before ++ (last ∷ []))
    × AllZip (λ line load. IsLine (load_form m) line load) before loads
    × IsLine (start_form m) last master

-- Empty lines and comments, which begin with `#`, are skipped. Every other line has content.
abbrev pub has_content : List ℕ → Bool
has_content [] = false
has_content (b ∷ bytes) = not (b == 35)

-- The lines of a text, with LF between them. A final LF is followed by an empty line.
abbrev pub AreLines : List ℕ → List (List ℕ) → Type 0
AreLines text lines = AreSeparated 10 text lines

-- A script: UTF-8. Of the lines with content the first is a mirror line, then those that say how
-- the stripe opens, if any, and the others are steps.
pub record IsScript (text : List ℕ) (m : MirrorLine) (loads : List Load) (master : Option ℕ)
    (steps : List Step) : Type 0 where
  pub lines : List (List ℕ)
  pub first : List ℕ
  pub opening : List (List ℕ)
  pub others : List (List ℕ)
  pub are_lines : AreLines text lines
  pub utf8 : AllByRecursion IsUtf8 lines
  pub content : filter has_content lines ≡ first ∷ (opening ++ others)
  pub mirror : IsMirrorLine first m
  pub opens : IsOpening m opening loads master
  pub each_step : AllZip (IsStepLine m) others steps
