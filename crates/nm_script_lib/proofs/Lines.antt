-- The lines of the steps that ask nothing of the stripe.
use Rattle.std.proofs.Common.{◌≡◌, ℕ, suc, ◌+◌, ◌-◌, ◌<◌, List, ◌++◌, append_assoc, arith, Some, Result, codes, refl, sym, ap, subst, ◌∙◌}
use Rattle.std.specs.List.{slice_get}
use Rattle.nm_replay.specs.declared.block.Block.{Block}
use Rattle.nm_rules.specs.declared.refusal.Refusal.{Refusal}
use Rattle.nm_rules.specs.State.{leg_state, left}
use Rattle.nm_script_lib.specs.declared.mirror_line.MirrorLine.{MirrorLine}
use Rattle.nm_script_lib.specs.declared.script_stripe.ScriptStripe.{ScriptStripe}
use Rattle.nm_script_lib.specs.declared.step.Step.{Step}
use Rattle.nm_script_lib.specs.declared.step.Step.TheVariants.{Fuse, Peek, Lose, State}
use Rattle.nm_script_lib.specs.MemStripe.{MemStripe}
use Rattle.nm_script_lib.specs.Printing.{ended_line, holds_text, loss_text}
use Rattle.nm_script_lib.specs.ScriptStripe.{LosesPower, shown}
use Rattle.nm_script_lib.specs.StateLine.{leg_text, legs_text, state_text}
use Rattle.nm_script_lib.specs.Runs.{AddsLine}

-- the states of the legs, one leg further
pub legs_more : (stripe : MemStripe) (legs leg : ℕ) (before added all : List ℕ) → leg < legs →
    added ≡ before ++ leg_text (leg_state leg stripe) (left leg stripe) →
    before ++ legs_text stripe (legs - leg) leg ≡ all →
    added ++ legs_text stripe (legs - (leg + 1)) (leg + 1) ≡ all
legs_more stripe legs leg before added all inside e so_far =
    let here : List ℕ = leg_text (leg_state leg stripe) (left leg stripe) in
    let rest : List ℕ = legs_text stripe (legs - (leg + 1)) (leg + 1) in
    let count : legs - leg ≡ suc (legs - (leg + 1)) = omega (arith, inside) in
    let next : legs_text stripe (legs - leg) leg ≡ here ++ rest =
    ap (λ n. legs_text stripe n leg) count in
    ap (λ x. x ++ rest) e ∙ append_assoc before here rest ∙ ap (λ x. before ++ x) (sym next) ∙ so_far

pub fused_line : (m : MirrorLine) (step : Step) (leg call : ℕ) (running : ScriptStripe)
    (before after : List ℕ) → step ≡ Fuse leg call →
    after ≡ before ++ ended_line (codes "fused") → AddsLine m step running running before after
fused_line m step leg call running before after is added =
    subst (λ s. AddsLine m s running running before after) (sym is)
    (record { text = codes "fused"; prints = (refl, refl); added = added })

pub holds_line : (m : MirrorLine) (step : Step) (leg block : ℕ) (running : ScriptStripe)
    (found : Block) (before after : List ℕ) → step ≡ Peek leg block →
    slice_get (shown running leg) block ≡ Some found →
    after ≡ before ++ ended_line (holds_text found) → AddsLine m step running running before after
holds_line m step leg block running found before after is held added =
    subst (λ s. AddsLine m s running running before after) (sym is) (record {
      text = holds_text found;
      prints = (found, held, refl, refl);
      added = added;
    })

pub loss_line : (m : MirrorLine) (step : Step) (leg : ℕ) (loss : Result ℕ Refusal)
    (old new : ScriptStripe) (before after : List ℕ) → step ≡ Lose leg → LosesPower leg loss old new →
    after ≡ before ++ ended_line (loss_text loss) → AddsLine m step old new before after
loss_line m step leg loss old new before after is loses added =
    subst (λ s. AddsLine m s old new before after) (sym is)
    (record { text = loss_text loss; prints = (loss, loses, refl); added = added })

pub state_line : (m : MirrorLine) (step : Step) (running : ScriptStripe) (before after : List ℕ) →
    step ≡ State → after ≡ before ++ ended_line (state_text running.stripe) →
    AddsLine m step running running before after
state_line m step running before after is added =
    subst (λ s. AddsLine m s running running before after) (sym is)
    (record { text = state_text running.stripe; prints = (refl, refl); added = added })
