-- The stripe of a script, whose legs may lose power while they are out.
use Rattle.std.specs.Prelude.{◌≡◌, ℕ, Bool, true, false, List, replicate, slice_get, slice_set}
use Rattle.std.specs.Prelude.{Option, None, Some, Result, Ok, Err, if◌then◌else◌}
use Rattle.nm_geometry.specs.LegSets.{has}
use Rattle.nm_replay.specs.Array.{Array}
use Rattle.nm_rules.specs.declared.refusal.Refusal.{Refusal}
use Rattle.nm_rules.specs.declared.refusal.Refusal.TheVariants.{NotOut}
use Rattle.nm_rules.specs.Array.{contents_of}
use Rattle.nm_rules.specs.Flushed.{durable_of}
use Rattle.nm_rules.specs.Losing.{with_part}
use Rattle.nm_rules.specs.State.{is_out, leg_state}
use Rattle.nm_stripe.specs.declared.answer.Answer.{Answer}
use Rattle.nm_stripe.specs.declared.answer.Answer.TheVariants.{Joining}
use Rattle.nm_stripe.specs.declared.step.Step.{Step as MachineStep}
use Rattle.nm_stripe.specs.declared.step.Step.TheVariants.{Return as ReturnStep}
use Rattle.nm_stripe.specs.Run.{StepOf}
use Rattle.nm_script_lib.specs.declared.load.Load.{Load}
use Rattle.nm_script_lib.specs.declared.mirror_line.MirrorLine.{MirrorLine}
use Rattle.nm_script_lib.specs.declared.power_leg.PowerLeg.{PowerLeg}
use Rattle.nm_script_lib.specs.declared.script_stripe.ScriptStripe.{ScriptStripe}
use Rattle.nm_script_lib.specs.declared.step.StripeStep.{StripeStep}
use Rattle.nm_script_lib.specs.declared.step.StripeStep.TheVariants.{Attach, Return, Replace}
use Rattle.nm_script_lib.specs.MemStripe.{IsAsked, IsOpened, everywhere}
use Rattle.nm_script_lib.specs.Power.{IsLeft}
use Rattle.nm_script_lib.specs.PowerLeg.{changed_of, of_power, power_legs}

-- What the leg has now: where it lost power, what was durable.
abbrev pub shown : ScriptStripe → ℕ → Array
shown s leg =
    if has leg s.lost then durable_of of_power s.stripe.legs leg
    else contents_of of_power s.stripe.legs leg

-- How many blocks of the leg a loss of its power changes now: after one, no more.
abbrev pub forgotten : ScriptStripe → ℕ → ℕ
forgotten s leg =
    if has leg s.lost then 0 else changed_of (slice_get s.stripe.legs leg)

-- A loss of the leg's power: it has to be out, and then tells how many blocks were changed.
abbrev pub LosesPower : ℕ → Result ℕ Refusal → (old new : ScriptStripe) → Type 0
LosesPower leg (Ok count) old new =
    (is_out (leg_state leg old.stripe) ≡ true) × (count ≡ forgotten old leg)
    × (new ≡ record old { lost = slice_set old.lost leg true })
LosesPower leg (Err refusal) old new =
    (is_out (leg_state leg old.stripe) ≡ false) × (refusal ≡ NotOut) × (new ≡ old)

-- The leg that a step asks back, if it lost power.
abbrev pub asked_back : StripeStep → List Bool → Option ℕ
asked_back (Attach leg) lost = if has leg lost then Some leg else None
asked_back (Return leg) lost = if has leg lost then Some leg else None
asked_back step lost = None

-- A leg that lost power was asked back, with this answer: it returns as this part, or stays out.
abbrev pub Returned : ℕ → PowerLeg → Answer PowerLeg → (old new : ScriptStripe) → Type 0
Returned leg part (Joining blocks) old new =
    StepOf power_legs (ReturnStep leg everywhere) (Joining blocks)
    (with_part old.stripe leg part) new.stripe
    × (new.lost ≡ slice_set old.lost leg false)
Returned leg part answer old new =
    StepOf power_legs (ReturnStep leg everywhere) answer old.stripe new.stripe
    × (new.lost ≡ old.lost)

-- A leg comes back that lost power: as what is left of it.
pub record ComesBack (leg : ℕ) (answer : Answer PowerLeg) (old new : ScriptStripe) : Type 0 where
  pub held : PowerLeg
  pub part : PowerLeg
  pub held_is : slice_get old.stripe.legs leg ≡ Some held
  pub left : IsLeft (of_power held) (of_power part)
  pub returned : Returned leg part answer old new

-- Which legs are lost after a step with its answer: a new leg is not.
abbrev pub lost_after : StripeStep → Answer PowerLeg → List Bool → List Bool
lost_after (Replace leg fill) (Joining blocks) lost = slice_set lost leg false
lost_after step answer lost = lost

-- The stripe had this answer to what the step asks of it.
pub record Asks (m : MirrorLine) (step : StripeStep) (answer : Answer PowerLeg)
    (old new : ScriptStripe) : Type 0 where
  pub asked : MachineStep PowerLeg
  pub is_asked : IsAsked m step asked
  pub answered : StepOf power_legs asked answer old.stripe new.stripe
  pub lost : new.lost ≡ lost_after step answer old.lost

-- The step had this answer: where it asks a leg back that lost power, that comes back as what is
-- left of it.
abbrev pub AnswersBy : Option ℕ → MirrorLine → StripeStep → Answer PowerLeg
    → (old new : ScriptStripe) → Type 0
AnswersBy None m step answer old new = Asks m step answer old new
AnswersBy (Some leg) m step answer old new = ComesBack leg answer old new

abbrev pub Answers : MirrorLine → StripeStep → Answer PowerLeg → (old new : ScriptStripe) → Type 0
Answers m step answer old new = AnswersBy (asked_back step old.lost) m step answer old new

-- How a script begins: its stripe is opened, and no leg lost power.
pub record Begins (m : MirrorLine) (loads : List Load) (master : Option ℕ) (start : ScriptStripe)
    : Type 0 where
  pub opened : IsOpened m loads master start.stripe
  pub lost : start.lost ≡ replicate 8 false
