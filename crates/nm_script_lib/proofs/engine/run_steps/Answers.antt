-- The steps so far are a prefix of all; each further one adds its line.
use Rattle.std.proofs.Common.{◌≡◌, ◌+◌, ◌++◌, ◌∷◌, [], get_or, take, drop, sym, ap, ◌∙◌, take-append-drop, arith}
use Rattle.std.proofs.lemmas.List.{take_more}
use Rattle.nm_script_lib.specs.declared.step.Step.{Step}
use Rattle.nm_script_lib.specs.declared.step.Step.TheVariants.{Ask}
use Rattle.nm_script_lib.specs.declared.step.StripeStep.TheVariants.{Begin}
use Rattle.nm_script_lib.specs.MemStripe.{IsInside}
use Rattle.nm_script_lib.proofs.Inside.{at_place}
use Rattle.nm_script_lib.proofs.RunLaws.{on_err, stopped_before, stopped_after, steps_more}
use Rattle.nm_script_lib.proofs.engine.run_steps.Goals as goal

-- what stands past the end of a list of steps
abbrev past : Step
past = Ask (Begin 0 0)

pub do_step-requires-clause-inside : goal.do_step-requires-clause-inside
do_step-requires-clause-inside g c =
    let i = c.loop-asked.asked-index in
    let steps = c.args.steps.now in
    at_place (IsInside c.args.mirror.now) steps i past (omega arith) c.requires.inside

pub returns-in_err-do_step-clause-err : goal.returns-in_err-do_step-clause-err
returns-in_err-do_step-clause-err g c =
    let i = c.loop-asked.asked-index in
    let steps = c.args.steps.now in
    on_err _ _ (stopped_before c.args.mirror.now (take i steps) (drop i steps) steps _ _ _ _ _ _
    (sym (take-append-drop i steps)) c.loop-asked.invariant.runs)

pub returns-in_err-flush_if_full-clause-err : goal.returns-in_err-flush_if_full-clause-err
returns-in_err-flush_if_full-clause-err g c =
    let i = c.loop-asked.asked-index in
    let steps = c.args.steps.now in
    let more : take (i + 1) steps ≡
    take i steps ++ get_or steps i past ∷ [] = take_more steps i past (omega arith) in
    let split : steps ≡ (take i steps ++ get_or steps i past ∷ []) ++ drop (i + 1) steps =
    sym (take-append-drop (i + 1) steps) ∙ ap (λ r. r ++ drop (i + 1) steps) more in
    on_err _ _ (stopped_after c.args.mirror.now (take i steps) (drop (i + 1) steps) steps _ _ _
    (get_or steps i past) _ _ _ _ _ _
    split c.loop-asked.invariant.runs c.in_ok-do_step.ensures.ok
    c.in_err-flush_if_full.ensures.err)

pub loop-asked-preserved : goal.loop-asked-preserved
loop-asked-preserved g c =
    let i = c.loop-asked.asked-index in
    let steps = c.args.steps.now in
    let more : take (i + 1) steps ≡
    take i steps ++ get_or steps i past ∷ [] = take_more steps i past (omega arith) in
    record {
      shape = c.do_step.ensures.shape;
      runs = rw more (steps_more c.args.mirror.now (take i steps) _ _ _ (get_or steps i past)
          _ _ _ _ _ _ _
          c.loop-asked.invariant.runs c.in_ok-do_step.ensures.ok
          c.in_ok-flush_if_full.ensures.ok);
    }
