-- The operations of a history act on one array: each step is explained, and no other move shows.
use Rattle.std.proofs.Common.{◌≡◌, ℕ, IsTrue, List, [], ◌∷◌, ◌++◌, sym, subst}
use Rattle.nm_leg.specs.Leg.{LegType}
use Rattle.nm_rules.specs.Acts.{Acts}
use Rattle.nm_rules.specs.Invariant.{Keeps}
use Rattle.nm_rules.specs.State.{StripeState}
use Rattle.nm_rules.proofs.ActsLemmas.{acts-none}
use Rattle.nm_rules.proofs.SoundLemmas.{keeps-sound}
use Rattle.nm_stripe.specs.declared.answer.Answer.{Answer}
use Rattle.nm_stripe.specs.declared.step.Step.{Step}
use Rattle.nm_stripe.specs.Run.{ActOnOneArray, NoneHalted}
use Rattle.nm_stripe.proofs.RunLemmas.{none-acts}
use Rattle.nm_gate.specs.declared.gated_stripe.GatedStripe.{GatedStripe}
use Rattle.nm_gate.proofs.Looked.{looked-acts}
use Rattle.nm_losses.proofs.Explained.{step-explained}
use Rattle.nm_losses.proofs.Lists.{act-front, none-first, unseen-front}
use Rattle.nm_history.specs.declared.transition.Move.{Move}
use Rattle.nm_history.specs.declared.transition.Move.TheVariants.{Opens, Does, Looks, Saves, Clears, Loses}
use Rattle.nm_history.specs.declared.transition.Transition.{Transition}
use Rattle.nm_history.specs.History.{Follow, end_of}
use Rattle.nm_history.specs.Laws.{All, HistoryActs, IsNoLoss, IsNoOpening, answers_in, answers_of, steps_in, steps_of}
use Rattle.nm_history.specs.Lost.{lost_after}
use Rattle.nm_history.specs.Moves.{MoveOf}
use Rattle.nm_history.proofs.Lists.{NoneLost, all-keep, does-step, legal-whole, move-keeps, none-after}

module _ {L : Type 0} (type : LegType L) (is_honest : IsTrue type.honest) where
  -- nothing of the stripe changes
  same-acts : (old new : StripeState L) → Keeps type old → new ≡ old → Acts type.model old new []
  same-acts old new k is = subst (λ (s : StripeState L). Acts type.model old s []) (sym is) (acts-none type.model old k.numbers.most)

  -- a move in front of others
  move-acts : (lost : ℕ → Type 0) (move : Move L) (old mid : GatedStripe L) (new : StripeState L) (steps : List (Step L)) (answers : List (Answer L)) → Keeps type old.stripe → NoneLost lost → IsNoLoss move → IsNoOpening move → MoveOf type lost move old mid
      → NoneHalted (answers_in move ++ answers) → (NoneHalted answers → ActOnOneArray type.model steps answers mid.stripe new) → ActOnOneArray type.model (steps_in move ++ steps) (answers_in move ++ answers) old.stripe new
  move-acts lost Opens old mid new steps answers k none whole stays is goes rest = absurd stays
  move-acts lost (Does step answer) old mid new steps answers k none whole stays is goes rest =
      let first = none-first answer answers goes in
      let does = does-step type lost step answer old mid none is in
      act-front type.model old.stripe mid.stripe new step answer steps answers (step-explained type old.stripe mid.stripe k is_honest step answer does.asked first.0 does.does) (rest first.1)
  move-acts lost (Looks leg block found) old mid new steps answers k none whole stays is goes rest =
      unseen-front type.model old.stripe mid.stripe new steps answers (looked-acts type leg block found old.stripe mid.stripe is.0 is_honest k) (rest goes)
  move-acts lost Saves old mid new steps answers k none whole stays is goes rest = unseen-front type.model old.stripe mid.stripe new steps answers (same-acts old.stripe mid.stripe k is.stripe) (rest goes)
  move-acts lost Clears old mid new steps answers k none whole stays is goes rest = unseen-front type.model old.stripe mid.stripe new steps answers (same-acts old.stripe mid.stripe k is.stripe) (rest goes)
  move-acts lost (Loses leg) old mid new steps answers k none whole stays is goes rest = absurd whole

  all-act : (lost : ℕ → Type 0) (from : GatedStripe L) (list : List (Transition L)) → Keeps type from.stripe → NoneLost lost → All IsNoLoss list → All IsNoOpening list → Follow type lost from list → NoneHalted (answers_of list)
      → ActOnOneArray type.model (steps_of list) (answers_of list) from.stripe (end_of from list).stripe
  all-act lost from [] k none whole stays follow goes = none-acts type.model from.stripe k.numbers.most
  all-act lost from (t ∷ list) k none whole stays follow goes =
      move-acts lost t.made from t.to (end_of t.to list).stripe (steps_of list) (answers_of list) k none whole.0 stays.0 follow.0 goes
      (λ more. all-act (lost_after t.made lost) t.to list (move-keeps type lost t.made from t.to k none whole.0 follow.0) (none-after t.made lost none whole.0) whole.1 stays.1 follow.1 more)

pub history-acts : {L : Type 0} (type : LegType L) → IsTrue type.honest → HistoryActs type
history-acts type is_honest number before list from legal whole stays =
    let w = legal-whole type number before from list legal whole in
    record {
      sound = keeps-sound type (end_of from.to list).stripe (all-keep type w.lost from.to list w.keeps w.none w.whole w.follow);
      acts = λ goes. all-act type is_honest w.lost from.to list w.keeps w.none w.whole stays w.follow goes;
    }
