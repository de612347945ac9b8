-- Legs lose power, and what they may lack is marked: so a stripe keeps what every stripe keeps when
-- they come back, and its operations act on one array.
use Rattle.std.proofs.Common.{◌≡◌, ⊎_elim, ℕ, IsTrue, List, [], ◌∷◌, ◌++◌, Option, None, Some, IsSome, is_some, length, refl, sym, ap, ◌∙◌, subst}
use Rattle.nm_leg.specs.Leg.{IsDurableElsewhere, LegType}
use Rattle.nm_rules.specs.Acts.{Acts}
use Rattle.nm_rules.specs.Invariant.{Keeps}
use Rattle.nm_rules.specs.Losing.{CoversLoss, LosesPower, ReturnsLost, with_part}
use Rattle.nm_rules.specs.Reopening.{Marks}
use Rattle.nm_rules.specs.State.{StripeState}
use Rattle.nm_rules.proofs.ActsLemmas.{acts-none}
use Rattle.nm_rules.proofs.AttachLemmas.{may_attach}
use Rattle.nm_rules.proofs.LossLemmas.{lost-acts, lost-keeps}
use Rattle.nm_rules.proofs.SoundLemmas.{keeps-sound}
use Rattle.nm_stripe.specs.declared.answer.Answer.{Answer}
use Rattle.nm_stripe.specs.declared.answer.Answer.TheVariants.{Joining}
use Rattle.nm_stripe.specs.declared.step.Step.{Step}
use Rattle.nm_stripe.specs.declared.step.Step.TheVariants.{Return}
use Rattle.nm_stripe.specs.Run.{ActOnOneArray, NoneHalted}
use Rattle.nm_stripe.proofs.RunLemmas.{none-acts}
use Rattle.nm_stripe.proofs.StepLemmas.{step-keeps}
use Rattle.nm_gate.specs.declared.gated_stripe.GatedStripe.{GatedStripe}
use Rattle.nm_gate.specs.Durable.{Durable}
use Rattle.nm_gate.specs.Moves as gate
use Rattle.nm_gate.specs.Moves.{NoneStop}
use Rattle.nm_gate.specs.Returning.{suspects}
use Rattle.nm_gate.proofs.Acknowledged.{move-stands}
use Rattle.nm_gate.proofs.Looked.{looked-acts, looked-keeps}
use Rattle.nm_gate.proofs.Unmarked.{unmarked-equal}
use Rattle.nm_losses.proofs.Crashed.{power-takes}
use Rattle.nm_losses.proofs.Explained.{step-explained}
use Rattle.nm_losses.proofs.Gated.{everywhere-covers, recovered-equal, recovered-stands, returns-lost}
use Rattle.nm_losses.proofs.Lists.{act-front, none-first, unseen-front}
use Rattle.nm_history.specs.declared.transition.Move.{Move}
use Rattle.nm_history.specs.declared.transition.Move.TheVariants.{Opens, Does, Looks, Saves, Clears, Loses}
use Rattle.nm_history.specs.declared.transition.Transition.{Transition}
use Rattle.nm_history.specs.History.{Follow, end_of}
use Rattle.nm_history.specs.Laws.{All, IsNoOpening, answers_in, answers_of, steps_in, steps_of}
use Rattle.nm_history.specs.Lost.{ComesBack, Recovers, lost_after}
use Rattle.nm_history.specs.LossyActs.{ActsCovered, HistoryActsInLosses, HistoryOfLosses, IsCovered}
use Rattle.nm_history.specs.Moves.{Changes, DoesStep, MoveOf}
use Rattle.nm_history.specs.Restarts.{LossyMoves, bounds_of, gate_moves_in, gate_moves_of, gated_of}
use Rattle.nm_history.proofs.Lists.{legal-end}
use Rattle.nm_history.proofs.Restarting.{changed, clears-is, move-some, recovers-of, step-is}
use Rattle.nm_history.proofs.Restarting.{move-front as gate-front}

-- bounds that change were there before
changed-was : (so : Durable → Durable → Type 0) (o p : Option Durable) → Changes so o p → IsSome o
changed-was so None None is = absurd is
changed-was so None (Some e) is = absurd is
changed-was so (Some d) None is = absurd is
changed-was so (Some d) (Some e) is = refl

module _ {L : Type 0} (type : LegType L) (each : (leg : L) → length (type.model leg).unsynced ≡ length (type.model leg).contents) (elsewhere : (leg : L) → IsDurableElsewhere (type.model leg)) (is_honest : IsTrue type.honest) where
  -- what a leg lost that comes back is covered
  module _ (leg : ℕ) (marks : Marks) (old new : GatedStripe L) (r : IsCovered type old) (c : ComesBack type leg marks old new) where
    loses : LosesPower type.model old.stripe leg c.part
    loses = power-takes type.model each elsewhere old.stripe leg c.held c.part c.was (may_attach (with_part old.stripe leg c.part) leg c.returns.no_cause).out c.crash

    comes-lost : ReturnsLost type.model old.stripe new.stripe leg c.part marks
    comes-lost = by_durable old.durable refl
      where
        by_durable : (o : Option Durable) → old.durable ≡ o → ReturnsLost type.model old.stripe new.stripe leg c.part marks
        by_durable None none = record {
          there = c.there;
          loses = loses;
          covers = subst (λ (m : Marks). CoversLoss type.model old.stripe leg c.part m) (sym (c.marked ∙ ap (λ (x : Option Durable). suspects leg x) none)) (everywhere-covers type.model old.stripe leg c.part r.keeps.legs c.there loses.long);
          returns = c.returns;
        }
        by_durable (Some d) some =
            let has : IsSome old.durable = ap (λ (x : Option Durable). is_some x) some in
            returns-lost type each elsewhere leg c.held c.part marks (gated_of old) (gated_of new) (r.stands has) (r.equal has) (recovers-of type leg marks old new has c)

    comes-acts : Acts type.model old.stripe new.stripe []
    comes-acts = lost-acts type old.stripe new.stripe leg c.part marks r.keeps comes-lost

    was-some : IsSome new.durable → IsSome old.durable
    was-some has = subst (λ (o : Option Durable). IsSome o) c.durable has

    comes-covered : IsCovered type new
    comes-covered = record {
      keeps = lost-keeps type old.stripe new.stripe leg c.part marks r.keeps comes-lost;
      stands = λ has.
          let h = was-some has in
          recovered-stands type each elsewhere leg c.held c.part marks (gated_of old) (gated_of new) (r.stands h) (r.equal h) (recovers-of type leg marks old new h c);
      equal = λ has.
          let h = was-some has in
          recovered-equal type each elsewhere leg c.held c.part marks (gated_of old) (gated_of new) (r.stands h) (r.equal h) (recovers-of type leg marks old new h c);
    }

  -- so is what it may lose after a move of the gate
  gate-covered : (move : gate.Move L) (old new : GatedStripe L) → IsCovered type old → Keeps type new.stripe → (IsSome new.durable → IsSome old.durable) → NoneStop (move ∷ []) → (IsSome old.durable → gate.MoveOf type move (gated_of old) (gated_of new)) → IsCovered type new
  gate-covered move old new r keeps was goes is = record {
    keeps = keeps;
    stands = λ has. let h = was has in move-stands type is_honest move [] (gated_of old) (gated_of new) (r.stands h) (is h) goes;
    equal = λ has. let h = was has in unmarked-equal type is_honest (move ∷ []) (gated_of old) (gated_of new) (r.stands h) (r.equal h) (gated_of new, is h, refl) goes;
  }

  -- a move in front of others
  record Front (move : Move L) (old mid : GatedStripe L) (new : StripeState L) (steps : List (Step L)) (answers : List (Answer L)) : Type 0 where
    covered : IsCovered type mid
    acts : ActOnOneArray type.model steps answers mid.stripe new → ActOnOneArray type.model (steps_in move ++ steps) (answers_in move ++ answers) old.stripe new

  same-acts : (old new : StripeState L) → Keeps type old → new ≡ old → Acts type.model old new []
  same-acts old new k is = subst (λ (s : StripeState L). Acts type.model old s []) (sym is) (acts-none type.model old k.numbers.most)

  does-front : (step : Step L) (answer : Answer L) (old mid : GatedStripe L) (new : StripeState L) (steps : List (Step L)) (answers : List (Answer L)) → IsCovered type old → NoneHalted (answer ∷ []) → DoesStep type step answer old mid → Front (Does step answer) old mid new steps answers
  does-front step answer old mid new steps answers r goes does = record {
    covered = gate-covered (gate.Does step answer) old mid r (step-keeps type step answer old.stripe mid.stripe r.keeps does.asked does.does)
        (λ has. subst (λ (o : Option Durable). IsSome o) does.durable has) (goes, tt) (λ has. step-is type step answer old mid has does);
    acts = λ rest. act-front type.model old.stripe mid.stripe new step answer steps answers (step-explained type old.stripe mid.stripe r.keeps is_honest step answer does.asked goes does.does) rest;
  }

  recovers-front : (step : Step L) (answer : Answer L) (old mid : GatedStripe L) (new : StripeState L) (steps : List (Step L)) (answers : List (Answer L)) → IsCovered type old → Recovers type step answer old mid → Front (Does step answer) old mid new steps answers
  recovers-front (Return leg marks) (Joining blocks) old mid new steps answers r is = record {
    covered = comes-covered leg marks old mid r is.0;
    acts = λ rest. act-front type.model old.stripe mid.stripe new (Return leg marks) (Joining blocks) steps answers (record { events = []; marked = refl; acts = comes-acts leg marks old mid r is.0 }) rest;
  }
  recovers-front step answer old mid new steps answers r is = absurd is

  quiet-front : (move : gate.Move L) (old mid : GatedStripe L) (new : StripeState L) (steps : List (Step L)) (answers : List (Answer L)) → IsCovered type old → Keeps type mid.stripe → (IsSome mid.durable → IsSome old.durable) → NoneStop (move ∷ []) → (IsSome old.durable → gate.MoveOf type move (gated_of old) (gated_of mid))
      → Acts type.model old.stripe mid.stripe [] → (made : Move L) → steps_in made ≡ [] → answers_in made ≡ [] → Front made old mid new steps answers
  quiet-front move old mid new steps answers r keeps was goes is none made no_steps no_answers = record {
    covered = gate-covered move old mid r keeps was goes is;
    acts = λ rest.
        subst (λ (ss : List (Step L)). ActOnOneArray type.model (ss ++ steps) (answers_in made ++ answers) old.stripe new) (sym no_steps)
        (subst (λ (has : List (Answer L)). ActOnOneArray type.model steps (has ++ answers) old.stripe new) (sym no_answers)
        (unseen-front type.model old.stripe mid.stripe new steps answers none rest));
  }

  move-front : (lost : ℕ → Type 0) (move : Move L) (old mid : GatedStripe L) (new : StripeState L) (steps : List (Step L)) (answers : List (Answer L)) → IsCovered type old → IsNoOpening move → NoneHalted (answers_in move ++ answers) → MoveOf type lost move old mid
      → Front move old mid new steps answers × NoneHalted answers
  move-front lost Opens old mid new steps answers r stays goes is = absurd stays
  move-front lost (Does step answer) old mid new steps answers r stays goes is =
      let first = none-first answer answers goes in (
        ⊎_elim (λ does. does-front step answer old mid new steps answers r first.0 does) (λ recovers. recovers-front step answer old mid new steps answers r recovers.1) is,
        first.1,
      )
  move-front lost (Looks leg block found) old mid new steps answers r stays goes is = (
    quiet-front (gate.Looks leg block found) old mid new steps answers r (looked-keeps type leg block found old.stripe mid.stripe is.0 r.keeps) (λ has. subst (λ (o : Option Durable). IsSome o) is.1 has) tt (λ has. (is.0, ap bounds_of is.1))
        (looked-acts type leg block found old.stripe mid.stripe is.0 is_honest r.keeps) (Looks leg block found) refl refl,
    goes,
  )
  move-front lost Saves old mid new steps answers r stays goes is = (
    quiet-front (gate.Saves (bounds_of mid.durable)) old mid new steps answers r (subst (λ (s : StripeState L). Keeps type s) (sym is.stripe) r.keeps) (λ has. changed-was _ old.durable mid.durable is.durable) tt
        (λ has. (changed _ old.durable mid.durable is.durable, is.stripe, refl)) (same-acts old.stripe mid.stripe r.keeps is.stripe) Saves refl refl,
    goes,
  )
  move-front lost Clears old mid new steps answers r stays goes is = (
    quiet-front (gate.Clears (bounds_of mid.durable)) old mid new steps answers r (subst (λ (s : StripeState L). Keeps type s) (sym is.stripe) r.keeps) (λ has. changed-was _ old.durable mid.durable is.durable) tt
        (λ has. clears-is type is_honest old mid (r.stands has) is) (same-acts old.stripe mid.stripe r.keeps is.stripe) Clears refl refl,
    goes,
  )
  move-front lost (Loses leg) old mid new steps answers r stays goes is = (
    record {
      covered = subst (λ (g : GatedStripe L). IsCovered type g) (sym is.1) r;
      acts = λ rest. subst (λ (g : GatedStripe L). ActOnOneArray type.model steps answers g.stripe new) is.1 rest;
    },
    goes,
  )

  all-act : (lost : ℕ → Type 0) (from : GatedStripe L) (list : List (Transition L)) → IsCovered type from → All IsNoOpening list → NoneHalted (answers_of list) → Follow type lost from list → ActsCovered type from list
  all-act lost from [] r stays goes follow = record { covered = r; sound = keeps-sound type from.stripe r.keeps; acts = none-acts type.model from.stripe r.keeps.numbers.most }
  all-act lost from (t ∷ list) r stays goes follow =
      let first = move-front lost t.made from t.to (end_of t.to list).stripe (steps_of list) (answers_of list) r stays.0 goes follow.0 in
      let rest = all-act (lost_after t.made lost) t.to list first.0.covered stays.1 first.1 follow.1 in
      record { covered = rest.covered; sound = rest.sound; acts = first.0.acts rest.acts }

  pub history-acts-in-losses : HistoryActsInLosses type
  history-acts-in-losses number before list from legal stays goes r =
      let e = legal-end type number before from list legal in
      all-act e.lost from.to list r stays goes e.follow

  -- what stops none does not halt
  stop-first : (move : Move L) (d : Durable) (moves : List (gate.Move L)) → NoneStop (gate_moves_in move d ++ moves) → NoneHalted (answers_in move ++ []) × NoneStop moves
  stop-first Opens d moves goes = (tt, goes)
  stop-first (Does step answer) d moves goes = goes
  stop-first (Looks leg block found) d moves goes = (tt, goes)
  stop-first Saves d moves goes = (tt, goes)
  stop-first Clears d moves goes = (tt, goes)
  stop-first (Loses leg) d moves goes = (tt, goes)

  -- moves of which the laws on losses speak, and the stripe in which they end
  pub record LossyCovered (from : GatedStripe L) (list : List (Transition L)) : Type 0 where
    pub moves : LossyMoves type (gate_moves_of list) (gated_of from) (gated_of (end_of from list))
    pub has : IsSome (end_of from list).durable
    pub covered : IsCovered type (end_of from list)

  pub all-lossy : (lost : ℕ → Type 0) (from : GatedStripe L) (list : List (Transition L)) → All IsNoOpening list → NoneStop (gate_moves_of list) → IsSome from.durable → IsCovered type from → Follow type lost from list → LossyCovered from list
  all-lossy lost from [] stays goes has r follow = record { moves = record { lossy = []; runs = refl; leaves = λ b all. tt; syncs = λ leg some. some }; has = has; covered = r }
  all-lossy lost from (t ∷ list) stays goes has r follow =
      let stops = stop-first t.made (bounds_of t.to.durable) (gate_moves_of list) goes in
      let first = move-front lost t.made from t.to t.to.stripe [] [] r stays.0 stops.0 follow.0 in
      let rest = all-lossy (lost_after t.made lost) t.to list stays.1 stops.1 (move-some type lost t.made from t.to stays.0 has follow.0) first.0.covered follow.1 in
      record {
        moves = gate-front type lost t.made (gate_moves_of list) from t.to (gated_of (end_of t.to list)) is_honest (r.stands has) stays.0 has follow.0 rest.moves;
        has = rest.has;
        covered = rest.covered;
      }

  pub history-of-losses : HistoryOfLosses type
  history-of-losses number before list from legal stays goes has r =
      let e = legal-end type number before from list legal in
      (all-lossy e.lost from.to list stays goes has r e.follow).moves
