-- The moves of a history are those of which the laws on crashes and flushes speak.
use Rattle.std.proofs.Common.{◌≡◌, ⊎_elim, inl, inr, ℕ, IsTrue, List, [], ◌∷◌, ◌++◌, Option, None, Some, IsSome, refl, sym, ap, ◌∙◌, subst}
use Rattle.nm_leg.specs.Leg.{LegType}
use Rattle.nm_rules.specs.Reopening.{Marks}
use Rattle.nm_rules.specs.State.{StripeState}
use Rattle.nm_stripe.specs.declared.answer.Answer.{Answer}
use Rattle.nm_stripe.specs.declared.answer.Answer.TheVariants.{Joining}
use Rattle.nm_stripe.specs.declared.step.Step.{Step}
use Rattle.nm_stripe.specs.declared.step.Step.TheVariants.{Attach, Return}
use Rattle.nm_gate.specs.declared.gated_stripe.GatedStripe.{GatedStripe}
use Rattle.nm_gate.specs.Durable.{Durable}
use Rattle.nm_gate.specs.Gate.{Allows, IsAllowed}
use Rattle.nm_gate.specs.Moves as gate
use Rattle.nm_gate.specs.Moves.{AllLeave, Gated, GatedRuns, NoneStop, SomeSyncs}
use Rattle.nm_gate.specs.Returning.{suspects}
use Rattle.nm_gate.specs.Survive.{Stands}
use Rattle.nm_gate.proofs.Acknowledged.{move-stands}
use Rattle.nm_losses.specs.Gated as lossy
use Rattle.nm_losses.specs.Gated.{AttachesNone, Goes, LossyGatedRuns}
use Rattle.nm_losses.specs.Moves as losses
use Rattle.nm_losses.specs.Moves.{IsNoAttach, LossyRuns}
use Rattle.nm_history.specs.declared.transition.Move.{Move}
use Rattle.nm_history.specs.declared.transition.Move.TheVariants.{Opens, Does, Looks, Saves, Clears, Loses}
use Rattle.nm_history.specs.declared.transition.Transition.{Transition}
use Rattle.nm_history.specs.History.{Follow, end_of}
use Rattle.nm_history.specs.Laws.{All, IsNoLoss, IsNoOpening}
use Rattle.nm_history.specs.Lost.{ComesBack, Recovers, lost_after}
use Rattle.nm_history.specs.Moves.{Changes, ChangesBounds, ClearsMarks, DoesStep, JoinsMarked, MoveOf}
use Rattle.nm_history.specs.Restarts.{HistoryRestarts, LossyMoves, bounds_of, gate_moves_in, gate_moves_of, gated_of, stripe_moves_in, stripe_moves_of}
use Rattle.nm_history.proofs.Lists.{NoneLost, does-step, legal-whole, none-after}

-- where there is a superblock its bounds allow what is allowed
allowed-some : {L : Type 0} (o : Option Durable) (stripe : StripeState L) (step : Step L) → IsSome o → IsAllowed o stripe step → Allows (bounds_of o) stripe step
allowed-some None stripe step has allowed = cc
allowed-some (Some d) stripe step has allowed = allowed

-- and they change so
pub changed : (so : Durable → Durable → Type 0) (o p : Option Durable) → Changes so o p → so (bounds_of o) (bounds_of p)
changed so None None is = absurd is
changed so None (Some e) is = absurd is
changed so (Some d) None is = absurd is
changed so (Some d) (Some e) is = is

changed-some : (so : Durable → Durable → Type 0) (o p : Option Durable) → Changes so o p → IsSome p
changed-some so None None is = absurd is
changed-some so None (Some e) is = absurd is
changed-some so (Some d) None is = absurd is
changed-some so (Some d) (Some e) is = refl

-- no leg joins as if it had lost nothing
no-attach : {L : Type 0} (durable : Option Durable) (step : Step L) → JoinsMarked durable step → IsNoAttach step
no-attach durable (Attach leg) is = absurd is
no-attach durable step is = tt

-- none of the moves stops the stripe: not the first, and none of the others
pub stop-apart : {L : Type 0} (move : gate.Move L) (moves : List (gate.Move L)) → NoneStop (move ∷ moves) → NoneStop (move ∷ []) × NoneStop moves
stop-apart (gate.Does step answer) moves goes = ((goes.0, tt), goes.1)
stop-apart (gate.Looks leg block found) moves goes = (tt, goes)
stop-apart (gate.Saves saved) moves goes = (tt, goes)
stop-apart (gate.Clears cleared) moves goes = (tt, goes)

-- and the gate gives the same marks
same-marks : (leg : ℕ) (o : Option Durable) → IsSome o → suspects leg o ≡ suspects leg (Some (bounds_of o))
same-marks leg None has = cc
same-marks leg (Some d) has = refl

module _ {L : Type 0} (type : LegType L) where
  recovers-durable : (step : Step L) (answer : Answer L) (old new : GatedStripe L) → Recovers type step answer old new → new.durable ≡ old.durable
  recovers-durable (Return leg marks) (Joining blocks) old new is = is.0.durable
  recovers-durable step answer old new is = absurd is

  -- there is a superblock still
  pub move-some : (lost : ℕ → Type 0) (move : Move L) (old new : GatedStripe L) → IsNoOpening move → IsSome old.durable → MoveOf type lost move old new → IsSome new.durable
  move-some lost Opens old new stays has is = absurd stays
  move-some lost (Does step answer) old new stays has is =
      subst (λ (o : Option Durable). IsSome o) (sym (⊎_elim (λ does. does.durable) (λ recovers. recovers-durable step answer old new recovers.1) is)) has
  move-some lost (Looks leg block found) old new stays has is = subst (λ (o : Option Durable). IsSome o) (sym is.1) has
  move-some lost Saves old new stays has is = changed-some _ old.durable new.durable is.durable
  move-some lost Clears old new stays has is = changed-some _ old.durable new.durable is.durable
  move-some lost (Loses leg) old new stays has is = subst (λ (g : GatedStripe L). IsSome g.durable) (sym is.1) has

  -- a move of the gate in front of others
  goes-front : (move : gate.Move L) (moves : List (gate.Move L)) (old mid last : Gated L) → gate.MoveOf type move old mid → AttachesNone move → LossyMoves type moves mid last → LossyMoves type (move ∷ moves) old last
  goes-front move moves old mid last is none rest = record {
    lossy = Goes move ∷ rest.lossy;
    runs = (mid, (is, none), rest.runs);
    leaves = λ b all. (all.0, rest.leaves b all.1);
    syncs = λ leg some. ⊎_elim (λ now. inl now) (λ later. inr (rest.syncs leg later)) some;
  }

  pub step-is : (step : Step L) (answer : Answer L) (old new : GatedStripe L) → IsSome old.durable → DoesStep type step answer old new → gate.MoveOf type (gate.Does step answer) (gated_of old) (gated_of new)
  step-is step answer old new has does = record { allowed = allowed-some old.durable old.stripe step has does.allowed; asked = does.asked; does = does.does; durable = ap bounds_of does.durable }

  -- a leg that recovers does so behind the gate
  pub recovers-of : (leg : ℕ) (marks : Marks) (old new : GatedStripe L) → IsSome old.durable → (c : ComesBack type leg marks old new) → lossy.RecoversOf type leg c.held c.part marks (gated_of old) (gated_of new)
  recovers-of leg marks old new has c = record {
    there = c.there;
    held_is = c.was;
    crash = c.crash;
    marks_are = c.marked ∙ same-marks leg old.durable has;
    allowed = allowed-some {L = L} old.durable old.stripe (Return leg marks) has c.allowed;
    returns = c.returns;
    durable = ap bounds_of c.durable;
  }

  -- and in front of others
  recovers-front : (step : Step L) (answer : Answer L) (moves : List (gate.Move L)) (old new : GatedStripe L) (last : Gated L) → IsSome old.durable → Recovers type step answer old new → LossyMoves type moves (gated_of new) last
      → LossyMoves type (gate.Does step answer ∷ moves) (gated_of old) last
  recovers-front (Return leg marks) (Joining blocks) moves old new last has is rest =
      let c : ComesBack type leg marks old new = is.0 in
      record {
        lossy = lossy.Recovers leg c.held c.part marks ∷ rest.lossy;
        runs = (gated_of new, recovers-of leg marks old new has c, rest.runs);
        leaves = λ b all. rest.leaves b all.1;
        syncs = λ j some. ⊎_elim (λ now. absurd now) (λ later. rest.syncs j later) some;
      }
  recovers-front step answer moves old new last has is rest = absurd is

  -- a move that clears marks, of honest legs of a stripe that goes on behind the gate
  pub clears-is : IsTrue type.honest → (old new : GatedStripe L) → Stands type old.stripe (bounds_of old.durable) → ChangesBounds (ClearsMarks type old.stripe) old new → gate.MoveOf type (gate.Clears (bounds_of new.durable)) (gated_of old) (gated_of new)
  clears-is is_honest old new s is =
      let clears : ClearsMarks type old.stripe (bounds_of old.durable) (bounds_of new.durable) = changed _ old.durable new.durable is.durable in
      (clears.equal is_honest s, is.stripe, refl)

  pub move-front : (lost : ℕ → Type 0) (move : Move L) (moves : List (gate.Move L)) (old new : GatedStripe L) (last : Gated L) → IsTrue type.honest → Stands type old.stripe (bounds_of old.durable) → IsNoOpening move → IsSome old.durable → MoveOf type lost move old new
      → LossyMoves type moves (gated_of new) last → LossyMoves type (gate_moves_in move (bounds_of new.durable) ++ moves) (gated_of old) last
  move-front lost Opens moves old new last is_honest s stays has is rest = absurd stays
  move-front lost (Does step answer) moves old new last is_honest s stays has is rest =
      ⊎_elim
      (λ does. goes-front (gate.Does step answer) moves (gated_of old) (gated_of new) last (step-is step answer old new has does) (no-attach old.durable step does.marked) rest)
      (λ recovers. recovers-front step answer moves old new last has recovers.1 rest)
      is
  move-front lost (Looks leg block found) moves old new last is_honest s stays has is rest = goes-front (gate.Looks leg block found) moves (gated_of old) (gated_of new) last (is.0, ap bounds_of is.1) tt rest
  move-front lost Saves moves old new last is_honest s stays has is rest =
      goes-front (gate.Saves (bounds_of new.durable)) moves (gated_of old) (gated_of new) last (changed _ old.durable new.durable is.durable, is.stripe, refl) tt rest
  move-front lost Clears moves old new last is_honest s stays has is rest =
      goes-front (gate.Clears (bounds_of new.durable)) moves (gated_of old) (gated_of new) last (clears-is is_honest old new s is) tt rest
  move-front lost (Loses leg) moves old new last is_honest s stays has is rest = subst (λ (g : GatedStripe L). LossyMoves type moves (gated_of g) last) is.1 rest

  -- without losses: the move of the gate that a move is
  record IsOne (move : Move L) (old new : GatedStripe L) : Type 0 where
    one : gate.Move L
    alone : gate_moves_in move (bounds_of new.durable) ≡ one ∷ []
    is : gate.MoveOf type one (gated_of old) (gated_of new)

  is-one : (lost : ℕ → Type 0) (move : Move L) (old new : GatedStripe L) → IsTrue type.honest → Stands type old.stripe (bounds_of old.durable) → NoneLost lost → IsNoLoss move → IsNoOpening move → IsSome old.durable → MoveOf type lost move old new → IsOne move old new
  is-one lost Opens old new is_honest s none whole stays has is = absurd stays
  is-one lost (Does step answer) old new is_honest s none whole stays has is = record { one = gate.Does step answer; alone = refl; is = step-is step answer old new has (does-step type lost step answer old new none is) }
  is-one lost (Looks leg block found) old new is_honest s none whole stays has is = record { one = gate.Looks leg block found; alone = refl; is = (is.0, ap bounds_of is.1) }
  is-one lost Saves old new is_honest s none whole stays has is = record { one = gate.Saves (bounds_of new.durable); alone = refl; is = (changed _ old.durable new.durable is.durable, is.stripe, refl) }
  is-one lost Clears old new is_honest s none whole stays has is = record { one = gate.Clears (bounds_of new.durable); alone = refl; is = clears-is is_honest old new s is }
  is-one lost (Loses leg) old new is_honest s none whole stays has is = absurd whole

  all-gated : (lost : ℕ → Type 0) (from : GatedStripe L) (list : List (Transition L)) → IsTrue type.honest → Stands type from.stripe (bounds_of from.durable) → NoneStop (gate_moves_of list) → NoneLost lost → All IsNoLoss list → All IsNoOpening list → IsSome from.durable
      → Follow type lost from list → GatedRuns type (gate_moves_of list) (gated_of from) (gated_of (end_of from list))
  all-gated lost from [] is_honest s goes none whole stays has follow = refl
  all-gated lost from (t ∷ list) is_honest s goes none whole stays has follow =
      let o = is-one lost t.made from t.to is_honest s none whole.0 stays.0 has follow.0 in
      let all : NoneStop (o.one ∷ gate_moves_of list) = subst (λ (ms : List (gate.Move L)). NoneStop (ms ++ gate_moves_of list)) o.alone goes in
      let stops = stop-apart o.one (gate_moves_of list) all in
      let more = all-gated (lost_after t.made lost) t.to list is_honest (move-stands type is_honest o.one [] (gated_of from) (gated_of t.to) s o.is stops.0) stops.1 (none-after t.made lost none whole.0) whole.1 stays.1
      (move-some lost t.made from t.to stays.0 has follow.0) follow.1 in
      subst (λ (ms : List (gate.Move L)). GatedRuns type (ms ++ gate_moves_of list) (gated_of from) (gated_of (end_of t.to list))) (sym o.alone) (gated_of t.to, o.is, more)

  -- and one of the stripe alone
  move-alone : (lost : ℕ → Type 0) (move : Move L) (old new : GatedStripe L) (moves : List (losses.Move L)) (last : StripeState L) → NoneLost lost → IsNoLoss move → IsNoOpening move → MoveOf type lost move old new → LossyRuns type moves new.stripe last
      → LossyRuns type (stripe_moves_in move ++ moves) old.stripe last
  move-alone lost Opens old new moves last none whole stays is rest = absurd stays
  move-alone lost (Does step answer) old new moves last none whole stays is rest =
      let does = does-step type lost step answer old new none is in
      (new.stripe, record { no_attach = no-attach old.durable step does.marked; asked = does.asked; does = does.does }, rest)
  move-alone lost (Looks leg block found) old new moves last none whole stays is rest = (new.stripe, is.0, rest)
  move-alone lost Saves old new moves last none whole stays is rest = subst (λ (s : StripeState L). LossyRuns type moves s last) is.stripe rest
  move-alone lost Clears old new moves last none whole stays is rest = subst (λ (s : StripeState L). LossyRuns type moves s last) is.stripe rest
  move-alone lost (Loses leg) old new moves last none whole stays is rest = absurd whole

  all-alone : (lost : ℕ → Type 0) (from : GatedStripe L) (list : List (Transition L)) → NoneLost lost → All IsNoLoss list → All IsNoOpening list → Follow type lost from list → LossyRuns type (stripe_moves_of list) from.stripe (end_of from list).stripe
  all-alone lost from [] none whole stays follow = refl
  all-alone lost from (t ∷ list) none whole stays follow =
      move-alone lost t.made from t.to (stripe_moves_of list) (end_of t.to list).stripe none whole.0 stays.0 follow.0
      (all-alone (lost_after t.made lost) t.to list (none-after t.made lost none whole.0) whole.1 stays.1 follow.1)

  pub history-restarts : HistoryRestarts type
  history-restarts number before list from legal whole stays =
      let w = legal-whole type number before from list legal whole in
      record {
        gated = λ is_honest has s goes. all-gated w.lost from.to list is_honest s goes w.none w.whole stays has w.follow;
        alone = all-alone w.lost from.to list w.none w.whole stays w.follow;
      }
