-- A flush and what comes after it are moves of which the law on flushes and losses speaks.
use Rattle.std.proofs.Common.{◌≡◌, ℕ, IsTrue, List, [], ◌∷◌, ◌++◌, length}
use Rattle.nm_leg.specs.Leg.{IsDurableElsewhere, LegType}
use Rattle.nm_gate.specs.declared.gated_stripe.GatedStripe.{GatedStripe}
use Rattle.nm_gate.specs.Moves as gate
use Rattle.nm_gate.specs.Moves.{AllLeave, NoneStop}
use Rattle.nm_losses.proofs.Outlived.{flushed-survives}
use Rattle.nm_history.specs.declared.transition.Move.{Move}
use Rattle.nm_history.specs.declared.transition.Transition.{Transition}
use Rattle.nm_history.specs.Flushed.{HistoryKeepsFlushed}
use Rattle.nm_history.specs.History.{Follow, end_of}
use Rattle.nm_history.specs.Laws.{All, IsNoOpening}
use Rattle.nm_history.specs.Lost.{lost_after}
use Rattle.nm_history.specs.Restarts.{gate_moves_of, gated_of}
use Rattle.nm_history.proofs.Lists.{legal-end, lost_by}
use Rattle.nm_history.proofs.Covered.{all-lossy}

-- what holds of the moves of two lists
all-first : {L : Type 0} (is : Move L → Type 0) (moves later : List (Transition L)) → All is (moves ++ later) → All is moves
all-first is [] later all = tt
all-first is (t ∷ moves) later all = (all.0, all-first is moves later all.1)

all-second : {L : Type 0} (is : Move L → Type 0) (moves later : List (Transition L)) → All is (moves ++ later) → All is later
all-second is [] later all = all
all-second is (t ∷ moves) later all = all-second is moves later all.1

module _ {L : Type 0} (type : LegType L) where
  follow-first : (lost : ℕ → Type 0) (from : GatedStripe L) (moves later : List (Transition L)) → Follow type lost from (moves ++ later) → Follow type lost from moves
  follow-first lost from [] later follow = tt
  follow-first lost from (t ∷ moves) later follow = (follow.0, follow-first (lost_after t.made lost) t.to moves later follow.1)

  follow-second : (lost : ℕ → Type 0) (from : GatedStripe L) (moves later : List (Transition L)) → Follow type lost from (moves ++ later) → Follow type (lost_by lost moves) (end_of from moves) later
  follow-second lost from [] later follow = follow
  follow-second lost from (t ∷ moves) later follow = follow-second (lost_after t.made lost) t.to moves later follow.1

  -- a move that leaves a block stops nothing
  leaves-goes : (b : ℕ) (moves : List (gate.Move L)) → AllLeave b moves → NoneStop moves
  leaves-goes b [] leaves = tt
  leaves-goes b (gate.Does step answer ∷ moves) leaves = (leaves.0.1, leaves-goes b moves leaves.1)
  leaves-goes b (gate.Looks leg at found ∷ moves) leaves = leaves-goes b moves leaves.1
  leaves-goes b (gate.Saves saved ∷ moves) leaves = leaves-goes b moves leaves.1
  leaves-goes b (gate.Clears cleared ∷ moves) leaves = leaves-goes b moves leaves.1

  pub keeps-flushed : ((leg : L) → length (type.model leg).unsynced ≡ length (type.model leg).contents) → ((leg : L) → IsDurableElsewhere (type.model leg)) → IsTrue type.honest → HistoryKeepsFlushed type
  keeps-flushed each elsewhere is_honest number before moves later from block legal f =
      let e = legal-end type number before from (moves ++ later) legal in
      let mid = end_of from.to moves in
      let new = end_of mid later in
      let one = all-lossy type each elsewhere is_honest e.lost from.to moves (all-first IsNoOpening moves later f.no_opening) (leaves-goes block (gate_moves_of moves) f.leaves) f.superblock f.covered (follow-first e.lost from.to moves later e.follow) in
      let more = all-lossy type each elsewhere is_honest (lost_by e.lost moves) mid later (all-second IsNoOpening moves later f.no_opening) (leaves-goes block (gate_moves_of later) f.leaves_later) one.has one.covered (follow-second e.lost from.to moves later e.follow) in
      record {
        found = λ leg legs there named crash.
            flushed-survives type each elsewhere is_honest one.moves.lossy more.moves.lossy (gated_of from.to) (gated_of mid) (gated_of new) block leg legs
            (f.covered.stands f.superblock) (f.covered.equal f.superblock) f.inside f.free
            one.moves.runs (one.moves.leaves block f.leaves) (λ j inside. one.moves.syncs j (f.flush j inside))
            more.moves.runs (more.moves.leaves block f.leaves_later) there named crash;
      }
