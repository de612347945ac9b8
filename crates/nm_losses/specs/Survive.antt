-- What was flushed outlives losses of power behind the gate, as it outlives crashes of the server.
use Rattle.std.specs.Prelude.{◌≡◌, ℕ, ◌<◌, true, List, [], ◌∷◌, None, length, slice_get}
use Rattle.nm_fanout.specs.Records.{busy_on}
use Rattle.nm_leg.specs.Leg.{LegType}
use Rattle.nm_rules.specs.Array.{contents_of, stripe_array}
use Rattle.nm_gate.specs.Durable.{is_named}
use Rattle.nm_gate.specs.Moves as gate
use Rattle.nm_gate.specs.Moves.{AllLeave, Gated, IsGatedFlush}
use Rattle.nm_gate.specs.Survive.{EqualOutside, IsCrash, Stands}
use Rattle.nm_losses.specs.Gated.{GatedMove, Goes, LossyGatedRuns, Recovers}

-- the gate's moves among these
abbrev pub gate_moves_of : {L : Type 0} → List (GatedMove L) → List (gate.Move L)
gate_moves_of [] = []
gate_moves_of (Goes move ∷ moves) = move ∷ gate_moves_of moves
gate_moves_of (Recovers leg held part marks ∷ moves) = gate_moves_of moves

-- After a flush and any moves since that begin no write of the block, losses among them, each leg
-- that the superblock may call in sync holds, durably, what the array held there at the flush.
abbrev pub FlushedSurvivesLosses : {L : Type 0} → LegType L → Type 0
FlushedSurvivesLosses {L} type =
    (moves later : List (GatedMove L)) (old mid new : Gated L) (block leg : ℕ) (legs : List L)
    → Stands type old.stripe old.durable → EqualOutside type old.stripe old.durable
    → block < old.stripe.place.blocks → busy_on block old.stripe.records ≡ None
    → LossyGatedRuns type moves old mid → AllLeave block (gate_moves_of moves)
    → IsGatedFlush (length old.stripe.legs) (gate_moves_of moves)
    → LossyGatedRuns type later mid new → AllLeave block (gate_moves_of later)
    → leg < length old.stripe.legs → is_named leg new.durable ≡ true
    → IsCrash type.model new.stripe.legs legs leg block
    → slice_get (contents_of type.model legs leg) block
    ≡ slice_get (stripe_array type.model mid.stripe) block
