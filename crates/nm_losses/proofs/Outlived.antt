-- Moves behind the gate with losses among them: what was flushed stays on each leg that may be called in
-- sync, as none of these comes back.
use Rattle.std.proofs.Common.{◌≡◌, ⊎_elim, inl, ℕ, ◌<◌, length, IsTrue, List, [], ◌∷◌, None, refl, ◌∙◌, sym, subst, slice_get}
use Rattle.nm_fanout.specs.Records.{busy_on}
use Rattle.nm_leg.specs.Leg.{IsDurableElsewhere, LegType}
use Rattle.nm_rules.specs.Array.{contents_of, stripe_array}
use Rattle.nm_gate.specs.Moves as gate
use Rattle.nm_gate.specs.Moves.{AllLeave, Clears, Does as GateDoes, Gated, Leaves, Looks as GateLooks, NoneStop, Saves, SomeSyncs}
use Rattle.nm_gate.specs.Survive.{EqualOutside, Stands}
use Rattle.nm_gate.proofs.Guarded.{Guards}
use Rattle.nm_gate.proofs.Runs.{Behind, runs-behind, runs-make}
use Rattle.nm_gate.proofs.Unmarked.{unmarked-equal}
use Rattle.nm_losses.specs.Gated.{GatedMove, Goes, LossyGatedRuns, Recovers}
use Rattle.nm_losses.specs.Survive.{FlushedSurvivesLosses, gate_moves_of}
use Rattle.nm_losses.proofs.Gated.{recovered-behind, recovered-equal}

-- a move that leaves the block stops nothing
stops-none : {L : Type 0} (b : ℕ) (move : gate.Move L) → Leaves b move → NoneStop (move ∷ [])
stops-none b (GateDoes step answer) leaves = (leaves.1, tt)
stops-none b (GateLooks leg block found) leaves = tt
stops-none b (Saves saved) leaves = tt
stops-none b (Clears cleared) leaves = tt

module _ {L : Type 0} (type : LegType L) (each : (leg : L) → length (type.model leg).unsynced ≡ length (type.model leg).contents) (elsewhere : (leg : L) → IsDurableElsewhere (type.model leg)) (is_honest : IsTrue type.honest) (b : ℕ) where
  -- what is known after moves
  record After (old new : Gated L) : Type 0 where
    behind : Behind type b old.stripe old.durable new.stripe new.durable
    equal : EqualOutside type new.stripe new.durable

  in-turn : (old mid new : Gated L) → After old mid → After mid new → After old new
  in-turn old mid new one more = record {
    behind = record {
      stands = more.behind.stands;
      inside = more.behind.inside;
      free = more.behind.free;
      count = more.behind.count ∙ one.behind.count;
      array = more.behind.array ∙ one.behind.array;
      guards = λ j guards. more.behind.guards j (one.behind.guards j guards);
    };
    equal = more.equal;
  }

  -- after one move of the gate
  one-after : (move : gate.Move L) (old new : Gated L) → Stands type old.stripe old.durable → EqualOutside type old.stripe old.durable → b < old.stripe.place.blocks → busy_on b old.stripe.records ≡ None → Leaves b move → gate.MoveOf type move old new → After old new
  one-after move old new s outside inside free leaves is = record {
    behind = runs-behind type b is_honest (move ∷ []) old new s inside free (leaves, tt) (new, is, refl);
    equal = unmarked-equal type is_honest (move ∷ []) old new s outside (new, is, refl) (stops-none b move leaves);
  }

  runs-after : (moves : List (GatedMove L)) (old new : Gated L) → Stands type old.stripe old.durable → EqualOutside type old.stripe old.durable → b < old.stripe.place.blocks → busy_on b old.stripe.records ≡ None → AllLeave b (gate_moves_of moves) → LossyGatedRuns type moves old new → After old new
  runs-after [] old new s outside inside free leaves runs =
      subst (λ (x : Gated L). After old x) (sym runs)
      (record { behind = record { stands = s; inside = inside; free = free; count = refl; array = refl; guards = λ j guards. guards }; equal = outside })
  runs-after (Goes move ∷ moves) old new s outside inside free leaves runs =
      let mid = runs.0 in
      let one = one-after move old mid s outside inside free leaves.0 runs.1.0 in
      in-turn old mid new one (runs-after moves mid new one.behind.stands one.equal one.behind.inside one.behind.free leaves.1 runs.2)
  runs-after (Recovers leg held part marks ∷ moves) old new s outside inside free leaves runs =
      let mid = runs.0 in
      let one : After old mid = record { behind = recovered-behind type each elsewhere leg held part marks old mid s outside runs.1 b inside free; equal = recovered-equal type each elsewhere leg held part marks old mid s outside runs.1 } in
      in-turn old mid new one (runs-after moves mid new one.behind.stands one.equal one.behind.inside one.behind.free leaves runs.2)

  -- a sync among the gate's moves makes it so
  runs-made : (j : ℕ) (moves : List (GatedMove L)) (old new : Gated L) → Stands type old.stripe old.durable → EqualOutside type old.stripe old.durable → b < old.stripe.place.blocks → busy_on b old.stripe.records ≡ None → AllLeave b (gate_moves_of moves) → SomeSyncs j (gate_moves_of moves) → LossyGatedRuns type moves old new → Guards type new.stripe new.durable j b
  runs-made j [] old new s outside inside free leaves synced runs = absurd synced
  runs-made j (Goes move ∷ moves) old new s outside inside free leaves synced runs =
      let mid = runs.0 in
      let one = one-after move old mid s outside inside free leaves.0 runs.1.0 in
      ⊎_elim
      (λ now. (runs-after moves mid new one.behind.stands one.equal one.behind.inside one.behind.free leaves.1 runs.2).behind.guards j
      (runs-make type b is_honest (move ∷ []) j old mid s inside free (leaves.0, tt) (inl now) (mid, runs.1.0, refl)))
      (λ later. runs-made j moves mid new one.behind.stands one.equal one.behind.inside one.behind.free leaves.1 later runs.2)
      synced
  runs-made j (Recovers leg held part marks ∷ moves) old new s outside inside free leaves synced runs =
      let mid = runs.0 in
      let behind = recovered-behind type each elsewhere leg held part marks old mid s outside runs.1 b inside free in
      runs-made j moves mid new behind.stands (recovered-equal type each elsewhere leg held part marks old mid s outside runs.1) behind.inside behind.free leaves synced runs.2

-- what was flushed is there
pub flushed-survives : {L : Type 0} (type : LegType L) → ((leg : L) → length (type.model leg).unsynced ≡ length (type.model leg).contents) → ((leg : L) → IsDurableElsewhere (type.model leg)) → IsTrue type.honest → FlushedSurvivesLosses type
flushed-survives type each elsewhere is_honest moves later old mid new b leg legs s outside inside free runs leaves flush more leaves_more there named crash =
    let first = runs-after type each elsewhere is_honest b moves old mid s outside inside free leaves runs in
    let last = runs-after type each elsewhere is_honest b later mid new first.behind.stands first.equal first.behind.inside first.behind.free leaves_more more in
    let made = runs-made type each elsewhere is_honest b leg moves old mid s outside inside free leaves (flush leg there) runs in
    let held = last.behind.guards leg made (inl named) in
    let contents : slice_get (contents_of type.model new.stripe.legs leg) b ≡ slice_get (stripe_array type.model mid.stripe) b = held.holds ∙ last.behind.array in
    ⊎_elim
    (λ durable. durable ∙ held.durable ∙ contents)
    (λ kept. kept ∙ contents)
    crash
