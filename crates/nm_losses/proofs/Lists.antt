-- Moves one after the other: what a stripe keeps, its array, and what is durable of it.
use Rattle.std.proofs.Common.{◌≡◌, ⊎_elim, ℕ, ◌<◌, true, false, IsTrue, List, [], ◌∷◌, Option, None, Some, length, refl, sym, ap, ◌∙◌, subst, arith, slice_get}
use Rattle.nm_fanout.specs.declared.write_record.Record.{Record}
use Rattle.nm_fanout.specs.Records.{busy_on}
use Rattle.nm_leg.specs.Leg.{Leg, LegType}
use Rattle.nm_rules.specs.Acts.{Acts, IsExplainedStep}
use Rattle.nm_rules.specs.Array.{stripe_array}
use Rattle.nm_rules.specs.Flushed.{DurableAt, KeepsDurable}
use Rattle.nm_rules.specs.Invariant.{Keeps}
use Rattle.nm_rules.specs.Reopening.{Marks}
use Rattle.nm_rules.specs.State.{StripeState, leg_state}
use Rattle.nm_rules.proofs.ActsLemmas.{acts-append}
use Rattle.nm_rules.proofs.RecordLemmas.{busy_found}
use Rattle.nm_rules.proofs.SoundLemmas.{keeps-sound}
use Rattle.nm_rules.proofs.StateLemmas.{in_sync_inside}
use Rattle.nm_stripe.specs.declared.answer.Answer.{Answer}
use Rattle.nm_stripe.specs.declared.answer.Answer.TheVariants.{Begun, Pushed, Complete, Halted, Written, Value, Failed, MasterChanged, Joining, Copied, InSync, Synced, LegLost, Refused}
use Rattle.nm_stripe.specs.declared.answer.Answer.TheVariants.{Nothing as NothingLeft}
use Rattle.nm_stripe.specs.declared.step.Step.{Step}
use Rattle.nm_stripe.specs.Flush.{HasSynced, NoneBegins}
use Rattle.nm_stripe.specs.Run.{ActOnOneArray, NoneHalted, marks}
use Rattle.nm_stripe.proofs.FlushLemmas.{step-durable, step-makes}
use Rattle.nm_stripe.proofs.RunLemmas.{none-acts, step-shape}
use Rattle.nm_stripe.proofs.StepLemmas.{step-keeps}
use Rattle.nm_gate.specs.Durable.{Durable}
use Rattle.nm_gate.specs.Looking.{LooksAt}
use Rattle.nm_gate.proofs.Guarded.{array-stays}
use Rattle.nm_gate.proofs.Looked.{looked-acts, looked-count, looked-durable, looked-free, looked-keeps, looked-within}
use Rattle.nm_gate.proofs.StepsLeft.{free_of, other_of, step-left}
use Rattle.nm_losses.specs.Laws.{FlushedOutlivesLosses, KeepsTheArray, LossesKeepTheArray, Stands}
use Rattle.nm_rules.specs.Losing.{ReturnsLost}
use Rattle.nm_losses.specs.Moves.{ComesBack, Does, DoesStep, Looks, LossyRuns, Move, answers_of, steps_of}
use Rattle.nm_losses.proofs.Explained.{step-explained}
use Rattle.nm_rules.proofs.LossLemmas.{lost-acts, lost-array, lost-durable, lost-keeps, lost-runs, lost-shape}

-- none halted among more answers: not the first, and none of the others
pub none-first : {L : Type 0} (answer : Answer L) (answers : List (Answer L)) → NoneHalted (answer ∷ answers) → NoneHalted (answer ∷ []) × NoneHalted answers
none-first Halted answers none = absurd none
none-first (Begun t) answers none = (tt, none)
none-first (Pushed n) answers none = (tt, none)
none-first (Complete n) answers none = (tt, none)
none-first (Written r) answers none = (tt, none)
none-first (Value v) answers none = (tt, none)
none-first Failed answers none = (tt, none)
none-first (MasterChanged m) answers none = (tt, none)
none-first (Joining n) answers none = (tt, none)
none-first (Copied m n) answers none = (tt, none)
none-first NothingLeft answers none = (tt, none)
none-first InSync answers none = (tt, none)
none-first Synced answers none = (tt, none)
none-first (LegLost l h) answers none = (tt, none)
none-first (Refused c h) answers none = (tt, none)

-- bounds by which no leg is named
abbrev no_bounds : Durable
no_bounds = record { named = []; listed = []; lacking = []; marked = []; span = 1; broken = false }

-- on no block behind the last is a write under way
past-free : {L : Type 0} (type : LegType L) (s : StripeState L) → Keeps type s → busy_on s.place.blocks s.records ≡ None
past-free type s k = by_busy (busy_on s.place.blocks s.records) refl
  where
    by_busy : (o : Option Record) → busy_on s.place.blocks s.records ≡ o → o ≡ None
    by_busy None is = refl
    by_busy (Some q) is =
        let found = busy_found s.place.blocks s.records q k.records.in_order.ascending is in
        absurd (omega (arith, k.records.inside q.ticket q found.0, found.1))

-- one step more in front
pub act-front : {L : Type 0} (model : L → Leg) (old mid new : StripeState L) (step : Step L) (answer : Answer L) (steps : List (Step L)) (answers : List (Answer L))
    → IsExplainedStep model (marks step answer) old mid → ActOnOneArray model steps answers mid new → ActOnOneArray model (step ∷ steps) (answer ∷ answers) old new
act-front model old mid new step answer steps answers one all = record {
  events_of_each = one.events ∷ all.events_of_each;
  interleaving = (one.marked, all.interleaving);
  acts = acts-append model old mid new one.events _ one.acts all.acts;
}

-- a return or a look that no caller sees in front
pub unseen-front : {L : Type 0} (model : L → Leg) (old mid new : StripeState L) (steps : List (Step L)) (answers : List (Answer L)) → Acts model old mid [] → ActOnOneArray model steps answers mid new → ActOnOneArray model steps answers old new
unseen-front model old mid new steps answers none all = record {
  events_of_each = all.events_of_each;
  interleaving = all.interleaving;
  acts = acts-append model old mid new [] _ none all.acts;
}

module _ {L : Type 0} (type : LegType L) (is_honest : IsTrue type.honest) where
  -- a step leaves the stripe running
  step-stands : (step : Step L) (answer : Answer L) (old new : StripeState L) → Stands type old → DoesStep type step answer old new → NoneHalted (answer ∷ []) → Stands type new
  step-stands step answer old new s d goes = record {
    keeps = step-keeps type step answer old new s.keeps d.asked d.does;
    runs = (step-left type old new old.place.blocks is_honest (past-free type old s.keeps) s.keeps step answer goes d.does).stopped ∙ s.runs;
  }

  look-stands : (old new : StripeState L) → Stands type old → (leg block : ℕ) (found : Option (List ℕ)) → LooksAt type leg block found old new → Stands type new
  look-stands old new s leg block found is = record { keeps = looked-keeps type leg block found old new is s.keeps; runs = ap (λ (x : StripeState L). x.stopped) is.after ∙ s.runs }

  lost-stands : (old new : StripeState L) → Stands type old → (leg : ℕ) (part : L) (spans : Marks) → ReturnsLost type.model old new leg part spans → Stands type new
  lost-stands old new s leg part spans r = record {
    keeps = lost-keeps type old new leg part spans s.keeps r;
    runs = lost-runs type old new leg part spans s.keeps r ∙ s.runs;
  }

  -- over all of the moves
  pub runs-keep : (moves : List (Move L)) (old new : StripeState L) → Stands type old → LossyRuns type moves old new → NoneHalted (answers_of moves) → KeepsTheArray type moves old new
  runs-keep [] old new s runs goes =
      subst (λ (x : StripeState L). KeepsTheArray type [] old x) (sym runs)
      (record { stands = s; acts = none-acts type.model old s.keeps.numbers.most; in_sync = (keeps-sound type old s.keeps).in_sync is_honest s.runs })
  runs-keep (Does step answer ∷ moves) old new s runs goes =
      let first = none-first answer (answers_of moves) goes in
      let d = runs.1 in
      let rest = runs-keep moves runs.0 new (step-stands step answer old runs.0 s d first.0) runs.2 first.1 in
      record {
        stands = rest.stands;
        acts = act-front type.model old runs.0 new step answer (steps_of moves) (answers_of moves) (step-explained type old runs.0 s.keeps is_honest step answer d.asked first.0 d.does) rest.acts;
        in_sync = rest.in_sync;
      }
  runs-keep (Looks leg block found ∷ moves) old new s runs goes =
      let rest = runs-keep moves runs.0 new (look-stands old runs.0 s leg block found runs.1) runs.2 goes in
      record {
        stands = rest.stands;
        acts = unseen-front type.model old runs.0 new (steps_of moves) (answers_of moves) (looked-acts type leg block found old runs.0 runs.1 is_honest s.keeps) rest.acts;
        in_sync = rest.in_sync;
      }
  runs-keep (ComesBack leg part spans ∷ moves) old new s runs goes =
      let r = runs.1 in
      let rest = runs-keep moves runs.0 new (lost-stands old runs.0 s leg part spans r) runs.2 goes in
      record {
        stands = rest.stands;
        acts = unseen-front type.model old runs.0 new (steps_of moves) (answers_of moves) (lost-acts type old runs.0 leg part spans s.keeps r) rest.acts;
        in_sync = rest.in_sync;
      }

  module _ (b : ℕ) where
    -- what is known after moves that begin no write of the block
    record Behind (old new : StripeState L) : Type 0 where
      stands : Stands type new
      inside : b < new.place.blocks
      count : length new.legs ≡ length old.legs
      array : slice_get (stripe_array type.model new) b ≡ slice_get (stripe_array type.model old) b
      durable : KeepsDurable type.model b old new

    step-behind : (step : Step L) (answer : Answer L) (old new : StripeState L) → Stands type old → b < old.place.blocks → busy_on b old.records ≡ None → DoesStep type step answer old new
        → NoneHalted (answer ∷ []) → NoneBegins b (step ∷ []) (answer ∷ []) → Behind old new
    step-behind step answer old new s inside free d goes leaves =
        let now = step-stands step answer old new s d goes in
        let shape = step-shape type step answer old new d.does in
        let within : b < new.place.blocks = rw shape.place inside in
        let durable = step-durable type old new b free s.keeps now.keeps is_honest inside step answer leaves.0 d.does in
        record {
          stands = now;
          inside = within;
          count = shape.legs;
          array = array-stays type old new no_bounds b is_honest (record { keeps = s.keeps; runs = s.runs; apart = λ j named. absurd (let clash : false ≡ true = named in cc) }) now.keeps inside within free durable.free (other_of step answer) (free_of step old b)
              (step-left type old new b is_honest free s.keeps step answer goes d.does);
          durable = durable;
        }

    look-behind : (old new : StripeState L) → Stands type old → b < old.place.blocks → busy_on b old.records ≡ None → (leg block : ℕ) (found : Option (List ℕ)) → LooksAt type leg block found old new → Behind old new
    look-behind old new s inside free leg block found is =
        let same : stripe_array type.model new ≡ stripe_array type.model old = (looked-acts type leg block found old new is is_honest s.keeps).explained.legal in
        record {
          stands = look-stands old new s leg block found is;
          inside = looked-within type leg block found old new is b inside;
          count = looked-count type leg block found old new is;
          array = ap (λ xs. slice_get xs b) same;
          durable = record {
            free = looked-free type leg block found old new is b free;
            durable = λ j held in_sync.
                looked-durable type leg block found old new is is_honest b j
                ∙ held (sym (ap (λ (x : StripeState L). leg_state j x) is.after) ∙ in_sync)
                ∙ sym (ap (λ xs. slice_get xs b) same);
          };
        }

    lost-behind : (old new : StripeState L) → Stands type old → b < old.place.blocks → busy_on b old.records ≡ None → (leg : ℕ) (part : L) (spans : Marks) → ReturnsLost type.model old new leg part spans → Behind old new
    lost-behind old new s inside free leg part spans r =
        let shape = lost-shape type old new leg part spans s.keeps r in
        record {
          stands = lost-stands old new s leg part spans r;
          inside = rw shape.place inside;
          count = shape.legs;
          array = ap (λ xs. slice_get xs b) (lost-array type old new leg part spans s.keeps r);
          durable = lost-durable type old new leg part spans s.keeps r b free;
        }

    in-turn : (old mid new : StripeState L) → Behind old mid → Behind mid new → Behind old new
    in-turn old mid new one more = record {
      stands = more.stands;
      inside = more.inside;
      count = more.count ∙ one.count;
      array = more.array ∙ one.array;
      durable = record { free = more.durable.free; durable = λ j held. more.durable.durable j (one.durable.durable j held) };
    }

    runs-behind : (moves : List (Move L)) (old new : StripeState L) → Stands type old → b < old.place.blocks → busy_on b old.records ≡ None → LossyRuns type moves old new → NoneHalted (answers_of moves)
        → NoneBegins b (steps_of moves) (answers_of moves) → Behind old new
    runs-behind [] old new s inside free runs goes leaves =
        subst (λ (x : StripeState L). Behind old x) (sym runs)
        (record { stands = s; inside = inside; count = refl; array = refl; durable = record { free = free; durable = λ j held. held } })
    runs-behind (Does step answer ∷ moves) old new s inside free runs goes leaves =
        let first = none-first answer (answers_of moves) goes in
        let one = step-behind step answer old runs.0 s inside free runs.1 first.0 (leaves.0, tt) in
        in-turn old runs.0 new one (runs-behind moves runs.0 new one.stands one.inside one.durable.free runs.2 first.1 leaves.1)
    runs-behind (Looks leg block found ∷ moves) old new s inside free runs goes leaves =
        let one = look-behind old runs.0 s inside free leg block found runs.1 in
        in-turn old runs.0 new one (runs-behind moves runs.0 new one.stands one.inside one.durable.free runs.2 goes leaves)
    runs-behind (ComesBack leg part spans ∷ moves) old new s inside free runs goes leaves =
        let one = lost-behind old runs.0 s inside free leg part spans runs.1 in
        in-turn old runs.0 new one (runs-behind moves runs.0 new one.stands one.inside one.durable.free runs.2 goes leaves)

    -- a sync among them makes durable what the leg holds
    runs-make : (j : ℕ) (moves : List (Move L)) (old new : StripeState L) → Stands type old → b < old.place.blocks → busy_on b old.records ≡ None → LossyRuns type moves old new → NoneHalted (answers_of moves)
        → NoneBegins b (steps_of moves) (answers_of moves) → HasSynced j (steps_of moves) (answers_of moves) → DurableAt type.model new j b
    runs-make j [] old new s inside free runs goes leaves synced = absurd synced
    runs-make j (Does step answer ∷ moves) old new s inside free runs goes leaves synced =
        let first = none-first answer (answers_of moves) goes in
        let d = runs.1 in
        let one = step-behind step answer old runs.0 s inside free d first.0 (leaves.0, tt) in
        ⊎_elim
        (λ now. (runs-behind moves runs.0 new one.stands one.inside one.durable.free runs.2 first.1 leaves.1).durable.durable j
        (step-makes type old runs.0 b free s.keeps one.stands.keeps is_honest inside step answer j now d.does))
        (λ later. runs-make j moves runs.0 new one.stands one.inside one.durable.free runs.2 first.1 leaves.1 later)
        synced
    runs-make j (Looks leg block found ∷ moves) old new s inside free runs goes leaves synced =
        let one = look-behind old runs.0 s inside free leg block found runs.1 in
        runs-make j moves runs.0 new one.stands one.inside one.durable.free runs.2 goes leaves synced
    runs-make j (ComesBack leg part spans ∷ moves) old new s inside free runs goes leaves synced =
        let one = lost-behind old runs.0 s inside free leg part spans runs.1 in
        runs-make j moves runs.0 new one.stands one.inside one.durable.free runs.2 goes leaves synced

-- losses cost nothing
pub losses-keep : {L : Type 0} (type : LegType L) → IsTrue type.honest → LossesKeepTheArray type
losses-keep type is_honest moves old new s runs goes = runs-keep type is_honest moves old new s runs goes

-- and what was flushed stays durable
pub flushed-outlives : {L : Type 0} (type : LegType L) → IsTrue type.honest → FlushedOutlivesLosses type
flushed-outlives type is_honest moves later old mid new b s inside free first flush last =
    let one = runs-behind type is_honest b moves old mid s inside free first.runs first.goes first.leaves in
    let more = runs-behind type is_honest b later mid new one.stands one.inside one.durable.free last.runs last.goes last.leaves in
    record {
      array = more.array;
      durable = λ leg in_sync.
          let there : leg < length old.legs = omega (arith, one.count, more.count, in_sync_inside type.model new more.stands.keeps.legs leg in_sync) in
          more.durable.durable leg (runs-make type is_honest b leg moves old mid s inside free first.runs first.goes first.leaves (flush leg there)) in_sync;
    }
