-- A look changes nothing of a stripe but the leg, which holds what it held.
use Rattle.std.proofs.Common.{◌≡◌, ◌<◌, ⊎_elim, inr, ℕ, IsTrue, List, [], None, Option, is_some, length, sym, ap, ◌∙◌, subst, slice_get}
use Rattle.nm_fanout.specs.declared.write_record.Record.{Record}
use Rattle.nm_fanout.specs.Records.{busy_on}
use Rattle.nm_leg.specs.Leg.{LegType}
use Rattle.nm_rules.specs.declared.at.At.{At}
use Rattle.nm_rules.specs.Acts.{Acts}
use Rattle.nm_rules.specs.Array.{contents_of}
use Rattle.nm_rules.specs.Flushed.{durable_of}
use Rattle.nm_rules.specs.Invariant.{Keeps}
use Rattle.nm_rules.specs.State.{StripeState}
use Rattle.nm_rules.proofs.CalledLemmas.{SameContents, called-acts}
use Rattle.nm_rules.proofs.LegLemmas.{calls-after, calls-before, calls-length, calls-lengths, calls-other}
use Rattle.nm_rules.proofs.RecordLemmas.{one_or_two}
use Rattle.nm_stripe.proofs.LookLemmas.{look-keeps}
use Rattle.nm_gate.specs.Durable.{Durable}
use Rattle.nm_gate.specs.Held.{NoneOn}
use Rattle.nm_gate.specs.Looking.{LooksAt, found_blocks}
use Rattle.nm_gate.specs.Survive.{Stands}
use Rattle.nm_gate.proofs.LegsLeft.{LegsLeft, any, run_read-durable, run_read-left}

module _ {L : Type 0} (type : LegType L) (leg block : ℕ) (found : Option (List ℕ)) (old new : StripeState L) (is : LooksAt type leg block found old new) where
  pub looked-place : new.place ≡ old.place
  looked-place = ap (λ (s : StripeState L). s.place) is.after

  pub looked-records : new.records ≡ old.records
  looked-records = ap (λ (s : StripeState L). s.records) is.after

  pub looked-count : length new.legs ≡ length old.legs
  looked-count = calls-length type.model old.legs new.legs leg is.reads.before is.reads.after is.reads.change

  pub looked-keeps : Keeps type old → Keeps type new
  looked-keeps k = look-keeps type (is_some found) leg block (found_blocks found) old new is.reads k is.after

  looked-same : SameContents type old new.legs
  looked-same = record {
    count = looked-count;
    lengths = λ j. calls-lengths type.model (is_some found) old.legs new.legs leg j is.reads.before is.reads.after is.reads.change is.reads.reads.calls;
    contents = λ is_honest j. ⊎_elim
        (λ same. subst (λ (i : ℕ). contents_of type.model new.legs i ≡ contents_of type.model old.legs i) (sym same)
        (calls-after type.model old.legs new.legs leg is.reads.before is.reads.after is.reads.change ∙ is.reads.reads.contents is_honest ∙ sym (calls-before type.model old.legs new.legs leg is.reads.before is.reads.after is.reads.change)))
        (λ ne. calls-other type.model old.legs new.legs leg j is.reads.before is.reads.after is.reads.change ne)
        (one_or_two j leg);
  }

  module _ (is_honest : IsTrue type.honest) where
    -- no operation shows in it
    pub looked-acts : Keeps type old → Acts type.model old new []
    looked-acts k = subst (λ (s : StripeState L). Acts type.model old s []) (sym is.after) (called-acts type old new.legs looked-same is_honest k)

    pub looked-durable : (b j : ℕ) → slice_get (durable_of type.model new.legs j) b ≡ slice_get (durable_of type.model old.legs j) b
    looked-durable b j = run_read-durable type old new b any is_honest (is_some found) leg block (found_blocks found) is.reads j (inr tt)

    pub looked-left : (b : ℕ) → LegsLeft type b any any old new
    looked-left b =
        run_read-left type old new b any is_honest (is_some found) leg block (found_blocks found) is.reads (ap (λ (s : StripeState L). s.stopped) is.after) (ap (λ (s : StripeState L). s.states) is.after)

    pub looked-stands : (d : Durable) → Stands type old d → Stands type new d
    looked-stands d s =
        let left = looked-left 0 in
        record {
          keeps = looked-keeps s.keeps;
          runs = left.stopped ∙ s.runs;
          apart = λ j named joins. s.apart j named (left.joins j tt joins);
        }

  -- a block of the stripe was one, and the same writes are under way on it
  module _ (b : ℕ) where
    pub looked-inside : b < new.place.blocks → b < old.place.blocks
    looked-inside inside = subst (λ (p : At). b < p.blocks) looked-place inside

    pub looked-within : b < old.place.blocks → b < new.place.blocks
    looked-within inside = subst (λ (p : At). b < p.blocks) (sym looked-place) inside

    pub looked-free : busy_on b old.records ≡ None → busy_on b new.records ≡ None
    looked-free free = subst (λ (rs : List Record). busy_on b rs ≡ None) (sym looked-records) free

    pub looked-none : NoneOn b old.records → NoneOn b new.records
    looked-none none = subst (λ (rs : List Record). NoneOn b rs) (sym looked-records) none

    pub looked-was_none : NoneOn b new.records → NoneOn b old.records
    looked-was_none none = subst (λ (rs : List Record). NoneOn b rs) looked-records none
