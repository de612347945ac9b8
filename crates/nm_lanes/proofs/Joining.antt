-- The law: the stripes' lists, woven, are explained on the mirror's array.
use Rattle.std.proofs.Common.{◌≡◌, ℕ, ◌<◌, ◌≤◌, ◌==◌, ◌⊎◌, true, false, List, [], ◌∷◌, map, length, refl, sym, ap, ◌∙◌, subst, arith, inl, inr, if◌then◌else◌}
use Rattle.std.proofs.lemmas.Bool.{cases_lt}
use Rattle.std.proofs.lemmas.Bool.Decides.{eqb_tells}
use Rattle.nm_geometry.specs.Geometry.{Geometry, IsGeometry}
use Rattle.nm_leg.specs.Leg.{Leg}
use Rattle.nm_replay.specs.Array.{Array}
use Rattle.nm_replay.specs.declared.entry.Entry.{Entry}
use Rattle.nm_replay.specs.Events.{Event, BeginsRead, BeginsWrite, Lands, RepliesRead, RepliesWrite, entries_of}
use Rattle.nm_replay.specs.Explained.{Point}
use Rattle.nm_replay.specs.ReadLives.{ReadLives}
use Rattle.nm_replay.specs.WriteLives.{WriteLives}
use Rattle.nm_rules.specs.Array.{point_of}
use Rattle.nm_rules.specs.State.{StripeState}
use Rattle.nm_stripe.specs.Run.{ActOnOneArray, concat}
use Rattle.nm_lanes.specs.Events.{MirrorEvent, MirrorEntry, events_of, EventsOfStripes, behind_entry_of, mirror_entries, entries_in, all_events}
use Rattle.nm_lanes.specs.Interleavings.{in_export, IsExplainedInterleaving}
use Rattle.nm_lanes.specs.Laws.{Joins, MirrorActOnOneArray}
use Rattle.nm_lanes.specs.Moved.{moved_all, moved_entry, moved_write, moved_read}
use Rattle.nm_lanes.specs.Lists.{MirrorStep, steps_of, answers_of, AreOf}
use Rattle.nm_lanes.specs.Whole.{IsWhole}
use Rattle.nm_lanes.proofs.Moving.{entries-moved, length-moved, write-lives, read-lives}
use Rattle.nm_lanes.proofs.Weaving.{woven, Interleave, weaves, events-of-own, lists-of-own, woven-of-stripes}
use Rattle.nm_lanes.proofs.Wholes.{EntriesOfStripes, after_entries, legal-whole, follow}

-- the entries of a stripe are those of its events
own-entry : (s t : ℕ) (e : Event) (later : List MirrorEntry) (es : List Event) → (t == s) ≡ true → entries_in s later ≡ entries_of es → entries_in s (behind_entry_of t e later) ≡ entries_of (e ∷ es)
own-entry s t (BeginsRead n b) later es same h = h
own-entry s t (BeginsWrite u b v) later es same h = h
own-entry s t (Lands x) later es same h = rw same (ap (λ (xs : List Entry). x ∷ xs) h)
own-entry s t (RepliesRead n v) later es same h = h
own-entry s t (RepliesWrite u n) later es same h = h

other-entry : (s t : ℕ) (e : Event) (later : List MirrorEntry) → (t == s) ≡ false → entries_in s (behind_entry_of t e later) ≡ entries_in s later
other-entry s t (BeginsRead n b) later other = refl
other-entry s t (BeginsWrite u b v) later other = refl
other-entry s t (Lands x) later other = rw other refl
other-entry s t (RepliesRead n v) later other = refl
other-entry s t (RepliesWrite u n) later other = refl

entries-in : (s : ℕ) (events : List MirrorEvent) → entries_in s (mirror_entries events) ≡ entries_of (events_of s events)
entries-in s [] = refl
entries-in s (e ∷ events) =
    let later = mirror_entries events in
    elim (eqb_tells e.stripe s) [
      | inl same ↦ rw (ap (λ (b : _). if b then e.event ∷ events_of s events else events_of s events) same.0) (own-entry s e.stripe e.event later (events_of s events) same.0 (entries-in s events))
      | inr other ↦ rw (ap (λ (b : _). if b then e.event ∷ events_of s events else events_of s events) other.0) (other-entry s e.stripe e.event later other.0 ∙ entries-in s events)
    ]

behind-of : (n t : ℕ) (e : Event) (later : List MirrorEntry) → t < n → EntriesOfStripes n later → EntriesOfStripes n (behind_entry_of t e later)
behind-of n t (BeginsRead m b) later lt h = h
behind-of n t (BeginsWrite u b v) later lt h = h
behind-of n t (Lands x) later lt h = (lt, h)
behind-of n t (RepliesRead m v) later lt h = h
behind-of n t (RepliesWrite u m) later lt h = h

entries-of-stripes : (n : ℕ) (events : List MirrorEvent) → EventsOfStripes n events → EntriesOfStripes n (mirror_entries events)
entries-of-stripes n [] h = tt
entries-of-stripes n (e ∷ events) h = behind-of n e.stripe e.event (mirror_entries events) h.0 (entries-of-stripes n events h.1)

pub joined : {L : Type 0} (shape : Geometry) (list : List (MirrorStep L)) (from to : ℕ → Point) (whole : Array) (own : ℕ → List (List Event)) → IsGeometry shape → AreOf shape.stripes list → IsWhole shape (λ stripe. (from stripe).array) whole → ((stripe : ℕ) → stripe < shape.stripes → IsExplainedInterleaving (steps_of stripe list) (answers_of stripe list) (from stripe) (to stripe) (own stripe)) → Joins shape list from to whole own
joined shape list from to whole own is are w each =
    let n = shape.stripes in
    let inter : Interleave n list own = λ s lt. (each s lt).interleaving in
    let lists = woven shape own list in
    let events = all_events lists in
    let es = mirror_entries events in
    let of-stripes = woven-of-stripes shape n list own are in
    let mine : (s : ℕ) → s < n → events_of s events ≡ moved_all (in_export shape s) (concat (own s)) = λ s lt. events-of-own shape n list own are inter s lt in
    let entries : (s : ℕ) → s < n → entries_in s es ≡ map (moved_entry (in_export shape s)) (entries_of (concat (own s))) =
    λ s lt. entries-in s events ∙ ap entries_of (mine s lt) ∙ entries-moved (in_export shape s) (concat (own s)) in
    let follows = follow shape (λ s. (from s).next) (λ s. entries_of (concat (own s))) (λ s. (from s).array) (λ s. (to s).array) es entries (λ s lt. (each s lt).explained.legal) in
    let legally = legal-whole shape es (λ s. (from s).next) (λ s. entries_of (concat (own s))) (λ s. (from s).array) (λ s. (to s).array) whole is (entries-of-stripes n events of-stripes) w follows in
    let after = after_entries es whole in
    record {
      after = after;
      after_is = legally.after_is;
      events_of_each = lists;
      explained = record {
        interleaving = weaves shape n list own are inter;
        explained = record {
          of_stripes = of-stripes;
          legal = legally.legal;
          next = λ s lt.
              let count : length (entries_of (events_of s events)) ≡ length (entries_of (concat (own s))) =
              ap (λ (xs : List Entry). length xs) (ap entries_of (mine s lt) ∙ entries-moved (in_export shape s) (concat (own s)))
              ∙ length-moved (in_export shape s) (entries_of (concat (own s))) in
              omega (arith, (each s lt).explained.next, count);
          each_write = λ s t lt. subst (λ (xs : List Event). WriteLives t (moved_write (in_export shape s) ((from s).writes t)) xs (moved_write (in_export shape s) ((to s).writes t))) (sym (mine s lt))
              (write-lives (in_export shape s) t ((from s).writes t) ((to s).writes t) (concat (own s)) ((each s lt).explained.each_write t));
          each_read = λ s m lt. subst (λ (xs : List Event). ReadLives m (moved_read (in_export shape s) ((from s).reads m)) xs (moved_read (in_export shape s) ((to s).reads m))) (sym (mine s lt))
              (read-lives (in_export shape s) m ((from s).reads m) ((to s).reads m) (concat (own s)) ((each s lt).explained.each_read m));
        };
        filtered = λ s lt. lists-of-own shape n list own are inter s lt;
      };
    }

-- a stripe's own lists, where there is such a stripe
chosen : {L : Type 0} (model : L → Leg) (list : List (MirrorStep L)) (old new : StripeState L) (s n : ℕ) → (s < n) ⊎ (n ≤ s) → (s < n → ActOnOneArray model (steps_of s list) (answers_of s list) old new) → List (List Event)
chosen model list old new s n (inl lt) acts = (acts lt).events_of_each
chosen model list old new s n (inr past) acts = []

chosen-interleaves : {L : Type 0} (model : L → Leg) (list : List (MirrorStep L)) (old new : StripeState L) (s n : ℕ) (which : (s < n) ⊎ (n ≤ s)) (acts : s < n → ActOnOneArray model (steps_of s list) (answers_of s list) old new) → s < n → IsExplainedInterleaving (steps_of s list) (answers_of s list) (point_of model old) (point_of model new) (chosen model list old new s n which acts)
unfolding chosen
chosen-interleaves model list old new s n (inl lt) acts below = record { interleaving = (acts lt).interleaving; explained = (acts lt).acts.explained }
chosen-interleaves model list old new s n (inr past) acts below = absurd (omega (arith, past, below))

pub mirror-acts : {L : Type 0} (model : L → Leg) (shape : Geometry) (list : List (MirrorStep L)) (old new : ℕ → StripeState L) (whole : Array) → IsGeometry shape → AreOf shape.stripes list → IsWhole shape (λ stripe. (point_of model (old stripe)).array) whole → ((stripe : ℕ) → stripe < shape.stripes → ActOnOneArray model (steps_of stripe list) (answers_of stripe list) (old stripe) (new stripe)) → MirrorActOnOneArray model shape list old new whole
mirror-acts model shape list old new whole is are w acts =
    let n = shape.stripes in
    let own = λ (s : ℕ). chosen model list (old s) (new s) s n (cases_lt s n) (acts s) in
    let each : (s : ℕ) → s < n → IsExplainedInterleaving (steps_of s list) (answers_of s list) (point_of model (old s)) (point_of model (new s)) (own s) =
    λ s lt. chosen-interleaves model list (old s) (new s) s n (cases_lt s n) (acts s) lt in
    record {
      own = own;
      each = each;
      joins = joined shape list (λ s. point_of model (old s)) (λ s. point_of model (new s)) whole own is are w each;
    }
