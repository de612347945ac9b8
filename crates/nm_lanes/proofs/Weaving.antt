-- The mirror's interleaving is woven from the stripes': each step takes its stripe's next list.
use Rattle.std.proofs.Common.{◌≡◌, ℕ, ◌<◌, ◌==◌, true, false, if◌then◌else◌, List, [], ◌∷◌, ◌++◌, map, refl, sym, ap, ◌∙◌, inl, inr, eq-eqb}
use Rattle.std.proofs.lemmas.Bool.Decides.{eqb_tells}
use Rattle.nm_geometry.specs.Geometry.{Geometry}
use Rattle.nm_replay.specs.Events.{Event, marks_of}
use Rattle.nm_stripe.specs.declared.answer.Answer.{Answer}
use Rattle.nm_stripe.specs.declared.step.Step.{Step}
use Rattle.nm_stripe.specs.Run.{IsInterleaving, concat, marks}
use Rattle.nm_lanes.specs.Events.{MirrorEvent, events_of, AllOfStripe, EventsOfStripes, all_events}
use Rattle.nm_lanes.specs.Interleavings.{in_export, IsMirrorInterleaving, lists_of}
use Rattle.nm_lanes.specs.Moved.{moved_all}
use Rattle.nm_lanes.specs.Lists.{MirrorStep, steps_of, answers_of, AreOf}
use Rattle.nm_lanes.proofs.Moving.{marks-moved, moved-append}

-- events as events of a stripe
abbrev pub tagged : ℕ → List Event → List MirrorEvent
tagged s [] = []
tagged s (e ∷ es) = record { stripe = s; event = e } ∷ tagged s es

abbrev pub first : List (List Event) → List Event
first [] = []
first (p ∷ ps) = p

abbrev pub rest : List (List Event) → List (List Event)
rest [] = []
rest (p ∷ ps) = ps

-- the stripes' lists, once this stripe's first is taken
abbrev pub taken : ℕ → (ℕ → List (List Event)) → ℕ → List (List Event)
taken s own t = if s == t then rest (own t) else own t

abbrev pub woven : {L : Type 0} → Geometry → (ℕ → List (List Event)) → List (MirrorStep L) → List (List MirrorEvent)
woven shape own [] = []
woven shape own (d ∷ list) = tagged d.stripe (moved_all (in_export shape d.stripe) (first (own d.stripe))) ∷ woven shape (taken d.stripe own) list

-- each stripe's lists are an interleaving of its steps
abbrev pub Interleave : {L : Type 0} → ℕ → List (MirrorStep L) → (ℕ → List (List Event)) → Type 0
Interleave n list own = (s : ℕ) → s < n → IsInterleaving (steps_of s list) (answers_of s list) (own s)

events-own : (s t : ℕ) (es : List Event) (later : List MirrorEvent) → (t == s) ≡ true → events_of s (tagged t es ++ later) ≡ es ++ events_of s later
events-own s t [] later same = refl
events-own s t (e ∷ es) later same = rw same (ap (λ (xs : List Event). e ∷ xs) (events-own s t es later same))

events-other : (s t : ℕ) (es : List Event) (later : List MirrorEvent) → (t == s) ≡ false → events_of s (tagged t es ++ later) ≡ events_of s later
events-other s t [] later other = refl
events-other s t (e ∷ es) later other = rw other (events-other s t es later other)

tagged-alone : (s : ℕ) (es : List Event) → events_of s (tagged s es) ≡ es
tagged-alone s [] = refl
tagged-alone s (e ∷ es) = rw (eq-eqb s s refl) (ap (λ (xs : List Event). e ∷ xs) (tagged-alone s es))

all-tagged : (s : ℕ) (es : List Event) → AllOfStripe s (tagged s es)
all-tagged s [] = tt
all-tagged s (e ∷ es) = (refl, all-tagged s es)

-- an interleaving with a first step has a first list
record Headed {L : Type 0} (step : Step L) (answer : Answer L) (steps : List (Step L)) (answers : List (Answer L)) (lists : List (List Event)) : Type 0 where
  marked : marks_of (first lists) ≡ marks step answer
  later : IsInterleaving steps answers (rest lists)
  split : lists ≡ first lists ∷ rest lists

headed : {L : Type 0} (step : Step L) (answer : Answer L) (steps : List (Step L)) (answers : List (Answer L)) (lists : List (List Event)) → IsInterleaving (step ∷ steps) (answer ∷ answers) lists → Headed step answer steps answers lists
headed step answer steps answers [] h = absurd h
headed step answer steps answers (p ∷ ps) h = record { marked = h.0; later = h.1; split = refl }

-- no steps have no lists
no-lists : (L : Type 0) (lists : List (List Event)) → IsInterleaving {L = L} [] [] lists → lists ≡ []
no-lists L [] h = refl
no-lists L (p ∷ ps) h = absurd h

-- what a first step of this stripe says
own-step : {L : Type 0} (n : ℕ) (d : MirrorStep L) (list : List (MirrorStep L)) (own : ℕ → List (List Event)) (s : ℕ) → s < n → (d.stripe == s) ≡ true → Interleave n (d ∷ list) own → Headed d.done.step d.done.answer (steps_of s list) (answers_of s list) (own s)
own-step n d list own s lt same h =
    let mine : IsInterleaving (steps_of s (d ∷ list)) (answers_of s (d ∷ list)) (own s) = h s lt in
    headed d.done.step d.done.answer (steps_of s list) (answers_of s list) (own s) (rw same at mine)

other-step : {L : Type 0} (n : ℕ) (d : MirrorStep L) (list : List (MirrorStep L)) (own : ℕ → List (List Event)) (s : ℕ) → s < n → (d.stripe == s) ≡ false → Interleave n (d ∷ list) own → IsInterleaving (steps_of s list) (answers_of s list) (own s)
other-step n d list own s lt other h =
    let mine : IsInterleaving (steps_of s (d ∷ list)) (answers_of s (d ∷ list)) (own s) = h s lt in
    rw other at mine

go-on : {L : Type 0} (n : ℕ) (d : MirrorStep L) (list : List (MirrorStep L)) (own : ℕ → List (List Event)) → Interleave n (d ∷ list) own → Interleave n list (taken d.stripe own)
go-on n d list own h s lt = elim (eqb_tells d.stripe s) [
  | inl same ↦ rw same.0 ((own-step n d list own s lt same.0 h).later)
  | inr other ↦ rw other.0 (other-step n d list own s lt other.0 h)
]

pub weaves : {L : Type 0} (shape : Geometry) (n : ℕ) (list : List (MirrorStep L)) (own : ℕ → List (List Event)) → AreOf n list → Interleave n list own → IsMirrorInterleaving shape list (woven shape own list)
weaves shape n [] own are h = tt
weaves shape n (d ∷ list) own are h =
    let to = in_export shape d.stripe in
    let head = own-step n d list own d.stripe are.0 (eq-eqb d.stripe d.stripe refl) h in (
      ap marks_of (tagged-alone d.stripe (moved_all to (first (own d.stripe)))) ∙ marks-moved to (first (own d.stripe)) ∙ ap (moved_all to) head.marked,
      all-tagged d.stripe (moved_all to (first (own d.stripe))),
      weaves shape n list (taken d.stripe own) are.1 (go-on n d list own h),
    )

concat-split : (lists : List (List Event)) → lists ≡ first lists ∷ rest lists → concat lists ≡ first lists ++ concat (rest lists)
concat-split lists e = ap concat e

-- the events of a stripe are those of its own lists
pub events-of-own : {L : Type 0} (shape : Geometry) (n : ℕ) (list : List (MirrorStep L)) (own : ℕ → List (List Event)) → AreOf n list → Interleave n list own → (s : ℕ) → s < n → events_of s (all_events (woven shape own list)) ≡ moved_all (in_export shape s) (concat (own s))
events-of-own {L} shape n [] own are h s lt =
    let none : own s ≡ [] = no-lists L (own s) (h s lt) in
    sym (ap (λ (ps : List (List Event)). moved_all (in_export shape s) (concat ps)) none)
events-of-own shape n (d ∷ list) own are h s lt =
    let now = moved_all (in_export shape d.stripe) (first (own d.stripe)) in
    let later = all_events (woven shape (taken d.stripe own) list) in
    let after = events-of-own shape n list (taken d.stripe own) are.1 (go-on n d list own h) s lt in
    elim (eqb_tells d.stripe s) [
      | inl same ↦
          let head = own-step n d list own s lt same.0 h in
          let here : now ≡ moved_all (in_export shape s) (first (own s)) = ap (λ (t : ℕ). moved_all (in_export shape t) (first (own t))) same.1 in
          let stays : taken d.stripe own s ≡ rest (own s) = rw same.0 refl in
          events-own s d.stripe now later same.0
          ∙ ap (λ (xs : List Event). xs ++ events_of s later) here
          ∙ ap (λ (xs : List Event). moved_all (in_export shape s) (first (own s)) ++ xs) (after ∙ ap (λ (ps : List (List Event)). moved_all (in_export shape s) (concat ps)) stays)
          ∙ sym (moved-append (in_export shape s) (first (own s)) (concat (rest (own s))))
          ∙ sym (ap (moved_all (in_export shape s)) (concat-split (own s) head.split))
      | inr other ↦
          let stays : taken d.stripe own s ≡ own s = rw other.0 refl in
          events-other s d.stripe now later other.0 ∙ after ∙ ap (λ (ps : List (List Event)). moved_all (in_export shape s) (concat ps)) stays
    ]

-- the lists of a stripe's steps are its own lists
pub lists-of-own : {L : Type 0} (shape : Geometry) (n : ℕ) (list : List (MirrorStep L)) (own : ℕ → List (List Event)) → AreOf n list → Interleave n list own → (s : ℕ) → s < n → lists_of s list (woven shape own list) ≡ map (λ (es : List Event). moved_all (in_export shape s) es) (own s)
lists-of-own {L} shape n [] own are h s lt =
    let none : own s ≡ [] = no-lists L (own s) (h s lt) in
    sym (ap (λ (ps : List (List Event)). map (λ (es : List Event). moved_all (in_export shape s) es) ps) none)
lists-of-own shape n (d ∷ list) own are h s lt =
    let moving = λ (es : List Event). moved_all (in_export shape s) es in
    let after = lists-of-own shape n list (taken d.stripe own) are.1 (go-on n d list own h) s lt in
    let now = moved_all (in_export shape d.stripe) (first (own d.stripe)) in
    elim (eqb_tells d.stripe s) [
      | inl same ↦
          let head = own-step n d list own s lt same.0 h in
          let here : now ≡ moved_all (in_export shape s) (first (own s)) = ap (λ (t : ℕ). moved_all (in_export shape t) (first (own t))) same.1 in
          let alone : events_of s (tagged d.stripe now) ≡ now = ap (λ (t : ℕ). events_of t (tagged d.stripe now)) (sym same.1) ∙ tagged-alone d.stripe now in
          let stays : taken d.stripe own s ≡ rest (own s) = rw same.0 refl in
          rw same.0 (
          ap (λ (xs : List Event). xs ∷ lists_of s list (woven shape (taken d.stripe own) list)) (alone ∙ here)
          ∙ ap (λ (ps : List (List Event)). moved_all (in_export shape s) (first (own s)) ∷ ps) (after ∙ ap (map moving) stays)
          ∙ sym (ap (map moving) head.split))
      | inr other ↦
          let stays : taken d.stripe own s ≡ own s = rw other.0 refl in
          rw other.0 (after ∙ ap (map moving) stays)
    ]

-- the woven events are events of the mirror's stripes
of-stripes-append : (n s : ℕ) (es : List Event) (later : List MirrorEvent) → s < n → EventsOfStripes n later → EventsOfStripes n (tagged s es ++ later)
of-stripes-append n s [] later lt h = h
of-stripes-append n s (e ∷ es) later lt h = (lt, of-stripes-append n s es later lt h)

pub woven-of-stripes : {L : Type 0} (shape : Geometry) (n : ℕ) (list : List (MirrorStep L)) (own : ℕ → List (List Event)) → AreOf n list → EventsOfStripes n (all_events (woven shape own list))
woven-of-stripes shape n [] own are = tt
woven-of-stripes shape n (d ∷ list) own are =
    of-stripes-append n d.stripe _ _ are.0 (woven-of-stripes shape n list (taken d.stripe own) are.1)
