-- Each request that is answered has come, and none comes or is answered twice.
use Rattle.std.proofs.Common.{◌≡◌, ℕ, ◌+◌, ◌≤◌, ◌<◌, List, [], ◌∷◌, ◌++◌, Result, Ok, Err, refl, sym, ap, subst, ◌⊎◌, inl, inr, arith}
use Rattle.nm_requests.specs.declared.request.Request.{Request}
use Rattle.nm_requests.specs.declared.task.Task.{Task}
use Rattle.nm_requests.specs.declared.task.Task.TheVariants.{Read, Write, Zero, Flush, Nothing, Disconnect}
use Rattle.nm_session.specs.declared.outstanding.Outstanding.{Outstanding}
use Rattle.nm_session.specs.declared.stage.Stage.{Stage}
use Rattle.nm_session.specs.declared.stage.Stage.TheVariants as stage
use Rattle.nm_session.specs.Asking.{outstanding_for}
use Rattle.nm_session.specs.Event.{Event, Fed, Asked, Stopped, Answered, Took, Step, Runs}
use Rattle.nm_session.specs.Feeding.{FeedsAt}
use Rattle.nm_session.specs.Laws.{AnsweredOnce}
use Rattle.nm_session.specs.Session.{Session}
use Rattle.nm_workers.specs.Laws.{HasCome, AnswersWhatCame, AnswersOnce, ArrivalsRise}
use Rattle.nm_workers.specs.Results.{Moment, Note, NotesFor, AsksWith, StepWith, RunsWith}
use Rattle.nm_workers.proofs.ResultRuns.{runs_of}

-- the request is one of these
abbrev Has : Outstanding → List Outstanding → Type 0
Has held [] = ⊥
Has held (one ∷ others) = (one ≡ held) ⊎ Has held others

has_at : (held : Outstanding) (before after : List Outstanding) → Has held (before ++ held ∷ after)
has_at held [] after = inl refl
has_at held (one ∷ before) after = inr (has_at held before after)

later_has : (held one : Outstanding) (xs ys : List Outstanding) → (one ≡ held) ⊎ (Has held xs ⊎ Has held ys)
    → Has held (one ∷ xs) ⊎ Has held ys
later_has held one xs ys (inl is) = inl (inl is)
later_has held one xs ys (inr (inl has)) = inl (inr has)
later_has held one xs ys (inr (inr has)) = inr has

has_of : (held : Outstanding) (xs ys : List Outstanding) → Has held (xs ++ ys) → Has held xs ⊎ Has held ys
has_of held [] ys has = inr has
has_of held (one ∷ xs) ys (inl is) = inl (inl is)
has_of held (one ∷ xs) ys (inr has) = later_has held one xs ys (inr (has_of held xs ys has))

has_more : (held one : Outstanding) (xs ys : List Outstanding) → Has held (xs ++ ys) → Has held (xs ++ one ∷ ys)
has_more held one [] ys has = inr has
has_more held one (x ∷ xs) ys (inl is) = inl is
has_more held one (x ∷ xs) ys (inr has) = inr (has_more held one xs ys has)

-- of a request one is kept at most
single : (one held : Outstanding) → Has held (one ∷ []) → one ∷ [] ≡ held ∷ []
single one held (inl is) = ap (λ (h : Outstanding). h ∷ []) is
single one held (inr none) = absurd none

only : (request : Request) (judged : Result Task ℕ) (held : Outstanding) → Has held (outstanding_for request judged)
    → outstanding_for request judged ≡ held ∷ []
only request (Ok (Read offset n)) held has = single _ held has
only request (Ok (Write offset n fua)) held has = single _ held has
only request (Ok (Zero offset n fua)) held has = single _ held has
only request (Ok Flush) held has = single _ held has
only request (Ok Nothing) held has = absurd has
only request (Ok Disconnect) held has = absurd has
only request (Err code) held has = absurd has

-- a piece changes no request and no count
fed_same : (at : Stage) (old : Session) (piece : List ℕ) (new : Session) → FeedsAt at old piece new
    → (new.outstanding ≡ old.outstanding) × (new.count ≡ old.count)
fed_same stage.Haggling old piece new fed =
    (ap (λ (s : Session). s.outstanding) fed.new_is, ap (λ (s : Session). s.count) fed.new_is)
fed_same stage.Serving old piece new fed =
    (ap (λ (s : Session). s.outstanding) fed, ap (λ (s : Session). s.count) fed)
fed_same (stage.Ended by) old piece new fed = absurd fed

-- the count of requests that were read does not fall
step_grows : (event : Event) (old new : Session) → Step old event new → old.count ≤ new.count
step_grows (Fed piece) old new step = omega (arith, (fed_same old.stage old piece new step).1)
step_grows (Asked request judged) old new step =
    let is : new.count ≡ old.count + 1 = ap (λ (s : Session). s.count) step.new_is in omega (arith, is)
step_grows (Stopped fault) old new step =
    let is : new.count ≡ old.count = ap (λ (s : Session). s.count) step.new_is in omega (arith, is)
step_grows (Answered index outcome) old new step =
    let is : new.count ≡ old.count = ap (λ (s : Session). s.count) step.new_is in omega (arith, is)
step_grows (Took bytes) old new step =
    let is : new.count ≡ old.count = ap (λ (s : Session). s.count) step.new_is in omega (arith, is)

-- one that is read later has an index that is not smaller than the count before
asked_above : (between after : List Event) (other : Request) (later : Result Task ℕ) (old new : Session)
    → Runs old (between ++ Asked other later ∷ after) new → old.count ≤ other.index
asked_above [] after other later old new runs = omega (arith, runs.1.index_is)
asked_above (event ∷ between) after other later old new runs =
    let grows = step_grows event old runs.0 runs.1 in
    omega (arith, grows, asked_above between after other later runs.0 new runs.2)

arrivals : (before between after : List Event) (request other : Request) (judged later : Result Task ℕ) (old new : Session)
    → Runs old (before ++ Asked request judged ∷ (between ++ Asked other later ∷ after)) new
    → request.index < other.index
arrivals [] between after request other judged later old new runs =
    let is : runs.0.count ≡ old.count + 1 = ap (λ (s : Session). s.count) runs.1.new_is in
    omega (arith, is, runs.1.index_is, asked_above between after other later runs.0 new runs.2)
arrivals (event ∷ before) between after request other judged later old new runs =
    arrivals before between after request other judged later runs.0 new runs.2

module _ {G : Type 0} (F : Note → G → G → Type 0) where
  -- the request was outstanding before, or has come since
  abbrev Came : Moment G → List Event → Outstanding → Moment G → Type 0
  Came old events held new = Has held old.core.outstanding ⊎ HasCome F old events held new

  earlier_too : (old mid new : Moment G) (event : Event) (events : List Event) (held : Outstanding)
      → StepWith F old event mid → HasCome F mid events held new → HasCome F old (event ∷ events) held new
  earlier_too old mid new event events held step come = record {
    before = event ∷ come.before;
    request = come.request;
    judged = come.judged;
    between = come.between;
    events_are = ap (λ (es : List Event). event ∷ es) come.events_are;
    is_held = come.is_held;
    old = come.old;
    new = come.new;
    earlier = (mid, step, come.earlier);
    reads = come.reads;
    comes = come.comes;
    later = come.later;
  }

  -- where a step adds no request
  same_held : (old mid new : Moment G) (event : Event) (events : List Event) (held : Outstanding) → StepWith F old event mid
      → (Has held mid.core.outstanding → Has held old.core.outstanding) → Came mid events held new
      → Came old (event ∷ events) held new
  same_held old mid new event events held step keeps (inl has) = inl (keeps has)
  same_held old mid new event events held step keeps (inr come) =
      inr (earlier_too old mid new event events held step come)

  at_once : (old mid new : Moment G) (request : Request) (judged : Result Task ℕ) (events : List Event) (held : Outstanding)
      → AsksWith F old request judged mid → RunsWith F mid events new
      → Has held old.core.outstanding ⊎ Has held (outstanding_for request judged)
      → Came old (Asked request judged ∷ events) held new
  at_once old mid new request judged events held reads runs (inl has) = inl has
  at_once old mid new request judged events held reads runs (inr has) =
      let is = only request judged held has in
      inr (record {
        before = [];
        request = request;
        judged = judged;
        between = events;
        events_are = refl;
        is_held = is;
        old = old;
        new = mid;
        earlier = refl;
        reads = reads;
        comes = subst (λ (xs : List Outstanding). NotesFor F request.payload xs old.log mid.log) is reads.notes;
        later = runs;
      })

  read_now : (old mid new : Moment G) (request : Request) (judged : Result Task ℕ) (events : List Event) (held : Outstanding)
      → AsksWith F old request judged mid → RunsWith F mid events new → Came mid events held new
      → Came old (Asked request judged ∷ events) held new
  read_now old mid new request judged events held reads runs (inl has) =
      at_once old mid new request judged events held reads runs
      (has_of held old.core.outstanding (outstanding_for request judged)
      (subst (Has held) (ap (λ (s : Session). s.outstanding) reads.asks.new_is) has))
  read_now old mid new request judged events held reads runs (inr come) =
      inr (earlier_too old mid new (Asked request judged) events held reads come)

  came : (events : List Event) (old new : Moment G) (held : Outstanding) → RunsWith F old events new
      → Has held new.core.outstanding → Came old events held new
  came [] old new held runs has = inl (subst (λ (m : Moment G). Has held m.core.outstanding) runs has)
  came (Fed piece ∷ events) old new held runs has =
      same_held old runs.0 new (Fed piece) events held runs.1
      (subst (Has held) (fed_same old.core.stage old.core piece runs.0.core runs.1.0).0)
      (came events runs.0 new held runs.2 has)
  came (Asked request judged ∷ events) old new held runs has =
      read_now old runs.0 new request judged events held runs.1 runs.2 (came events runs.0 new held runs.2 has)
  came (Stopped found ∷ events) old new held runs has =
      same_held old runs.0 new (Stopped found) events held runs.1
      (subst (Has held) (ap (λ (s : Session). s.outstanding) runs.1.0.new_is))
      (came events runs.0 new held runs.2 has)
  came (Answered index outcome ∷ events) old new held runs has =
      let answers = runs.1.answers in
      same_held old runs.0 new (Answered index outcome) events held runs.1
      (λ kept. subst (Has held) (sym answers.found) (has_more held answers.held answers.before answers.after
      (subst (Has held) (ap (λ (s : Session). s.outstanding) answers.new_is) kept)))
      (came events runs.0 new held runs.2 has)
  came (Took bytes ∷ events) old new held runs has =
      same_held old runs.0 new (Took bytes) events held runs.1
      (subst (Has held) (ap (λ (s : Session). s.outstanding) runs.1.0.new_is))
      (came events runs.0 new held runs.2 has)

  -- where none was outstanding before
  come_since : (old : Moment G) (events : List Event) (held : Outstanding) (new : Moment G) → old.core.outstanding ≡ []
      → Came old events held new → HasCome F old events held new
  come_since old events held new none (inl has) = absurd (subst (Has held) none has)
  come_since old events held new none (inr come) = come

  pub answers_what_came : AnswersWhatCame F
  answers_what_came from events old index outcome new none runs answer =
      let held = answer.answers.held in
      come_since from events held old none
      (came events from old held runs
      (subst (Has held) (sym answer.answers.found) (has_at held answer.answers.before answer.answers.after)))

  pub answers_once : AnsweredOnce → AnswersOnce F
  answers_once once old before between after index outcome other new none runs =
      once old.core index before between after outcome other new.core none
      (runs_of F old new (before ++ Answered index outcome ∷ (between ++ Answered index other ∷ after)) runs)

  pub arrivals_rise : ArrivalsRise F
  arrivals_rise before between after request other judged later old new runs =
      arrivals before between after request other judged later old.core new.core
      (runs_of F old new (before ++ Asked request judged ∷ (between ++ Asked other later ∷ after)) runs)
