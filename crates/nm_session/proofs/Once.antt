-- The indexes of the outstanding requests rise, so that one that is answered does not come back.
use Rattle.std.proofs.Common.{◌≡◌, ◌≢◌, ℕ, ◌+◌, ◌<◌, List, [], ◌∷◌, ◌++◌, Result, Ok, Err, sym, ap, subst, arith}
use Rattle.std.specs.List.{AllByRecursion}
use Rattle.std.proofs.lemmas.List.{append-nil}
use Rattle.nm_haggle.proofs.Pieces.{all_append}
use Rattle.nm_requests.specs.declared.request.Request.{Request}
use Rattle.nm_requests.specs.declared.task.Task.{Task}
use Rattle.nm_requests.specs.declared.task.Task.TheVariants.{Read, Write, Zero, Flush, Nothing, Disconnect}
use Rattle.nm_session.specs.declared.outstanding.Outstanding.{Outstanding}
use Rattle.nm_session.specs.declared.outcome.Outcome.{Outcome}
use Rattle.nm_session.specs.declared.stage.Stage.{Stage}
use Rattle.nm_session.specs.declared.stage.Stage.TheVariants as stage
use Rattle.nm_session.specs.Asking.{Answers, outstanding_for}
use Rattle.nm_session.specs.Event.{Event, Fed, Asked, Stopped, Answered, Took, Step, Runs}
use Rattle.nm_session.specs.Feeding.{FeedsAt}
use Rattle.nm_session.specs.Session.{Session}
use Rattle.nm_session.proofs.Known.{taken_out}

-- each of these has an index above this one
abbrev AreAbove : ℕ → List Outstanding → Type 0
AreAbove index xs = AllByRecursion (λ (h : Outstanding). index < h.index) xs

abbrev AreBelow : ℕ → List Outstanding → Type 0
AreBelow count xs = AllByRecursion (λ (h : Outstanding). h.index < count) xs

-- none of these has this index
abbrev pub Lacks : ℕ → List Outstanding → Type 0
Lacks index xs = AllByRecursion (λ (h : Outstanding). h.index ≢ index) xs

abbrev Rise : List Outstanding → Type 0
Rise [] = Unit {0}
Rise (held ∷ xs) = AreAbove held.index xs × Rise xs

-- the outstanding requests were read, in the order of their indexes
abbrev pub IsOrdered : ℕ → List Outstanding → Type 0
IsOrdered count xs = AreBelow count xs × Rise xs

-- a request of this index was read, and is not outstanding
abbrev pub IsGone : ℕ → ℕ → List Outstanding → Type 0
IsGone index count xs = (index < count) × Lacks index xs

map_all : (P Q : Outstanding → Type 0) → ((h : Outstanding) → P h → Q h) → (xs : List Outstanding)
    → AllByRecursion P xs → AllByRecursion Q xs
map_all P Q f [] all = tt
map_all P Q f (h ∷ xs) all = (f h all.0, map_all P Q f xs all.1)

-- one more, with an index above all others
rise_more : (xs : List Outstanding) (held : Outstanding) → AreBelow held.index xs → Rise xs → Rise (xs ++ held ∷ [])
rise_more [] held below rise = (tt, tt)
rise_more (h ∷ xs) held below rise = (
  all_append (λ (o : Outstanding). h.index < o.index) xs (held ∷ []) rise.0 (below.0, tt),
  rise_more xs held below.1 rise.1,
)

-- one is taken out: the others still rise, and lack its index
rise_less : (xs : List Outstanding) (held : Outstanding) (ys : List Outstanding) → Rise (xs ++ held ∷ ys)
    → Rise (xs ++ ys) × Lacks held.index (xs ++ ys)
rise_less [] held ys rise = (
  rise.1,
  map_all (λ (o : Outstanding). held.index < o.index) (λ (o : Outstanding). o.index ≢ held.index)
      (λ o above e. omega (arith, above, e)) ys rise.0,
)
rise_less (h ∷ xs) held ys rise =
    let split = taken_out (λ (o : Outstanding). h.index < o.index) xs held ys rise.0 in
    let less = rise_less xs held ys rise.1 in
    ((split.1, less.0), ((λ e. omega (arith, split.0, e)), less.1))

one_ordered : (count : ℕ) (xs : List Outstanding) (held : Outstanding) → held.index ≡ count → IsOrdered count xs
    → IsOrdered (count + 1) (xs ++ held ∷ [])
one_ordered count xs held is ordered = (
  all_append (λ (h : Outstanding). h.index < count + 1) xs (held ∷ [])
      (map_all (λ (h : Outstanding). h.index < count) (λ (h : Outstanding). h.index < count + 1)
      (λ h below. omega (arith, below)) xs ordered.0) (omega (arith, is), tt),
  rise_more xs held (subst (λ n. AreBelow n xs) (sym is) ordered.0) ordered.1,
)

none_ordered : (count : ℕ) (xs : List Outstanding) → IsOrdered count xs → IsOrdered (count + 1) (xs ++ [])
none_ordered count xs ordered =
    rw (append-nil xs) (
      map_all (λ (h : Outstanding). h.index < count) (λ (h : Outstanding). h.index < count + 1)
          (λ h below. omega (arith, below)) xs ordered.0,
      ordered.1,
    )

asked_ordered : (count : ℕ) (xs : List Outstanding) (request : Request) (judged : Result Task ℕ)
    → request.index ≡ count → IsOrdered count xs → IsOrdered (count + 1) (xs ++ outstanding_for request judged)
asked_ordered count xs request (Ok (Read offset n)) is ordered = one_ordered count xs _ is ordered
asked_ordered count xs request (Ok (Write offset n fua)) is ordered = one_ordered count xs _ is ordered
asked_ordered count xs request (Ok (Zero offset n fua)) is ordered = one_ordered count xs _ is ordered
asked_ordered count xs request (Ok Flush) is ordered = one_ordered count xs _ is ordered
asked_ordered count xs request (Ok Nothing) is ordered = none_ordered count xs ordered
asked_ordered count xs request (Ok Disconnect) is ordered = none_ordered count xs ordered
asked_ordered count xs request (Err code) is ordered = none_ordered count xs ordered

one_gone : (index count : ℕ) (xs : List Outstanding) (held : Outstanding) → held.index ≡ count
    → IsGone index count xs → IsGone index (count + 1) (xs ++ held ∷ [])
one_gone index count xs held is gone = (
  omega (arith, gone.0),
  all_append (λ (h : Outstanding). h.index ≢ index) xs (held ∷ []) gone.1
      ((λ e. omega (arith, gone.0, is, e)), tt),
)

none_gone : (index count : ℕ) (xs : List Outstanding) → IsGone index count xs
    → IsGone index (count + 1) (xs ++ [])
none_gone index count xs gone = rw (append-nil xs) (omega (arith, gone.0), gone.1)

asked_gone : (index count : ℕ) (xs : List Outstanding) (request : Request) (judged : Result Task ℕ)
    → request.index ≡ count → IsGone index count xs
    → IsGone index (count + 1) (xs ++ outstanding_for request judged)
asked_gone index count xs request (Ok (Read offset n)) is gone = one_gone index count xs _ is gone
asked_gone index count xs request (Ok (Write offset n fua)) is gone = one_gone index count xs _ is gone
asked_gone index count xs request (Ok (Zero offset n fua)) is gone = one_gone index count xs _ is gone
asked_gone index count xs request (Ok Flush) is gone = one_gone index count xs _ is gone
asked_gone index count xs request (Ok Nothing) is gone = none_gone index count xs gone
asked_gone index count xs request (Ok Disconnect) is gone = none_gone index count xs gone
asked_gone index count xs request (Err code) is gone = none_gone index count xs gone

-- what a step that asks and answers nothing leaves
pub record Keeps (old new : Session) : Type 0 where
  pub count : new.count ≡ old.count
  pub outstanding : new.outstanding ≡ old.outstanding

feed_keeps : (shown : Stage) (old : Session) (piece : List ℕ) (new : Session)
    → FeedsAt shown old piece new → Keeps old new
feed_keeps stage.Haggling old piece new fed = record {
  count = ap (λ (s : Session). s.count) fed.new_is;
  outstanding = ap (λ (s : Session). s.outstanding) fed.new_is;
}
feed_keeps stage.Serving old piece new fed = record {
  count = ap (λ (s : Session). s.count) fed;
  outstanding = ap (λ (s : Session). s.outstanding) fed;
}
feed_keeps (stage.Ended by) old piece new fed = absurd fed

-- what is so of count and outstanding requests stays so
along : (P : ℕ → List Outstanding → Type 0) (old new : Session) → Keeps old new
    → P old.count old.outstanding → P new.count new.outstanding
along P old new keeps p =
    subst (λ n. P n new.outstanding) (sym keeps.count)
    (subst (λ (xs : List Outstanding). P old.count xs) (sym keeps.outstanding) p)

moved : (P : ℕ → List Outstanding → Type 0) (new : Session) (count : ℕ) (xs : List Outstanding)
    → new.count ≡ count → new.outstanding ≡ xs → P count xs → P new.count new.outstanding
moved P new count xs e f p =
    subst (λ n. P n new.outstanding) (sym e) (subst (λ (ys : List Outstanding). P count ys) (sym f) p)

step_ordered : (event : Event) (old new : Session) → Step old event new
    → IsOrdered old.count old.outstanding → IsOrdered new.count new.outstanding
step_ordered (Fed piece) old new step ordered =
    along IsOrdered old new (feed_keeps old.stage old piece new step) ordered
step_ordered (Asked request judged) old new step ordered =
    moved IsOrdered new (old.count + 1) (old.outstanding ++ outstanding_for request judged)
    (ap (λ (s : Session). s.count) step.new_is) (ap (λ (s : Session). s.outstanding) step.new_is)
    (asked_ordered old.count old.outstanding request judged step.index_is ordered)
step_ordered (Stopped fault) old new step ordered =
    along IsOrdered old new (record {
      count = ap (λ (s : Session). s.count) step.new_is;
      outstanding = ap (λ (s : Session). s.outstanding) step.new_is;
    }) ordered
step_ordered (Answered index outcome) old new step ordered =
    let was = subst (λ (xs : List Outstanding). IsOrdered old.count xs) step.found ordered in
    moved IsOrdered new old.count (step.before ++ step.after)
    (ap (λ (s : Session). s.count) step.new_is) (ap (λ (s : Session). s.outstanding) step.new_is) (
      (taken_out (λ (h : Outstanding). h.index < old.count) step.before step.held step.after was.0).1,
      (rise_less step.before step.held step.after was.1).0,
    )
step_ordered (Took bytes) old new step ordered =
    along IsOrdered old new (record {
      count = ap (λ (s : Session). s.count) step.new_is;
      outstanding = ap (λ (s : Session). s.outstanding) step.new_is;
    }) ordered

step_gone : (index : ℕ) (event : Event) (old new : Session) → Step old event new
    → IsGone index old.count old.outstanding → IsGone index new.count new.outstanding
step_gone index (Fed piece) old new step gone =
    along (IsGone index) old new (feed_keeps old.stage old piece new step) gone
step_gone index (Asked request judged) old new step gone =
    moved (IsGone index) new (old.count + 1) (old.outstanding ++ outstanding_for request judged)
    (ap (λ (s : Session). s.count) step.new_is) (ap (λ (s : Session). s.outstanding) step.new_is)
    (asked_gone index old.count old.outstanding request judged step.index_is gone)
step_gone index (Stopped fault) old new step gone =
    along (IsGone index) old new (record {
      count = ap (λ (s : Session). s.count) step.new_is;
      outstanding = ap (λ (s : Session). s.outstanding) step.new_is;
    }) gone
step_gone index (Answered other outcome) old new step gone =
    let was = subst (λ (xs : List Outstanding). Lacks index xs) step.found gone.1 in
    moved (IsGone index) new old.count (step.before ++ step.after)
    (ap (λ (s : Session). s.count) step.new_is) (ap (λ (s : Session). s.outstanding) step.new_is)
    (gone.0, (taken_out (λ (h : Outstanding). h.index ≢ index) step.before step.held step.after was).1)
step_gone index (Took bytes) old new step gone =
    along (IsGone index) old new (record {
      count = ap (λ (s : Session). s.count) step.new_is;
      outstanding = ap (λ (s : Session). s.outstanding) step.new_is;
    }) gone

-- an answer is of one that is outstanding, which is gone then
answer_here : (index : ℕ) (outcome : Outcome) (old new : Session) → Answers old index outcome new
    → IsOrdered old.count old.outstanding → IsGone index new.count new.outstanding
answer_here index outcome old new step ordered =
    let was = subst (λ (xs : List Outstanding). IsOrdered old.count xs) step.found ordered in
    let below = (taken_out (λ (h : Outstanding). h.index < old.count) step.before step.held step.after was.0).0 in
    moved (IsGone index) new old.count (step.before ++ step.after)
    (ap (λ (s : Session). s.count) step.new_is) (ap (λ (s : Session). s.outstanding) step.new_is) (
      omega (arith, below, step.index_is),
      subst (λ n. Lacks n (step.before ++ step.after)) step.index_is
          (rise_less step.before step.held step.after was.1).1,
    )

never_again : (index : ℕ) (between after : List Event) (outcome : Outcome) (old new : Session)
    → IsGone index old.count old.outstanding
    → Runs old (between ++ Answered index outcome ∷ after) new → ⊥
never_again index [] after outcome old new gone runs =
    let was = subst (λ (xs : List Outstanding). Lacks index xs) runs.1.found gone.1 in
    (taken_out (λ (h : Outstanding). h.index ≢ index) runs.1.before runs.1.held runs.1.after was).0
    runs.1.index_is
never_again index (event ∷ between) after outcome old new gone runs =
    never_again index between after outcome runs.0 new (step_gone index event old runs.0 runs.1 gone)
    runs.2

pub once : (before between after : List Event) (index : ℕ) (outcome other : Outcome)
    (old new : Session) → IsOrdered old.count old.outstanding
    → Runs old (before ++ Answered index outcome ∷ (between ++ Answered index other ∷ after)) new → ⊥
once [] between after index outcome other old new ordered runs =
    never_again index between after other runs.0 new
    (answer_here index outcome old runs.0 runs.1 ordered) runs.2
once (event ∷ before) between after index outcome other old new ordered runs =
    once before between after index outcome other runs.0 new
    (step_ordered event old runs.0 runs.1 ordered) runs.2
