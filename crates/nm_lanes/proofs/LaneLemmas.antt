-- A lane's steps, one list after the other: their own ones, and the one that ends a call.
use Rattle.std.proofs.Common.{◌≡◌, inl, inr, ℕ, Bool, true, false, Some, None, List, [], ◌∷◌, ◌++◌, refl, sym, ap, ◌∙◌, subst, append_assoc, rules, if◌then◌else◌}
use Rattle.nm_rules.specs.declared.refusal.Refusal.{Refusal}
use Rattle.nm_rules.specs.declared.refusal.Refusal.TheVariants as refusal
use Rattle.nm_stripe.specs.declared.answer.Answer.{Answer}
use Rattle.nm_stripe.specs.declared.step.Step.{Step}
use Rattle.nm_stripe.specs.declared.step.Step.TheVariants.{Begin, Push, Claim, Read, Fail, Attach, Return, Replace, Copy, Promote, Sync, Flush}
use Rattle.nm_lanes.specs.declared.call_error_kind.CallErrorKind.{CallErrorKind}
use Rattle.nm_lanes.specs.declared.call_error_kind.CallErrorKind.TheVariants as cause
use Rattle.nm_lanes.specs.Done.{Done, done_as}
use Rattle.nm_lanes.specs.Own.{end_of, ends_with, helps, own_done, ClaimsOurs, EndsSo}
use Rattle.nm_lanes.specs.Lane.{LaneDoes, LaneStops}
use Rattle.nm_lanes.specs.Steps.{Nobodys, EndsHere}

-- a refusal that ends every call is no record that is gone
pub no-claim : (r : Refusal) → end_of r ≡ Some cause.NoTicket → ⊥
no-claim refusal.Fault e = search (rules, e)
no-claim refusal.Stopped e = search (rules, e)
no-claim refusal.Exhausted e = search (rules, e)
no-claim refusal.Astray e = search (rules, e)
no-claim refusal.SaveFailed e = search (rules, e)
no-claim other e = search (rules, e)

-- the own ones of two lists
kept-append : {A : Type 0} (b : Bool) (x : A) (all xs ys : List A) → all ≡ xs ++ ys → (if b then all else x ∷ all) ≡ (if b then xs else x ∷ xs) ++ ys
kept-append true x all xs ys is = is
kept-append false x all xs ys is = ap (λ zs. x ∷ zs) is

pub own-append : {L : Type 0} (xs ys : List (Done L)) → own_done (xs ++ ys) ≡ own_done xs ++ own_done ys
own-append [] ys = refl
own-append (x ∷ xs) ys = kept-append (helps x.step x.answer) x (own_done (xs ++ ys)) (own_done xs) (own_done ys) (own-append xs ys)

-- the own ones of one step
pub own-help : {L : Type 0} (d : Done L) → helps d.step d.answer ≡ true → own_done (d ∷ []) ≡ []
own-help d is = ap (λ b. if b then [] else d ∷ []) is

pub own-one : {L : Type 0} (d : Done L) → helps d.step d.answer ≡ false → own_done (d ∷ []) ≡ d ∷ []
own-one d is = ap (λ b. if b then [] else d ∷ []) is

claims-more : {L : Type 0} (ours theirs : ℕ → Type 0) → ((ticket : ℕ) → ours ticket → theirs ticket) → (step : Step L) → ClaimsOurs ours step → ClaimsOurs theirs step
claims-more ours theirs more (Claim ticket) h = more ticket h
claims-more ours theirs more (Begin block bytes) h = absurd h
claims-more ours theirs more (Push ticket leg) h = absurd h
claims-more ours theirs more (Read block room) h = absurd h
claims-more ours theirs more (Fail leg) h = absurd h
claims-more ours theirs more (Attach leg) h = absurd h
claims-more ours theirs more (Return leg marks) h = absurd h
claims-more ours theirs more (Replace leg part) h = absurd h
claims-more ours theirs more (Copy leg most from) h = absurd h
claims-more ours theirs more (Promote leg) h = absurd h
claims-more ours theirs more (Sync leg) h = absurd h
claims-more ours theirs more (Flush leg) h = absurd h

-- tickets that are ours are also theirs
pub ends-more : {L : Type 0} (ours theirs : ℕ → Type 0) (kind : CallErrorKind) (d : Done L) → ((ticket : ℕ) → ours ticket → theirs ticket) → EndsSo ours kind d → EndsSo theirs kind d
ends-more ours theirs kind d more e = record { answer = e.answer; ticket = λ is. claims-more ours theirs more d.step (e.ticket is) }

module _ {L D : Type 0} (follows : D → List (Done L) → D → Type 0) where
  -- one step
  pub does-help : (old new : D) (step : Step L) (answer : Answer L)
      → follows old (done_as step answer ∷ []) new → helps step answer ≡ true → LaneDoes follows old new []
  does-help old new step answer leads is = record { list = done_as step answer ∷ []; leads = leads; own_is = own-help (done_as step answer) is }

  pub does-own : (old new : D) (step : Step L) (answer : Answer L)
      → follows old (done_as step answer ∷ []) new → helps step answer ≡ false → LaneDoes follows old new (done_as step answer ∷ [])
  does-own old new step answer leads is = record { list = done_as step answer ∷ []; leads = leads; own_is = own-one (done_as step answer) is }

  pub stops-one : (old new : D) (step : Step L) (answer : Answer L) (Ends : Done L → Type 0)
      → follows old (done_as step answer ∷ []) new → Ends (done_as step answer) → LaneStops follows old new [] Ends
  stops-one old new step answer Ends leads ends = record { list = []; last = done_as step answer; leads = leads; own_is = refl; ends = ends }

  -- a step that was refused by an end of each call
  pub stops-refused : (old new : D) (step : Step L) (answer : Answer L) (r : Refusal) (kind : CallErrorKind) (ours : ℕ → Type 0)
      → follows old (done_as step answer ∷ []) new → ends_with step answer ≡ end_of r → end_of r ≡ Some kind → LaneStops follows old new [] (EndsSo ours kind)
  stops-refused old new step answer r kind ours leads meant is =
      stops-one old new step answer (EndsSo ours kind) leads (record { answer = meant ∙ is; ticket = λ e. absurd (no-claim r (is ∙ ap (λ k. Some k) e)) })

  -- a list after a list
  pub does-does : ((first mid last : D) (before after : List (Done L)) → follows first before mid → follows mid after last → follows first (before ++ after) last)
      → (old mid new : D) (first second : List (Done L)) → LaneDoes follows old mid first → LaneDoes follows mid new second → LaneDoes follows old new (first ++ second)
  does-does joins old mid new first second a b = record {
    list = a.list ++ b.list;
    leads = joins old mid new a.list b.list a.leads b.leads;
    own_is = own-append a.list b.list ∙ ap (λ xs. xs ++ own_done b.list) a.own_is ∙ ap (λ ys. first ++ ys) b.own_is;
  }

  pub does-stops : ((first mid last : D) (before after : List (Done L)) → follows first before mid → follows mid after last → follows first (before ++ after) last)
      → (old mid new : D) (first second : List (Done L)) (Ends : Done L → Type 0) → LaneDoes follows old mid first → LaneStops follows mid new second Ends → LaneStops follows old new (first ++ second) Ends
  does-stops joins old mid new first second Ends a b = record {
    list = a.list ++ b.list;
    last = b.last;
    leads = subst (λ (xs : List (Done L)). follows old xs new) (sym (append_assoc a.list b.list (b.last ∷ []))) (joins old mid new a.list (b.list ++ b.last ∷ []) a.leads b.leads);
    own_is = own-append a.list b.list ∙ ap (λ xs. xs ++ own_done b.list) a.own_is ∙ ap (λ ys. first ++ ys) b.own_is;
    ends = b.ends;
  }

  -- tickets that are ours are also theirs
  pub stops-more : (old new : D) (own : List (Done L)) (ours theirs : ℕ → Type 0) (kind : CallErrorKind)
      → ((ticket : ℕ) → ours ticket → theirs ticket) → LaneStops follows old new own (EndsSo ours kind) → LaneStops follows old new own (EndsSo theirs kind)
  stops-more old new own ours theirs kind more a = record {
    list = a.list;
    last = a.last;
    leads = a.leads;
    own_is = a.own_is;
    ends = ends-more ours theirs kind a.last more a.ends;
  }

  -- a refused step, and what came of it
  pub refused-goes : ((first mid last : D) (before after : List (Done L)) → follows first before mid → follows mid after last → follows first (before ++ after) last)
      → (old mid new : D) (step : Step L) (answer : Answer L)
      → follows old (done_as step answer ∷ []) mid → helps step answer ≡ true → LaneDoes follows mid new [] → LaneDoes follows old new []
  refused-goes joins old mid new step answer leads is b = does-does joins old mid new [] [] (does-help old mid step answer leads is) b

  pub refused-ends : ((first mid last : D) (before after : List (Done L)) → follows first before mid → follows mid after last → follows first (before ++ after) last)
      → (old mid new : D) (step : Step L) (answer : Answer L) (r : Refusal) (kind : CallErrorKind)
      → follows old (done_as step answer ∷ []) mid → ends_with step answer ≡ end_of r → (end_of r ≡ None → helps step answer ≡ true)
      → EndsHere follows (mid, new) r kind → LaneStops follows old new [] (EndsSo Nobodys kind)
  refused-ends joins old mid new step answer r kind leads meant is (inl at) =
      subst (λ (lane : D). LaneStops follows old lane [] (EndsSo Nobodys kind)) (sym at.1) (stops-refused old mid step answer r kind Nobodys leads meant at.0)
  refused-ends joins old mid new step answer r kind leads meant is (inr later) =
      does-stops joins old mid new [] [] (EndsSo Nobodys kind) (does-help old mid step answer leads (is later.0)) later.1
