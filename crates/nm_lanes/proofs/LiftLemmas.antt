-- Steps on one lane are steps of the mirror, and lists of the mirror's steps join.
use Rattle.std.proofs.Common.{◌≡◌, ◌≢◌, inl, inr, ℕ, ◌<◌, ◌==◌, Bool, true, false, Some, List, [], ◌∷◌, ◌++◌, length, get_or, slice_get, slice_set, refl, sym, ap, ◌∙◌, subst, if◌then◌else◌, rules, arith}
use Rattle.std.proofs.lemmas.Bool.Decides.{eqb_tells}
use Rattle.std.proofs.lemmas.List.{length-set}
use Rattle.std.proofs.lemmas.Option.{slice_get_within, slice_get-get_or}
use Rattle.nm_replay.proofs.Arrays.{slice_get-set_same, slice_get-set_other}
use Rattle.nm_lanes.specs.Done.{Done}
use Rattle.nm_lanes.specs.Own.{helps, own_done}
use Rattle.nm_lanes.specs.Lane.{LaneDoes}
use Rattle.nm_lanes.specs.Lists.{MirrorStep, steps_in, stripe_list, own_steps, Leads, Does}

-- a stripe's own list is the list itself, another stripe's is empty
pub list-same : {L : Type 0} (stripe : ℕ) (xs : List (Done L)) → stripe_list stripe (steps_in stripe xs) ≡ xs
list-same stripe [] = refl
list-same stripe (x ∷ xs) = elim (eqb_tells stripe stripe) [
  | inl hit ↦ rw hit.0 (ap (λ ys. x ∷ ys) (list-same stripe xs))
  | inr miss ↦ absurd (miss.1 refl)
]

pub list-other : {L : Type 0} (stripe other : ℕ) (xs : List (Done L)) → stripe ≢ other → stripe_list other (steps_in stripe xs) ≡ []
list-other stripe other [] differs = refl
list-other stripe other (x ∷ xs) differs = elim (eqb_tells stripe other) [
  | inl hit ↦ absurd (differs hit.1)
  | inr miss ↦ rw miss.0 (list-other stripe other xs differs)
]

kept-append : {A : Type 0} (b : Bool) (x : A) (all xs ys : List A) → all ≡ xs ++ ys → (if b then x ∷ all else all) ≡ (if b then x ∷ xs else xs) ++ ys
kept-append false x all xs ys is = is
kept-append true x all xs ys is = ap (λ zs. x ∷ zs) is

left-append : {A : Type 0} (b : Bool) (x : A) (all xs ys : List A) → all ≡ xs ++ ys → (if b then all else x ∷ all) ≡ (if b then xs else x ∷ xs) ++ ys
left-append true x all xs ys is = is
left-append false x all xs ys is = ap (λ zs. x ∷ zs) is

pub list-append : {L : Type 0} (stripe : ℕ) (xs ys : List (MirrorStep L)) → stripe_list stripe (xs ++ ys) ≡ stripe_list stripe xs ++ stripe_list stripe ys
list-append stripe [] ys = refl
list-append stripe (x ∷ xs) ys = kept-append (x.stripe == stripe) x.done (stripe_list stripe (xs ++ ys)) (stripe_list stripe xs) (stripe_list stripe ys) (list-append stripe xs ys)

pub own_steps-append : {L : Type 0} (xs ys : List (MirrorStep L)) → own_steps (xs ++ ys) ≡ own_steps xs ++ own_steps ys
own_steps-append [] ys = refl
own_steps-append (x ∷ xs) ys = left-append (helps x.done.step x.done.answer) x (own_steps (xs ++ ys)) (own_steps xs) (own_steps ys) (own_steps-append xs ys)

-- the own ones of one stripe's steps
own-map : {L : Type 0} (b : Bool) (stripe : ℕ) (x : Done L) (all : List (MirrorStep L)) (xs : List (Done L)) → all ≡ steps_in stripe xs
    → (if b then all else record { stripe = stripe; done = x } ∷ all) ≡ steps_in stripe (if b then xs else x ∷ xs)
own-map true stripe x all xs is = is
own-map false stripe x all xs is = ap (λ zs. record { stripe = stripe; done = x } ∷ zs) is

pub own-in : {L : Type 0} (stripe : ℕ) (xs : List (Done L)) → own_steps (steps_in stripe xs) ≡ steps_in stripe (own_done xs)
own-in stripe [] = refl
own-in stripe (x ∷ xs) = own-map (helps x.step x.answer) stripe x (own_steps (steps_in stripe xs)) (own_done xs) (own-in stripe xs)

pub in-append : {L : Type 0} (stripe : ℕ) (xs ys : List (Done L)) → steps_in stripe (xs ++ ys) ≡ steps_in stripe xs ++ steps_in stripe ys
in-append stripe [] ys = refl
in-append stripe (x ∷ xs) ys = ap (λ zs. record { stripe = stripe; done = x } ∷ zs) (in-append stripe xs ys)

-- what is there is one
pub some-same : {X : Type 0} (x y : X) → Some x ≡ Some y → x ≡ y
some-same x y e = search (rules, e)

module _ {L D : Type 0} (follows : D → List (Done L) → D → Type 0) (stays : (lane : D) → follows lane [] lane) where
  -- no step
  idle : (old : List D) (stripe : ℕ) (before behind : D) (list : List (Done L)) → list ≡ [] → slice_get old stripe ≡ Some before → slice_get old stripe ≡ Some behind → follows before list behind
  idle old stripe before behind list none was is =
      subst (λ (lane : D). follows before list lane) (some-same before behind (sym was ∙ is)) (subst (λ (xs : List (Done L)). follows before xs before) (sym none) (stays before))

  pub leads-none : (old : List D) → Leads follows old [] old
  leads-none old = record { as_many = refl; each = λ stripe before behind was is. idle old stripe before behind [] refl was is }

  pub does-none : (old : List D) → Does follows old old []
  does-none old = record { list = []; leads = leads-none old; own_is = refl }

  -- steps of one lane
  pub leads-lane : (old : List D) (stripe : ℕ) (d behind : D) (list : List (Done L)) → stripe < length old → follows (get_or old stripe d) list behind → Leads follows old (steps_in stripe list) (slice_set old stripe behind)
  leads-lane old stripe d behind list inside led = record {
    as_many = length-set old stripe behind;
    each = λ other before after was is. elim (eqb_tells stripe other) [
      | inl hit ↦ here other hit.1 before after was is
      | inr miss ↦ idle old other before after (stripe_list other (steps_in stripe list)) (list-other stripe other list miss.1) was (sym (slice_get-set_other old stripe other behind miss.1) ∙ is)
    ];
  }
    where
      there : (before after : D) → slice_get old stripe ≡ Some before → slice_get (slice_set old stripe behind) stripe ≡ Some after → follows before (stripe_list stripe (steps_in stripe list)) after
      there before after was is =
          let first : get_or old stripe d ≡ before = some-same (get_or old stripe d) before (sym (slice_get-get_or old stripe d inside) ∙ was) in
          let last : behind ≡ after = some-same behind after (sym (slice_get-set_same old stripe behind inside) ∙ is) in
          rw (list-same stripe list, ← first, ← last) led

      here : (other : ℕ) → stripe ≡ other → (before after : D) → slice_get old other ≡ Some before → slice_get (slice_set old stripe behind) other ≡ Some after → follows before (stripe_list other (steps_in stripe list)) after
      here other hit before after was is =
          rw (← hit) (there before after (rw (← hit) at was) (rw (← hit) at is))

  pub does-lane : (old : List D) (stripe : ℕ) (d behind : D) (own : List (Done L)) → stripe < length old → LaneDoes follows (get_or old stripe d) behind own → Does follows old (slice_set old stripe behind) (steps_in stripe own)
  does-lane old stripe d behind own inside a = record {
    list = steps_in stripe a.list;
    leads = leads-lane old stripe d behind a.list inside a.leads;
    own_is = own-in stripe a.list ∙ ap (λ xs. steps_in stripe xs) a.own_is;
  }

module _ {L D : Type 0} (follows : D → List (Done L) → D → Type 0)
    (joins : (first mid last : D) (before after : List (Done L)) → follows first before mid → follows mid after last → follows first (before ++ after) last) where
  -- a list after a list
  pub leads-append : (old mid new : List D) (xs ys : List (MirrorStep L)) → Leads follows old xs mid → Leads follows mid ys new → Leads follows old (xs ++ ys) new
  leads-append old mid new xs ys a b = record {
    as_many = b.as_many ∙ a.as_many;
    each = λ stripe before behind was is.
        let inside : stripe < length mid = omega (arith, a.as_many, slice_get_within old stripe before was) in
        let between = slice_get-get_or mid stripe before inside in
        rw (list-append stripe xs ys) (joins before (get_or mid stripe before) behind (stripe_list stripe xs) (stripe_list stripe ys)
        (a.each stripe before (get_or mid stripe before) was between) (b.each stripe (get_or mid stripe before) behind between is));
  }

  pub does-append : (old mid new : List D) (xs ys : List (MirrorStep L)) → Does follows old mid xs → Does follows mid new ys → Does follows old new (xs ++ ys)
  does-append old mid new xs ys a b = record {
    list = a.list ++ b.list;
    leads = leads-append old mid new a.list b.list a.leads b.leads;
    own_is = own_steps-append a.list b.list ∙ ap (λ zs. zs ++ own_steps b.list) a.own_is ∙ ap (λ zs. xs ++ zs) b.own_is;
  }
