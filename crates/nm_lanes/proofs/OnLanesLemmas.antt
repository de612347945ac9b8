-- A call on the lanes of stripes that follow one another, some and then others.
use Rattle.std.proofs.Common.{Result, Ok, Err, ◌≡◌, inl, inr, ℕ, ◌+◌, ◌<◌, List, ◌++◌, length, subst, arith}
use Rattle.std.proofs.lemmas.List.{length-append}
use Rattle.nm_lanes.specs.declared.call_error.CallError.{CallError}
use Rattle.nm_lanes.specs.Done.{Done}
use Rattle.nm_lanes.specs.Ends.{EachLane, LaneDid, LaneTries}
use Rattle.nm_lanes.specs.OnLanes.{DidLanes, EndedLanes, RunsLanes}
use Rattle.nm_lanes.proofs.EachLemmas.{each-append, each-map}

module _ {L D : Type 0} (follows : D → List (Done L) → D → Type 0) (All Share : ℕ → List (Done L) → Type 0)
    (some : (stripe : ℕ) (own : List (Done L)) → All stripe own → Share stripe own) where
  -- a lane on which all was done, in a call that ended in another stripe
  pub did-tries : (stripe : ℕ) (cause : CallError) (old new : D) → (stripe ≡ cause.stripe → ⊥) → LaneDid follows (All stripe) old new → LaneTries follows (Share stripe) cause stripe old new
  did-tries stripe cause old new other a = record { own = a.own; share = some stripe a.own a.all; did = inl (a.claimed, a.does); ends = λ is. absurd (other is) }

  -- the same lane, in a call whose cause is in a stripe below
  tries-other : (stripe : ℕ) (first second : CallError) (old new : D) → second.stripe < stripe → LaneTries follows (Share stripe) first stripe old new → LaneTries follows (Share stripe) second stripe old new
  tries-other stripe first second old new below a = record {
    own = a.own;
    share = a.share;
    did = elim a.did [
      | inl does ↦ inl does
      | inr ends ↦ inr (omega (arith, below), ends.1, ends.2)
    ];
    ends = λ is. absurd (omega (arith, is, below));
  }

  -- lanes on which the call ended, and others
  ended-more : (first : ℕ) (cause : CallError) (xs us ys vs : List D) → EndedLanes follows Share first (xs, us) cause
      → EachLane (λ stripe old new. LaneTries follows (Share stripe) cause stripe old new) (first + length xs) ys vs → EndedLanes follows Share first (xs ++ ys, us ++ vs) cause
  ended-more first cause xs us ys vs a b = record {
    from = a.from;
    upto = let long = length-append xs ys in omega (arith, a.upto, long);
    each = each-append (λ stripe old new. LaneTries follows (Share stripe) cause stripe old new) first xs us ys vs a.each b;
  }

  -- the call ended on the first lanes, whatever came of the others
  pub first-ended : {A : Type 0} (first : ℕ) (cause : CallError) (xs us ys vs : List D) (second : Result A CallError) → EndedLanes follows Share first (xs, us) cause
      → RunsLanes follows All Share (first + length xs) (ys, vs) second → EndedLanes follows Share first (xs ++ ys, us ++ vs) cause
  first-ended first cause xs us ys vs (Ok done) a b =
      ended-more first cause xs us ys vs a (each-map (λ stripe old new. LaneDid follows (All stripe) old new) (λ stripe old new. LaneTries follows (Share stripe) cause stripe old new) (first + length xs) ys vs
      (λ stripe old new from upto did. did-tries stripe cause old new (λ is. omega (arith, is, from, a.upto)) did) b)
  first-ended first cause xs us ys vs (Err later) a b =
      ended-more first cause xs us ys vs a (each-map (λ stripe old new. LaneTries follows (Share stripe) later stripe old new) (λ stripe old new. LaneTries follows (Share stripe) cause stripe old new) (first + length xs) ys vs
      (λ stripe old new from upto tries. tries-other stripe later cause old new (omega (arith, from, a.upto)) tries) b.each)

  -- all was done on the first lanes, and so it is as for the others
  pub first-done : {A : Type 0} (first : ℕ) (xs us ys vs : List D) (second : Result A CallError) → DidLanes follows All first (xs, us)
      → RunsLanes follows All Share (first + length xs) (ys, vs) second → RunsLanes follows All Share first (xs ++ ys, us ++ vs) second
  first-done first xs us ys vs (Ok done) a b = each-append (λ stripe old new. LaneDid follows (All stripe) old new) first xs us ys vs a b
  first-done first xs us ys vs (Err cause) a b =
      let long = length-append xs ys in
      record {
        from = omega (arith, b.from);
        upto = omega (arith, b.upto, long);
        each = each-append (λ stripe old new. LaneTries follows (Share stripe) cause stripe old new) first xs us ys vs
            (each-map (λ stripe old new. LaneDid follows (All stripe) old new) (λ stripe old new. LaneTries follows (Share stripe) cause stripe old new) first xs us
            (λ stripe old new from upto did. did-tries stripe cause old new (λ is. omega (arith, is, upto, b.from)) did) a) b.each;
      }

  -- some lanes on which the call went through, and others
  pub both-ok : {A B : Type 0} (first next : ℕ) (xs us ys vs : List D) (lower : Result A CallError) (upper : Result B CallError) (done : A) → next ≡ first + length xs → lower ≡ Ok done
      → RunsLanes follows All Share first (xs, us) lower → RunsLanes follows All Share next (ys, vs) upper → RunsLanes follows All Share first (xs ++ ys, us ++ vs) upper
  both-ok {A} first next xs us ys vs lower upper done at is a b =
      first-done first xs us ys vs upper (subst (λ (r : Result A CallError). RunsLanes follows All Share first (xs, us) r) is a) (subst (λ (n : ℕ). RunsLanes follows All Share n (ys, vs) upper) at b)
