-- A call's share of each lane: in other words, and after what was done before.
use Rattle.std.proofs.Common.{◌≡◌, inl, inr, ℕ, suc, ◌+◌, ◌==◌, Bool, true, false, if◌then◌else◌, Some, List, [], ◌∷◌, ◌++◌, length, slice_get, refl, sym, ap, ◌∙◌, subst, append_assoc, arith}
use Rattle.nm_stripe.specs.declared.answer.Answer.TheVariants.{Begun}
use Rattle.nm_stripe.specs.declared.step.Step.TheVariants.{Begin}
use Rattle.nm_lanes.specs.declared.call_error.CallError.{CallError}
use Rattle.nm_lanes.specs.declared.call_error_kind.CallErrorKind.{CallErrorKind}
use Rattle.nm_lanes.specs.Done.{Done, done_as}
use Rattle.nm_lanes.specs.Ends.{BeganOwn, ByLeaving, ByStep, EachLane, LaneDid, LaneEnds, LaneTries, LeavesZeroes}
use Rattle.nm_lanes.specs.Lists.{MirrorStep, stripe_list, own_steps}
use Rattle.nm_lanes.specs.Own.{helps, own_done, EndsSo}
use Rattle.nm_lanes.proofs.ClaimedLemmas.{claimed-append}
use Rattle.nm_lanes.proofs.LaneLemmas.{does-does, does-stops, stops-more}

-- the own steps of a stripe's list are the stripe's own steps
own-both : {L : Type 0} (help here : Bool) (x : MirrorStep L) (stripe : ℕ) (own : List (MirrorStep L)) (list : List (Done L)) → (x.stripe == stripe) ≡ here → helps x.done.step x.done.answer ≡ help → own_done list ≡ stripe_list stripe own
    → own_done (if here then x.done ∷ list else list) ≡ stripe_list stripe (if help then own else x ∷ own)
own-both true true x stripe own list at is same = rw is same
own-both true false x stripe own list at is same = same
own-both false true x stripe own list at is same = rw (is, at) (ap (λ ds. x.done ∷ ds) same)
own-both false false x stripe own list at is same = rw at same

pub own-list : {L : Type 0} (stripe : ℕ) (list : List (MirrorStep L)) → own_done (stripe_list stripe list) ≡ stripe_list stripe (own_steps list)
own-list stripe [] = refl
own-list stripe (x ∷ list) = own-both (helps x.done.step x.done.answer) (x.stripe == stripe) x stripe (own_steps list) (stripe_list stripe list) refl refl (own-list stripe list)

module _ {L D : Type 0} (follows : D → List (Done L) → D → Type 0) where
  pub did-share : (All Other : List (Done L) → Type 0) (old new : D) → ((own : List (Done L)) → All own → Other own) → LaneDid follows All old new → LaneDid follows Other old new
  did-share All Other old new more a = record { own = a.own; all = more a.own a.all; claimed = a.claimed; does = a.does }

  leaves-share : (Share Other : List (Done L) → Type 0) (own : List (Done L)) → ((own : List (Done L)) → Share own → Other own) → LeavesZeroes Share own → LeavesZeroes Other own
  leaves-share Share Other own more a = record { block = a.block; bytes = a.bytes; ticket = a.ticket; zeroes = a.zeroes; next = more (own ++ done_as (Begin a.block a.bytes) (Begun a.ticket) ∷ []) a.next }

  ends-share : (Share Other : List (Done L) → Type 0) (old new : D) (own : List (Done L)) (kind : CallErrorKind) → ((own : List (Done L)) → Share own → Other own) → LaneEnds follows Share (old, new) own kind → LaneEnds follows Other (old, new) own kind
  ends-share Share Other old new own kind more (ByStep a) = ByStep a
  ends-share Share Other old new own kind more (ByLeaving gone left claimed does) = ByLeaving gone (leaves-share Share Other own more left) claimed does

  pub tries-share : (Share Other : List (Done L) → Type 0) (cause : CallError) (stripe : ℕ) (old new : D) → ((own : List (Done L)) → Share own → Other own) → LaneTries follows Share cause stripe old new → LaneTries follows Other cause stripe old new
  tries-share Share Other cause stripe old new more a = record {
    own = a.own;
    share = more a.own a.share;
    did = elim a.did [
      | inl did ↦ inl did
      | inr ends ↦ inr (ends.0, ends.1, ends-share Share Other old new a.own ends.1 more ends.2)
    ];
    ends = λ same. ends-share Share Other old new a.own cause.kind more (a.ends same);
  }

  -- what was done on each lane, and then something else
  pub each-behind : (Goes Later All : ℕ → D → D → Type 0) (first : ℕ) (olds mids news : List D) → ((stripe : ℕ) (old mid new : D) → Goes stripe old mid → Later stripe mid new → All stripe old new)
      → length mids ≡ length olds → ((number : ℕ) (old mid : D) → slice_get olds number ≡ Some old → slice_get mids number ≡ Some mid → Goes (first + number) old mid) → EachLane Later first mids news → EachLane All first olds news
  each-behind Goes Later All first [] [] [] both long a b = tt
  each-behind Goes Later All first (old ∷ olds) (mid ∷ mids) (new ∷ news) both long a b =
      let here : first + 0 ≡ first = omega arith in (
        both first old mid new (subst (λ (n : ℕ). Goes n old mid) here (a 0 old mid refl refl)) b.0,
        each-behind Goes Later All (first + 1) olds mids news both (omega (arith, long))
            (λ number before after was is. let next : first + suc number ≡ first + 1 + number = omega arith in subst (λ (n : ℕ). Goes n before after) next (a (suc number) before after was is)) b.1,
      )
  each-behind Goes Later All first [] [] (new ∷ news) both long a b = absurd b
  each-behind Goes Later All first [] (mid ∷ mids) news both long a b = absurd (omega (arith, long))
  each-behind Goes Later All first (old ∷ olds) [] news both long a b = absurd (omega (arith, long))
  each-behind Goes Later All first (old ∷ olds) (mid ∷ mids) [] both long a b = absurd b

module _ {L D : Type 0} (follows : D → List (Done L) → D → Type 0)
    (joins : (first mid last : D) (before after : List (Done L)) → follows first before mid → follows mid after last → follows first (before ++ after) last) where
  -- steps on a lane, and then the end of the call
  began-behind : (xs ys : List (Done L)) (ticket : ℕ) → BeganOwn ys ticket → BeganOwn (xs ++ ys) ticket
  began-behind xs ys ticket a = record {
    before = xs ++ a.before;
    last = a.last;
    own_is = ap (λ zs. xs ++ zs) a.own_is ∙ sym (append_assoc xs a.before (a.last ∷ []));
    begun = a.begun;
  }

  leaves-behind : (All Share Whole : List (Done L) → Type 0) (xs ys : List (Done L)) → ((first second : List (Done L)) → All first → Share second → Whole (first ++ second)) → All xs → LeavesZeroes Share ys → LeavesZeroes Whole (xs ++ ys)
  leaves-behind All Share Whole xs ys both all a =
      let begun = done_as (Begin a.block a.bytes) (Begun a.ticket) in
      record {
        block = a.block;
        bytes = a.bytes;
        ticket = a.ticket;
        zeroes = a.zeroes;
        next = subst (λ (own : List (Done L)). Whole own) (sym (append_assoc xs ys (begun ∷ []))) (both xs (ys ++ begun ∷ []) all a.next);
      }

  ends-behind : (All Share Whole : List (Done L) → Type 0) (old mid new : D) (ys : List (Done L)) (kind : CallErrorKind) → ((first second : List (Done L)) → All first → Share second → Whole (first ++ second))
      → (a : LaneDid follows All old mid) → LaneEnds follows Share (mid, new) ys kind → LaneEnds follows Whole (old, new) (a.own ++ ys) kind
  ends-behind All Share Whole old mid new ys kind both a (ByStep b) =
      ByStep (stops-more follows old new (a.own ++ ys) (BeganOwn ys) (BeganOwn (a.own ++ ys)) kind (λ ticket was. began-behind a.own ys ticket was) (does-stops follows joins old mid new a.own ys (EndsSo (BeganOwn ys) kind) a.does b))
  ends-behind All Share Whole old mid new ys kind both a (ByLeaving gone left claimed b) =
      ByLeaving gone (leaves-behind All Share Whole a.own ys both a.all left) (claimed-append a.own ys a.claimed claimed) (does-does follows joins old mid new a.own ys a.does b)

  -- all of one share, and then some of another
  pub tries-behind : (All Share Whole : List (Done L) → Type 0) (cause : CallError) (stripe : ℕ) (old mid new : D) → ((first second : List (Done L)) → All first → Share second → Whole (first ++ second))
      → LaneDid follows All old mid → LaneTries follows Share cause stripe mid new → LaneTries follows Whole cause stripe old new
  tries-behind All Share Whole cause stripe old mid new both a b = record {
    own = a.own ++ b.own;
    share = both a.own b.own a.all b.share;
    did = elim b.did [
      | inl did ↦ inl (claimed-append a.own b.own a.claimed did.0, does-does follows joins old mid new a.own b.own a.does did.1)
      | inr ends ↦ inr (ends.0, ends.1, ends-behind All Share Whole old mid new b.own ends.1 both a ends.2)
    ];
    ends = λ same. ends-behind All Share Whole old mid new b.own cause.kind both a (b.ends same);
  }
