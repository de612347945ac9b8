-- Syncs of every leg, one stripe more at a time.
use Rattle.std.proofs.Common.{◌≡◌, ◌⊎◌, inl, inr, ℕ, ◌<◌, List, [], ◌∷◌, ◌++◌, length, get_or, slice_set, refl, sym, ap, ◌∙◌, subst}
use Rattle.nm_lanes.specs.declared.call_error.CallError.{CallError}
use Rattle.nm_lanes.specs.Done.{Done}
use Rattle.nm_lanes.specs.Ends.{LaneTries}
use Rattle.nm_lanes.specs.Flushes.{OnlySyncs, SyncsIn, IsStripeFlush, HasFlushed, HasFlushedSome}
use Rattle.nm_lanes.specs.Lists.{MirrorStep, steps_in, stripe_list, own_steps}
use Rattle.nm_lanes.specs.Syncs.{AllSync, LaneSyncs}
use Rattle.nm_lanes.proofs.EachLemmas.{each-map}
use Rattle.nm_lanes.proofs.LiftLemmas.{list-same, list-append, own_steps-append, own-in, leads-none, leads-lane, leads-append}
use Rattle.nm_lanes.proofs.ShareLemmas.{tries-share}
use Rattle.nm_lanes.proofs.SyncLemmas.{synced-left, synced-right, own-flush}

only-in : {L : Type 0} (legs stripe : ℕ) (own : List (Done L)) → AllSync legs own → OnlySyncs legs (λ other. other ≡ stripe) (steps_in stripe own)
only-in legs stripe [] all = tt
only-in legs stripe (d ∷ own) all = (refl, all.0, only-in legs stripe own all.1)

only-more : {L : Type 0} (legs : ℕ) (In Over : ℕ → Type 0) → ((stripe : ℕ) → In stripe → Over stripe) → (own : List (MirrorStep L)) → OnlySyncs legs In own → OnlySyncs legs Over own
only-more legs In Over more [] all = tt
only-more legs In Over more (d ∷ own) all = (more d.stripe all.0, all.1, only-more legs In Over more own all.2)

only-append : {L : Type 0} (legs : ℕ) (In : ℕ → Type 0) (xs ys : List (MirrorStep L)) → OnlySyncs legs In xs → OnlySyncs legs In ys → OnlySyncs legs In (xs ++ ys)
only-append legs In [] ys a b = b
only-append legs In (x ∷ xs) ys a b = (a.0, a.1, only-append legs In xs ys a.2 b)

module _ {L D : Type 0} (follows : D → List (Done L) → D → Type 0) (stays : (lane : D) → follows lane [] lane) where
  -- one stripe
  pub flush-lane : (old : List D) (stripe : ℕ) (d behind : D) (legs : ℕ) → stripe < length old → LaneSyncs follows (get_or old stripe d, behind) legs legs
      → HasFlushed follows legs (λ other. other ≡ stripe) (old, slice_set old stripe behind)
  flush-lane old stripe d behind legs inside a =
      let here : IsStripeFlush legs a.does.list = own-flush legs a.does.list (subst (λ (xs : List (Done L)). IsStripeFlush legs xs) (sym a.does.own_is) a.each) in
      let there : IsStripeFlush legs (stripe_list stripe (steps_in stripe a.does.list)) = subst (λ (xs : List (Done L)). IsStripeFlush legs xs) (sym (list-same stripe a.does.list)) here in
      record {
        own = steps_in stripe a.own;
        does = record {
          list = steps_in stripe a.does.list;
          leads = leads-lane follows stays old stripe d behind a.does.list inside a.does.leads;
          own_is = own-in stripe a.does.list ∙ ap (λ xs. steps_in stripe xs) a.does.own_is;
        };
        only = only-in legs stripe a.own a.only;
        each = λ other is. subst (λ (n : ℕ). IsStripeFlush legs (stripe_list n (steps_in stripe a.does.list))) (sym is) there;
      }

  -- no stripe
  pub flush-none : (old : List D) (legs : ℕ) (In : ℕ → Type 0) → ((stripe : ℕ) → In stripe → ⊥) → HasFlushed follows legs In (old, old)
  flush-none old legs In none = record { own = []; does = record { list = []; leads = leads-none follows stays old; own_is = refl }; only = tt; each = λ stripe is. absurd (none stripe is) }

module _ {L D : Type 0} (follows : D → List (Done L) → D → Type 0)
    (joins : (first mid last : D) (before after : List (Done L)) → follows first before mid → follows mid after last → follows first (before ++ after) last) where
  -- some stripes, and others
  pub flush-more : (old mid new : List D) (legs : ℕ) (In Next All : ℕ → Type 0) → ((stripe : ℕ) → In stripe → All stripe) → ((stripe : ℕ) → Next stripe → All stripe) → ((stripe : ℕ) → All stripe → In stripe ⊎ Next stripe)
      → HasFlushed follows legs In (old, mid) → HasFlushed follows legs Next (mid, new) → HasFlushed follows legs All (old, new)
  flush-more old mid new legs In Next All first second either a b = record {
    own = a.own ++ b.own;
    does = record {
      list = a.does.list ++ b.does.list;
      leads = leads-append follows joins old mid new a.does.list b.does.list a.does.leads b.does.leads;
      own_is = own_steps-append a.does.list b.does.list ∙ ap (λ zs. zs ++ own_steps b.does.list) a.does.own_is ∙ ap (λ zs. a.own ++ zs) b.does.own_is;
    };
    only = only-append legs All a.own b.own (only-more legs In All first a.own a.only) (only-more legs Next All second b.own b.only);
    each = λ stripe is leg lt. rw (list-append stripe a.does.list b.does.list) (elim (either stripe is) [
      | inl before ↦ synced-left leg (stripe_list stripe a.does.list) (stripe_list stripe b.does.list) (a.each stripe before leg lt)
      | inr after ↦ synced-right leg (stripe_list stripe a.does.list) (stripe_list stripe b.does.list) (b.each stripe after leg lt)
    ]);
  }

in-more : {L : Type 0} (legs : ℕ) (In All : ℕ → Type 0) (stripe : ℕ) → (In stripe → All stripe) → (own : List (Done L)) → SyncsIn legs In stripe own → SyncsIn legs All stripe own
in-more legs In All stripe there [] share = tt
in-more legs In All stripe there (d ∷ own) share = (there share.0, share.1, in-more legs In All stripe there own share.2)

module _ {L D : Type 0} (follows : D → List (Done L) → D → Type 0) where
  -- the same stripes in other words
  pub flush-as : (lanes : List D × List D) (legs : ℕ) (In All : ℕ → Type 0) → ((stripe : ℕ) → In stripe → All stripe) → ((stripe : ℕ) → All stripe → In stripe) → HasFlushed follows legs In lanes → HasFlushed follows legs All lanes
  flush-as lanes legs In All there back a = record { own = a.own; does = a.does; only = only-more legs In All there a.own a.only; each = λ stripe is. a.each stripe (back stripe is) }

  pub flush_some-as : (lanes : List D × List D) (legs : ℕ) (In All : ℕ → Type 0) (cause : CallError) → ((stripe : ℕ) → In stripe → All stripe) → HasFlushedSome follows legs In lanes cause → HasFlushedSome follows legs All lanes cause
  flush_some-as lanes legs In All cause there a = record {
    stripe = there cause.stripe a.stripe;
    tried = record {
      inside = a.tried.inside;
      each = each-map (λ stripe old new. LaneTries follows (SyncsIn legs In stripe) cause stripe old new) (λ stripe old new. LaneTries follows (SyncsIn legs All stripe) cause stripe old new) 0 lanes.0 lanes.1
          (λ stripe old new from upto t. tries-share follows (SyncsIn legs In stripe) (SyncsIn legs All stripe) cause stripe old new (λ own some. in-more legs In All stripe (there stripe) own some) t) a.tried.each;
    };
  }
