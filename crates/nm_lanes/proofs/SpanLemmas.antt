-- Syncs on two runs of lanes are a flush of their stripes.
use Rattle.std.proofs.Common.{◌≡◌, inl, inr, ℕ, ◌+◌, ◌-◌, ◌*◌, ◌/◌, ◌%◌, ◌<◌, ◌≤◌, List, [], ◌∷◌, ◌++◌, length, get_or, min, refl, sym, ap, ◌∙◌, subst, append_assoc, arith, div-add-mod'}
use Rattle.std.proofs.Math.Nat.{add-mul-mod_self_right, add-mod_right, mod-eq_of_lt, mod-lt}
use Rattle.std.proofs.Math.Seq.{get_or-append_seam, set-append_seam}
use Rattle.std.proofs.lemmas.Bool.{cases_lt}
use Rattle.std.proofs.lemmas.List.{length-append}
use Rattle.nm_geometry.specs.Geometry.{Geometry}
use Rattle.nm_lanes.specs.declared.call_error.CallError.{CallError}
use Rattle.nm_lanes.specs.Done.{Done}
use Rattle.nm_lanes.specs.Ends.{EachLane, LaneDid, LaneTries}
use Rattle.nm_lanes.specs.Flushes.{IsStripeOf, SyncsIn, HasFlushed, HasFlushedSome}
use Rattle.nm_lanes.specs.OnLanes.{DidLanes, EndedLanes}
use Rattle.nm_lanes.specs.Syncs.{AllSync, IsLegSyncs, LaneSyncs, InSpans, IsAround}
use Rattle.nm_lanes.proofs.EachLemmas.{each-append, each-map, each-same, each-long}
use Rattle.nm_lanes.proofs.FlushLemmas.{flush-none, flush-lane, flush-more}
use Rattle.nm_lanes.proofs.ShareLemmas.{tries-share}

in-all : {L : Type 0} (legs : ℕ) (In : ℕ → Type 0) (stripe : ℕ) → In stripe → (own : List (Done L)) → AllSync legs own → SyncsIn legs In stripe own
in-all legs In stripe is [] all = tt
in-all legs In stripe is (d ∷ own) all = (is, all.0, in-all legs In stripe is own all.1)

module _ {L D : Type 0} (follows : D → List (Done L) → D → Type 0) (stays : (lane : D) → follows lane [] lane) where
  -- a lane of one of these stripes
  tries-in : (legs : ℕ) (In : ℕ → Type 0) (cause : CallError) (stripe : ℕ) (old new : D) → In stripe → LaneTries follows (AllSync legs) cause stripe old new → LaneTries follows (SyncsIn legs In stripe) cause stripe old new
  tries-in legs In cause stripe old new is a = tries-share follows (AllSync legs) (SyncsIn legs In stripe) cause stripe old new (λ own some. in-all legs In stripe is own some) a

  -- a lane whose legs are all synced
  goes-in : (legs : ℕ) (In : ℕ → Type 0) (cause : CallError) (stripe : ℕ) (old new : D) → In stripe → (stripe ≡ cause.stripe → ⊥) → LaneDid follows (λ own. IsLegSyncs legs own) old new → LaneTries follows (SyncsIn legs In stripe) cause stripe old new
  goes-in legs In cause stripe old new is other a = record { own = a.own; share = in-all legs In stripe is a.own a.all.only; did = inl (a.claimed, a.does); ends = λ same. absurd (other same) }

  -- a lane that was left alone
  rests-in : (legs : ℕ) (In : ℕ → Type 0) (cause : CallError) (stripe : ℕ) (lane : D) → (stripe ≡ cause.stripe → ⊥) → LaneTries follows (SyncsIn legs In stripe) cause stripe lane lane
  rests-in legs In cause stripe lane other = record { own = []; share = tt; did = inl (tt, record { list = []; leads = stays lane; own_is = refl }); ends = λ same. absurd (other same) }

  -- the call ended in the first run of lanes
  pub front-ended : (legs : ℕ) (In : ℕ → Type 0) (cause : CallError) (xs us rest : List D) → ((stripe : ℕ) → stripe < length xs → In stripe) → EndedLanes follows (λ stripe own. AllSync legs own) 0 (xs, us) cause → HasFlushedSome follows legs In (xs ++ rest, us ++ rest) cause
  front-ended legs In cause xs us rest are a =
      let long = length-append xs rest in
      let upto : cause.stripe < length xs = omega (arith, a.upto) in
      record {
        stripe = are cause.stripe upto;
        tried = record {
          inside = omega (arith, upto, long);
          each = each-append (λ stripe old new. LaneTries follows (SyncsIn legs In stripe) cause stripe old new) 0 xs us rest rest
              (each-map (λ stripe old new. LaneTries follows (AllSync legs) cause stripe old new) (λ stripe old new. LaneTries follows (SyncsIn legs In stripe) cause stripe old new) 0 xs us
              (λ stripe old new from below tries. tries-in legs In cause stripe old new (are stripe (omega (arith, below))) tries) a.each)
              (each-same (λ stripe old new. LaneTries follows (SyncsIn legs In stripe) cause stripe old new) (0 + length xs) rest (λ stripe lane from below. rests-in legs In cause stripe lane (λ is. omega (arith, is, from, upto))));
        };
      }

  -- the call ended in the second run
  pub back-ended : (legs first : ℕ) (In : ℕ → Type 0) (cause : CallError) (xs us mid ys vs rest : List D) → first ≡ length xs + length mid
      → ((stripe : ℕ) → stripe < length xs → In stripe) → ((stripe : ℕ) → first ≤ stripe → stripe < first + length ys → In stripe)
      → DidLanes follows (λ stripe own. IsLegSyncs legs own) 0 (xs, us) → EndedLanes follows (λ stripe own. AllSync legs own) first (ys, vs) cause → HasFlushedSome follows legs In (xs ++ (mid ++ (ys ++ rest)), us ++ (mid ++ (vs ++ rest))) cause
  back-ended legs first In cause xs us mid ys vs rest at are too a b =
      let Tries : ℕ → D → D → Type 0 = λ stripe old new. LaneTries follows (SyncsIn legs In stripe) cause stripe old new in
      let long = length-append xs (mid ++ (ys ++ rest)) in
      let mid_long = length-append mid (ys ++ rest) in
      let rest_long = length-append ys rest in
      let here : first ≡ 0 + length xs + length mid = omega (arith, at) in
      record {
        stripe = too cause.stripe b.from b.upto;
        tried = record {
          inside = omega (arith, b.upto, at, long, mid_long, rest_long);
          each = each-append Tries 0 xs us (mid ++ (ys ++ rest)) (mid ++ (vs ++ rest))
              (each-map (λ stripe old new. LaneDid follows (λ own. IsLegSyncs legs own) old new) Tries 0 xs us
              (λ stripe old new from below goes. goes-in legs In cause stripe old new (are stripe (omega (arith, below))) (λ is. omega (arith, is, below, b.from, at)) goes) a)
              (each-append Tries (0 + length xs) mid mid (ys ++ rest) (vs ++ rest)
              (each-same Tries (0 + length xs) mid (λ stripe lane from below. rests-in legs In cause stripe lane (λ is. omega (arith, is, below, b.from, at))))
              (each-append Tries (0 + length xs + length mid) ys vs rest rest
              (subst (λ (n : ℕ). EachLane Tries n ys vs) here (each-map (λ stripe old new. LaneTries follows (AllSync legs) cause stripe old new) Tries first ys vs
              (λ stripe old new from below tries. tries-in legs In cause stripe old new (too stripe from below) tries) b.each))
              (each-same Tries (0 + length xs + length mid + length ys) rest (λ stripe lane from below. rests-in legs In cause stripe lane (λ is. omega (arith, is, from, b.upto, at))))));
        };
      }

module _ {L D : Type 0} (follows : D → List (Done L) → D → Type 0) (stays : (lane : D) → follows lane [] lane)
    (joins : (first mid last : D) (before after : List (Done L)) → follows first before mid → follows mid after last → follows first (before ++ after) last) where
  lane-syncs : (legs : ℕ) (old new : D) → LaneDid follows (λ own. IsLegSyncs legs own) old new → LaneSyncs follows (old, new) legs legs
  lane-syncs legs old new a = record { own = a.own; does = a.does; only = a.all.only; each = a.all.each }

  -- one run of lanes, among others
  joined-flush : (legs : ℕ) (before xs us after : List D) → DidLanes follows (λ stripe own. IsLegSyncs legs own) (length before) (xs, us)
      → HasFlushed follows legs (λ stripe. (length before ≤ stripe) × (stripe < length before + length xs)) (before ++ (xs ++ after), before ++ (us ++ after))
  joined-flush legs before [] [] after a = flush-none follows stays (before ++ after) legs (λ stripe. (length before ≤ stripe) × (stripe < length before + 0)) (λ stripe is. omega (arith, is.0, is.1))
  joined-flush legs before (x ∷ xs) (u ∷ us) after a =
      let at = length before in
      let old = before ++ x ∷ (xs ++ after) in
      let mid = before ++ u ∷ (xs ++ after) in
      let new = before ++ u ∷ (us ++ after) in
      let long = length-append before (x ∷ (xs ++ after)) in
      let more : at + 1 ≡ length (before ++ u ∷ []) = sym (length-append before (u ∷ [])) in
      let here : LaneSyncs follows (get_or old at x, u) legs legs = subst (λ (d : D). LaneSyncs follows (d, u) legs legs) (sym (get_or-append_seam before x (xs ++ after) x)) (lane-syncs legs x u a.0) in
      let one : HasFlushed follows legs (λ other. other ≡ at) (old, mid) =
      subst (λ (ls : List D). HasFlushed follows legs (λ other. other ≡ at) (old, ls)) (set-append_seam before x (xs ++ after) u) (flush-lane follows stays old at x u legs (omega (arith, long)) here) in
      let later = joined-flush legs (before ++ u ∷ []) xs us after (subst (λ (n : ℕ). DidLanes follows (λ stripe own. IsLegSyncs legs own) n (xs, us)) more a.1) in
      let others : HasFlushed follows legs (λ stripe. (length (before ++ u ∷ []) ≤ stripe) × (stripe < length (before ++ u ∷ []) + length xs)) (mid, new) =
      subst (λ (ls : List D). HasFlushed follows legs (λ stripe. (length (before ++ u ∷ []) ≤ stripe) × (stripe < length (before ++ u ∷ []) + length xs)) (ls, new)) (append_assoc before (u ∷ []) (xs ++ after))
      (subst (λ (ls : List D). HasFlushed follows legs (λ stripe. (length (before ++ u ∷ []) ≤ stripe) × (stripe < length (before ++ u ∷ []) + length xs)) ((before ++ u ∷ []) ++ (xs ++ after), ls)) (append_assoc before (u ∷ []) (us ++ after)) later) in
      flush-more follows joins old mid new legs (λ other. other ≡ at) (λ stripe. (length (before ++ u ∷ []) ≤ stripe) × (stripe < length (before ++ u ∷ []) + length xs)) (λ stripe. (at ≤ stripe) × (stripe < at + length (x ∷ xs)))
      (λ stripe is. (omega (arith, is), omega (arith, is))) (λ stripe is. (omega (arith, is.0, more), omega (arith, is.1, more)))
      (λ stripe is. elim (cases_lt at stripe) [
        | inl after_it ↦ inr (omega (arith, after_it, more), omega (arith, is.1, more))
        | inr upto ↦ inl (omega (arith, is.0, upto))
      ]) one others
  joined-flush legs before [] (u ∷ us) after a = absurd a
  joined-flush legs before (x ∷ xs) [] after a = absurd a

  -- both runs
  pub both-flushed : (legs low first end : ℕ) (xs us mid ys vs rest : List D) → length xs ≡ low → first ≡ length xs + length mid → end ≡ first + length ys
      → DidLanes follows (λ stripe own. IsLegSyncs legs own) 0 (xs, us) → DidLanes follows (λ stripe own. IsLegSyncs legs own) first (ys, vs) → HasFlushed follows legs (InSpans low first end) (xs ++ (mid ++ (ys ++ rest)), us ++ (mid ++ (vs ++ rest)))
  both-flushed legs low first end xs us mid ys vs rest low_is at upto a b =
      let long = length-append us mid in
      let same = each-long (λ stripe old new. LaneDid follows (λ own. IsLegSyncs legs own) old new) 0 xs us a in
      let here : first ≡ length (us ++ mid) = omega (arith, at, long, same) in
      let one = joined-flush legs [] xs us (mid ++ (ys ++ rest)) a in
      let two = joined-flush legs (us ++ mid) ys vs rest (subst (λ (n : ℕ). DidLanes follows (λ stripe own. IsLegSyncs legs own) n (ys, vs)) here b) in
      let Next : ℕ → Type 0 = λ stripe. (length (us ++ mid) ≤ stripe) × (stripe < length (us ++ mid) + length ys) in
      let old = xs ++ (mid ++ (ys ++ rest)) in
      let between = us ++ (mid ++ (ys ++ rest)) in
      let new = us ++ (mid ++ (vs ++ rest)) in
      let others : HasFlushed follows legs Next (between, new) =
      subst (λ (ls : List D). HasFlushed follows legs Next (ls, new)) (append_assoc us mid (ys ++ rest))
      (subst (λ (ls : List D). HasFlushed follows legs Next ((us ++ mid) ++ (ys ++ rest), ls)) (append_assoc us mid (vs ++ rest)) two) in
      flush-more follows joins old between new legs (λ stripe. (0 ≤ stripe) × (stripe < 0 + length xs)) Next (InSpans low first end)
      (λ stripe is. inl (omega (arith, is.1, low_is))) (λ stripe is. inr (omega (arith, is.0, here), omega (arith, is.1, here, upto)))
      (λ stripe is. elim is [
        | inl before ↦ inl (omega arith, omega (arith, before, low_is))
        | inr later ↦ inr (omega (arith, later.0, here), omega (arith, later.1, here, upto))
      ]) one others

-- stripes that follow one another in turn are those of two runs
turned : (first number stripes : ℕ) → (first + number) % stripes ≡ (first % stripes + number) % stripes
turned first number stripes =
    let e : first + number ≡ first % stripes + number + first / stripes * stripes = omega (arith, div-add-mod' first stripes) in
    ap (λ n. n % stripes) e ∙ add-mul-mod_self_right (first % stripes + number) (first / stripes) stripes

below-turn : (start number stripes : ℕ) → start + number < stripes → (start + number) % stripes ≡ start + number
below-turn start number stripes lt = mod-eq_of_lt lt

past-turn : (start number stripes : ℕ) → stripes ≤ start + number → start + number - stripes < stripes → (start + number) % stripes ≡ start + number - stripes
past-turn start number stripes past lt =
    let e : start + number ≡ start + number - stripes + stripes = omega (arith, past) in
    ap (λ n. n % stripes) e ∙ add-mod_right (start + number - stripes) stripes ∙ mod-eq_of_lt lt

pub around-spans : (shape : Geometry) (first count start low end stripe : ℕ) → 0 < shape.stripes → count ≤ shape.stripes → start ≡ first % shape.stripes → low ≡ start + count - shape.stripes → end ≡ min (start + count) shape.stripes
    → IsAround shape first count stripe → InSpans low start end stripe
around-spans shape first count start low end stripe some few start_is low_is end_is a =
    let s = shape.stripes in
    let below : start < s = subst (λ (n : ℕ). n < s) (sym start_is) (mod-lt first some) in
    let is : (start + a.number) % s ≡ stripe = ap (λ n. (n + a.number) % s) start_is ∙ sym (turned first a.number s) ∙ a.stripe_is in
    elim (cases_lt (start + a.number) s) [
      | inl within ↦
          let e = sym (below-turn start a.number s within) ∙ is in
          inr (omega (arith, e), omega (arith, e, within, end_is, a.inside))
      | inr past ↦
          let lt : start + a.number - s < s = omega (arith, below, a.inside, few) in
          let e = sym (past-turn start a.number s past lt) ∙ is in
          inl (omega (arith, e, past, low_is, a.inside))
    ]

pub spans-around : (shape : Geometry) (first count start low end stripe : ℕ) → 0 < shape.stripes → count ≤ shape.stripes → start ≡ first % shape.stripes → low ≡ start + count - shape.stripes → end ≡ min (start + count) shape.stripes
    → InSpans low start end stripe → IsAround shape first count stripe
spans-around shape first count start low end stripe some few start_is low_is end_is a =
    let s = shape.stripes in
    let below : start < s = subst (λ (n : ℕ). n < s) (sym start_is) (mod-lt first some) in
    let there : (number : ℕ) → (start + number) % s ≡ stripe → (first + number) % s ≡ stripe = λ number is. turned first number s ∙ ap (λ n. (n + number) % s) (sym start_is) ∙ is in
    elim a [
      | inl before ↦
          let number = stripe + s - start in
          let past : s ≤ start + number = omega (arith, below) in
          let back : start + number - s ≡ stripe = omega (arith, below) in
          record {
            number = number;
            inside = omega (arith, before, low_is, below, few);
            stripe_is = there number (past-turn start number s past (omega (arith, back, before, low_is, below, few)) ∙ back);
          }
      | inr later ↦
          let number = stripe - start in
          let back : start + number ≡ stripe = omega (arith, later.0) in
          record {
            number = number;
            inside = omega (arith, later.0, later.1, end_is);
            stripe_is = there number (below-turn start number s (omega (arith, back, later.1, end_is)) ∙ back);
          }
    ]

-- all stripes are one run
pub span-whole : (shape : Geometry) (stripe : ℕ) → InSpans 0 0 shape.stripes stripe → IsStripeOf shape stripe
span-whole shape stripe (inl none) = omega (arith, none)
span-whole shape stripe (inr is) = is.1

pub whole-span : (shape : Geometry) (stripe : ℕ) → IsStripeOf shape stripe → InSpans 0 0 shape.stripes stripe
whole-span shape stripe lt = inr (omega arith, lt)
