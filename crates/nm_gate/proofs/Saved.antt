-- A save's begin and end are moves.
use Rattle.std.proofs.Common.{◌≡◌, ◌⊎◌, ⊎_elim, inl, inr, ℕ, ◌<◌, ◌≤◌, ◌/◌, arith, Bool, true, false, not, ◌&&◌, ◌||◌, List, [], ◌∷◌, Option, Some, IfSome, length, nat_lt, refl, sym, ap, ◌∙◌, subst, slice_index_or}
use Rattle.std.proofs.lemmas.Bool.{cases_lt}
use Rattle.std.proofs.lemmas.List.{get_or_past}
use Rattle.nm_choice.specs.declared.leg_state.LegState.{LegState}
use Rattle.nm_choice.specs.declared.leg_state.LegState.TheVariants.{InSync, Joining, Out}
use Rattle.nm_choice.specs.Choice.{is_in_sync}
use Rattle.nm_leg.specs.Leg.{Leg, LegType}
use Rattle.nm_rules.specs.Invariant.{HasLegs}
use Rattle.nm_rules.specs.State.{StripeState, leg_state}
use Rattle.nm_rules.proofs.StateLemmas.{in_sync_inside}
use Rattle.nm_gate.specs.declared.leg_claims.LegClaims.{LegClaims}
use Rattle.nm_gate.specs.Bounds.{IsTaken, IsWidened}
use Rattle.nm_gate.specs.Changes.{Ends, Leads, MayEnd, Resaved, failed, widened}
use Rattle.nm_gate.specs.Claims.{HasMarks, claims_of, has, is_current_leg, is_listed_by, is_partial, legs_where, superblock_of}
use Rattle.nm_gate.specs.Durable.{Durable, is_lacking, is_listed, is_marked, is_named}
use Rattle.nm_gate.specs.Moves.{Gated, Saves}
use Rattle.nm_gate.specs.Saves.{IsCovered, Resaves}
use Rattle.nm_gate.proofs.Bounded.{saves-safe}
use Rattle.nm_geometry.proofs.LegSetLemmas.{has-where}

-- what is kept of a value that is there
pub some-of : {A : Type 0} (P : A → Type 0) (o : Option A) (x : A) → o ≡ Some x → P x → IfSome o P
some-of {A} P o x is p = subst (λ (v : Option A). IfSome v P) (sym is) p

where-past : (is : ℕ → Bool) (leg : ℕ) → 8 ≤ leg → has leg (legs_where is) ≡ false
where-past is leg past = get_or_past (legs_where is) leg false past

-- a leg of eight, or past these
pub eight-or : (leg : ℕ) → (leg < 8) ⊎ (8 ≤ leg)
eight-or leg = cases_lt leg 8

-- a leg in the set is one of the eight, and the test is true of it
where-true : (is : ℕ → Bool) (leg : ℕ) → has leg (legs_where is) ≡ true → (leg < 8) × (is leg ≡ true)
where-true is leg on =
    ⊎_elim
    (λ below. (below, sym (has-where is leg below) ∙ on))
    (λ past. absurd (let clash : true ≡ false = sym on ∙ where-past is leg past in cc))
    (eight-or leg)

left-of : (a b : Bool) → (a && b) ≡ true → a ≡ true
left-of true b on = refl
left-of false b on = cc

right-of : (a b : Bool) → (a && b) ≡ true → b ≡ true
right-of true b on = on
right-of false b on = cc

one-of : (a b : Bool) → (a || b) ≡ true → (a ≡ true) ⊎ (b ≡ true)
one-of true b on = inl refl
one-of false b on = inr on

first-on : (a b : Bool) → a ≡ true → (a || b) ≡ true
first-on true b on = refl
first-on false b on = cc

both-on : (a b : Bool) → a ≡ true → b ≡ true → (a && b) ≡ true
both-on true b on also = also
both-on false b on also = cc

and-off : (a b : Bool) → b ≡ false → (a && b) ≡ false
and-off true b off = off
and-off false b off = refl

pub or-off : (a b : Bool) → a ≡ false → b ≡ false → (a || b) ≡ false
or-off true b off also = cc
or-off false b off also = also

in-sync-is : (s : LegState) → is_in_sync s ≡ true → s ≡ InSync
in-sync-is InSync on = refl
in-sync-is Joining on = cc
in-sync-is Out on = cc

lt-on : (a b : ℕ) → a < b → nat_lt a b ≡ true
lt-on a b below = grind arith

-- a save is one move
pub saved-leads : {L : Type 0} (type : LegType L) (stripe : StripeState L) (d e : Durable) → Resaves stripe d e → Leads type stripe (Some d) stripe (Some e)
saved-leads {L} type stripe d e is =
    let new : Gated L = record { stripe = stripe; durable = e } in
    (Saves e ∷ [], (new, (is, refl, refl), refl), λ block. (tt, tt))

-- what a save changes, with the bounds as a function's ends say them
pub resaved : {L : Type 0} (stripe : StripeState L) (durable : Option Durable) (d e : Durable) → durable ≡ Some d → Resaves stripe d e → Resaved stripe durable (Some e)
resaved stripe durable d e was is = subst (λ (o : Option Durable). Resaved stripe o (Some e)) (sym was) is

failed-resaves : {L : Type 0} (stripe : StripeState L) (d : Durable) → Resaves stripe d (failed d)
failed-resaves stripe d = record {
  named = λ leg named. inl named;
  lacking = λ leg lacking. inr (inl lacking);
  listed = λ leg in_sync listed. listed;
  marked = λ region marked. marked;
}

pub failed-resaved : {L : Type 0} (stripe : StripeState L) (durable : Option Durable) (d e : Durable) → durable ≡ Some d → e ≡ failed d → Resaved stripe durable (Some e)
failed-resaved stripe durable d e was is = resaved stripe durable d e was (subst (λ (x : Durable). Resaves stripe d x) (sym is) (failed-resaves stripe d))

-- and so it is where it failed
pub failed-leads : {L : Type 0} (type : LegType L) (stripe : StripeState L) (d : Durable) → Leads type stripe (Some d) stripe (Some (failed d))
failed-leads type stripe d = saved-leads type stripe d (failed d) (failed-resaves stripe d)

-- so with the bounds as a function's ends say them
pub failed-leads-as : {L : Type 0} (type : LegType L) (stripe : StripeState L) (durable : Option Durable) (d e : Durable) → durable ≡ Some d → e ≡ failed d → Leads type stripe durable stripe (Some e)
failed-leads-as type stripe durable d e was is =
    subst (λ (o : Option Durable). Leads type stripe o stripe (Some e)) (sym was)
    (subst (λ (x : Durable). Leads type stripe (Some d) stripe (Some x)) (sym is) (failed-leads type stripe d))

module _ {L : Type 0} (model : L → Leg) (stripe : StripeState L) (d : Durable) (marked : List Bool) (legs : HasLegs model stripe) where
  abbrev pub claims : LegClaims
  claims = claims_of stripe d marked

  abbrev pub new : Durable
  new = superblock_of claims marked d

  current-on : (leg : ℕ) → leg_state leg stripe ≡ InSync → (leg < 8) × (is_current_leg stripe leg ≡ true)
  current-on leg in_sync =
      let there : leg < length stripe.legs = in_sync_inside model stripe legs leg in_sync in
      let most = legs.sizes.most_legs in (
        omega (arith, there, most),
        both-on (nat_lt leg (length stripe.legs)) (is_in_sync (leg_state leg stripe)) (lt-on leg (length stripe.legs) there) (ap (λ s. is_in_sync s) in_sync),
      )

  listed-on : (leg : ℕ) → leg_state leg stripe ≡ InSync → is_listed leg new ≡ true
  listed-on leg in_sync =
      let on = current-on leg in_sync in
      has-where (is_listed_by claims) leg on.0
      ∙ first-on (has leg claims.in_sync) (has leg claims.candidates) (has-where (is_current_leg stripe) leg on.0 ∙ on.1)

  partial-covered : (leg : ℕ) → is_partial stripe d marked leg ≡ true → IsCovered stripe d leg
  partial-covered leg on =
      let rest = right-of _ _ (right-of _ _ on) in
      ⊎_elim (λ named. inl named) (λ lacking. inr (inl lacking)) (one-of (is_named leg d) (is_lacking leg d) (left-of _ _ rest))

  pub is-taken : HasMarks (Some d) marked → IsTaken stripe d new
  is-taken marks = record {
    named = λ leg on.
        in-sync-is (leg_state leg stripe) (right-of (nat_lt leg (length stripe.legs)) (is_in_sync (leg_state leg stripe)) (where-true (is_current_leg stripe) leg on).1);
    lacking = λ leg on. partial-covered leg (where-true (is_partial stripe d marked) leg on).1;
    listed = listed-on;
    marked = λ region on. marks (region / d.span) on;
  }

module _ (d : Durable) (claims : LegClaims) (marked : List Bool) (named : length d.named ≡ 8) (lacking : length d.lacking ≡ 8) (in_sync : length claims.in_sync ≡ 8) (partial : length claims.partial ≡ 8) where
  past-of : (set : List Bool) (leg : ℕ) → length set ≡ 8 → 8 ≤ leg → has leg set ≡ false
  past-of set leg eight past = get_or_past set leg false (omega (arith, eight, past))

  pub is-widened : IsWidened d (superblock_of claims marked d) (widened claims d)
  is-widened = record {
    named = λ leg. ⊎_elim
        (λ below. has-where (λ (l : ℕ). is_named l d || has l claims.in_sync) leg below)
        (λ past. where-past (λ (l : ℕ). is_named l d || has l claims.in_sync) leg past
        ∙ sym (or-off (is_named leg d) (has leg claims.in_sync) (past-of d.named leg named past) (past-of claims.in_sync leg in_sync past)))
        (eight-or leg);
    lacking = λ leg. ⊎_elim
        (λ below. has-where (λ (l : ℕ). is_lacking l d || has l claims.partial) leg below)
        (λ past. where-past (λ (l : ℕ). is_lacking l d || has l claims.partial) leg past
        ∙ sym (or-off (is_lacking leg d) (has leg claims.partial) (past-of d.lacking leg lacking past) (past-of claims.partial leg partial past)))
        (eight-or leg);
    listed = λ leg. ⊎_elim
        (λ below. has-where (λ (l : ℕ). is_listed l d && is_listed_by claims l) leg below
        ∙ ap (λ (b : Bool). is_listed leg d && b) (sym (has-where (is_listed_by claims) leg below)))
        (λ past. where-past (λ (l : ℕ). is_listed l d && is_listed_by claims l) leg past
        ∙ sym (and-off (is_listed leg d) (is_listed leg (superblock_of claims marked d)) (where-past (is_listed_by claims) leg past)))
        (eight-or leg);
    marked = λ region. refl;
  }

-- a save that begins widens the bounds to those of what is taken from the stripe
pub begun-bounds : {L : Type 0} (model : L → Leg) (stripe : StripeState L) (durable : Option Durable) (d : Durable) (marked : List Bool) (claims : LegClaims) → durable ≡ Some d
    → HasMarks durable marked → claims ≡ claims_of stripe d marked → length d.named ≡ 8 → length d.lacking ≡ 8
    → IfSome durable (λ d. HasLegs model stripe → IsTaken stripe d (superblock_of claims marked d) × IsWidened d (superblock_of claims marked d) (widened claims d))
begun-bounds model stripe durable d marked claims was marks is named lacking =
    let had : HasMarks (Some d) marked = subst (λ (o : Option Durable). HasMarks o marked) was marks in
    some-of (λ (d : Durable). HasLegs model stripe → IsTaken stripe d (superblock_of claims marked d) × IsWidened d (superblock_of claims marked d) (widened claims d)) durable d was
    (λ legs. subst (λ (x : LegClaims). IsTaken stripe d (superblock_of x marked d) × IsWidened d (superblock_of x marked d) (widened x d)) (sym is)
    (is-taken model stripe d marked legs had, is-widened d (claims_of stripe d marked) marked named lacking refl refl))

-- as a save may
pub begun-resaves : {L : Type 0} (model : L → Leg) (stripe : StripeState L) (durable : Option Durable) (d e : Durable) (marked : List Bool) (claims : LegClaims) → durable ≡ Some d
    → HasMarks durable marked → claims ≡ claims_of stripe d marked → length d.named ≡ 8 → length d.lacking ≡ 8 → e ≡ widened claims d
    → HasLegs model stripe → Resaves stripe d e
begun-resaves model stripe durable d e marked said was marks is named lacking leaves legs =
    let had : HasMarks (Some d) marked = subst (λ (o : Option Durable). HasMarks o marked) was marks in
    let taken = is-taken model stripe d marked legs had in
    let wide = is-widened d (claims_of stripe d marked) marked named lacking refl refl in
    let resaves = ((saves-safe model).begins stripe d (superblock_of (claims_of stripe d marked) marked d) (widened (claims_of stripe d marked) d) [] tt taken wide).0 in
    let end : widened (claims_of stripe d marked) d ≡ e = sym (leaves ∙ ap (λ (x : LegClaims). widened x d) is) in
    subst (λ (x : Durable). Resaves stripe d x) end resaves

-- and that is a move
pub begun-leads : {L : Type 0} (type : LegType L) (stripe : StripeState L) (durable : Option Durable) (d e : Durable) (marked : List Bool) (claims : LegClaims) → durable ≡ Some d
    → HasMarks durable marked → claims ≡ claims_of stripe d marked → length d.named ≡ 8 → length d.lacking ≡ 8 → e ≡ widened claims d
    → HasLegs type.model stripe → Leads type stripe durable stripe (Some e)
begun-leads type stripe durable d e marked said was marks is named lacking leaves legs =
    subst (λ (o : Option Durable). Leads type stripe o stripe (Some e)) (sym was)
    (saved-leads type stripe d e (begun-resaves type.model stripe durable d e marked said was marks is named lacking leaves legs))

not-or : (a b : Bool) → (not a || b) ≡ true → a ≡ true → b ≡ true
not-or true b on is = on
not-or false b on is = cc

module _ {L : Type 0} (type : LegType L) (stripe : StripeState L) (d e : Durable) (claims : LegClaims) (marked : List Bool) (legs : HasLegs type.model stripe) (may : MayEnd stripe d claims marked) (is : Ends claims marked d e)
    (in_sync : length claims.in_sync ≡ 8) (partial : length claims.partial ≡ 8) where
  -- a leg in a set of eight is one of these
  within : (set : List Bool) (leg : ℕ) → length set ≡ 8 → has leg set ≡ true → leg < 8
  within set leg eight on =
      ⊎_elim (λ below. below) (λ past. absurd (let off : has leg set ≡ false = get_or_past set leg false (omega (arith, eight, past)) in let clash : true ≡ false = sym on ∙ off in cc)) (eight-or leg)

  named-or : (leg : ℕ) → (is_named leg d || is_current_leg stripe leg) ≡ true → (is_named leg d ≡ true) ⊎ (leg_state leg stripe ≡ InSync)
  named-or leg on =
      ⊎_elim (λ named. inl named) (λ current. inr (in-sync-is (leg_state leg stripe) (right-of (nat_lt leg (length stripe.legs)) (is_in_sync (leg_state leg stripe)) current))) (one-of (is_named leg d) (is_current_leg stripe leg) on)

  named-said : (leg : ℕ) → is_named leg e ≡ true → (is_named leg d ≡ true) ⊎ (leg_state leg stripe ≡ InSync)
  named-said leg on =
      let said : has leg claims.in_sync ≡ true = sym (ap (λ (x : Durable). is_named leg x) is.after) ∙ on in
      let may_be = may.legs leg (within claims.in_sync leg in_sync said) in
      named-or leg (not-or (has leg claims.in_sync) (is_named leg d || is_current_leg stripe leg) (left-of _ _ may_be) said)

  lacking-said : (leg : ℕ) → is_lacking leg e ≡ true → IsCovered stripe d leg
  lacking-said leg on =
      let said : has leg claims.partial ≡ true = sym (ap (λ (x : Durable). is_lacking leg x) is.after) ∙ on in
      let may_be = may.legs leg (within claims.partial leg partial said) in
      let rest = left-of _ _ (right-of _ _ may_be) in
      ⊎_elim
      (λ lacking. inr (inl lacking))
      (λ named. ⊎_elim (λ was. inl was) (λ now. inr (inr now)) (named-or leg named))
      (one-of (is_lacking leg d) (is_named leg d || is_current_leg stripe leg) (not-or (has leg claims.partial) (is_lacking leg d || (is_named leg d || is_current_leg stripe leg)) rest said))

  listed-said : (leg : ℕ) → leg_state leg stripe ≡ InSync → is_listed leg d ≡ true → is_listed leg e ≡ true
  listed-said leg state was =
      let on = current-on type.model stripe d marked legs leg state in
      let may_be = may.legs leg on.0 in
      let rest = right-of _ _ (right-of _ _ may_be) in
      let listed = not-or (is_current_leg stripe leg && is_listed leg d) (is_listed_by claims leg) rest (both-on (is_current_leg stripe leg) (is_listed leg d) on.1 was) in
      ap (λ (x : Durable). is_listed leg x) is.after ∙ has-where (is_listed_by claims) leg on.0 ∙ listed

  marked-said : (region : ℕ) → is_marked region d ≡ true → is_marked region e ≡ true
  marked-said region on =
      let span : ℕ = region / d.span in
      let there : span < length d.marked =
      ⊎_elim (λ below. below) (λ past. absurd (let off : slice_index_or d.marked span false ≡ false = get_or_past d.marked span false past in let clash : true ≡ false = sym on ∙ off in cc)) (cases_lt span (length d.marked)) in
      let spans : e.span ≡ d.span = ap (λ (x : Durable). x.span) is.after in
      ap (λ (n : ℕ). slice_index_or e.marked (region / n) false) spans ∙ is.marks span there ∙ may.marks span on

  pub ended : Resaves stripe d e
  ended = record { named = named-said; lacking = lacking-said; listed = listed-said; marked = marked-said }

  -- a save that ends is a move
  pub ended-leads : (durable : Option Durable) → durable ≡ Some d → Leads type stripe durable stripe (Some e)
  ended-leads durable was = subst (λ (o : Option Durable). Leads type stripe o stripe (Some e)) (sym was) (saved-leads type stripe d e ended)
