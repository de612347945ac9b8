-- The bounds hold of each superblock that may be the durable one.
use Rattle.std.proofs.Common.{◌≡◌, ◌⊎◌, ⊎_elim, inl, inr, ◌||◌, ◌&&◌, ◌/◌, Bool, true, false, List, [], ◌∷◌, refl, sym, ◌∙◌, subst}
use Rattle.nm_leg.specs.Leg.{Leg}
use Rattle.nm_rules.specs.Reopening.{Reopening}
use Rattle.nm_rules.specs.State.{StripeState}
use Rattle.nm_gate.specs.Bounds.{AllBounded, Bounds, IsAmong, IsTaken, IsWidened, SavesAreSafe}
use Rattle.nm_gate.specs.Durable.{Durable, is_lacking, is_listed, is_named}
use Rattle.nm_gate.specs.Gate.{is_marked_at}
use Rattle.nm_gate.specs.Restart.{GoesBySuperblock}
use Rattle.nm_gate.specs.Saves.{Resaves}

either : (a b : Bool) → (a || b) ≡ true → (a ≡ true) ⊎ (b ≡ true)
either true b is = inl refl
either false b is = inr is

left-or : (a b : Bool) → a ≡ true → (a || b) ≡ true
left-or true b is = refl
left-or false b is = cc

right-or : (a b : Bool) → b ≡ true → (a || b) ≡ true
right-or true b is = refl
right-or false b is = is

both : (a b : Bool) → (a && b) ≡ true → (a ≡ true) × (b ≡ true)
both true b is = (refl, is)
both false b is = cc

and-both : (a b : Bool) → a ≡ true → b ≡ true → (a && b) ≡ true
and-both true b is also = also
and-both false b is also = cc

-- a test that leads to a test: where the second is off, so is the first
pub off-back : (a b : Bool) → (a ≡ true → b ≡ true) → b ≡ false → a ≡ false
off-back true b leads off = absurd (let on = leads refl in let clash : true ≡ false = sym on ∙ off in cc)
off-back false b leads off = refl

module _ (old superblock new : Durable) (w : IsWidened old superblock new) where
  -- what the bounds held of, the wider ones do
  wider : (other : Durable) → Bounds old other → Bounds new other
  wider other b = record {
    named = λ leg is. w.named leg ∙ left-or (is_named leg old) (is_named leg superblock) (b.named leg is);
    lacking = λ leg is. w.lacking leg ∙ left-or (is_lacking leg old) (is_lacking leg superblock) (b.lacking leg is);
    listed = λ leg is. b.listed leg (both (is_listed leg old) (is_listed leg superblock) (sym (w.listed leg) ∙ is)).0;
    marked = λ region is. b.marked region (sym (w.marked region) ∙ is);
  }

  wider-all : (images : List Durable) → AllBounded old images → AllBounded new images
  wider-all [] all = tt
  wider-all (other ∷ images) all = (wider other all.0, wider-all images all.1)

begins : {L : Type 0} (stripe : StripeState L) (old superblock new : Durable) (images : List Durable)
    → AllBounded old images → IsTaken stripe old superblock → IsWidened old superblock new
    → Resaves stripe old new × AllBounded new (superblock ∷ images)
begins stripe old superblock new images all t w = (
  record {
    named = λ leg is. ⊎_elim (λ was. inl was) (λ now. inr (t.named leg now)) (either (is_named leg old) (is_named leg superblock) (sym (w.named leg) ∙ is));
    lacking = λ leg is. ⊎_elim (λ was. inr (inl was)) (λ now. t.lacking leg now) (either (is_lacking leg old) (is_lacking leg superblock) (sym (w.lacking leg) ∙ is));
    listed = λ leg in_sync was. w.listed leg ∙ and-both (is_listed leg old) (is_listed leg superblock) was (t.listed leg in_sync);
    marked = λ region is. w.marked region ∙ is;
  },
  (
    record {
      named = λ leg is. w.named leg ∙ right-or (is_named leg old) (is_named leg superblock) is;
      lacking = λ leg is. w.lacking leg ∙ right-or (is_lacking leg old) (is_lacking leg superblock) is;
      listed = λ leg is. (both (is_listed leg old) (is_listed leg superblock) (sym (w.listed leg) ∙ is)).1;
      marked = λ region is. t.marked region (sym (w.marked region) ∙ is);
    },
    wider-all old superblock new w images all,
  ),
)

ends : {L : Type 0} (stripe : StripeState L) (old superblock : Durable) (images : List Durable)
    → AllBounded old (superblock ∷ images) → Resaves stripe old superblock × AllBounded superblock (superblock ∷ [])
ends stripe old superblock images all = (
  record {
    named = λ leg is. inl (all.0.named leg is);
    lacking = λ leg is. inr (inl (all.0.lacking leg is));
    listed = λ leg in_sync was. all.0.listed leg was;
    marked = λ region is. all.0.marked region is;
  },
  (record { named = λ leg is. is; lacking = λ leg is. is; listed = λ leg is. is; marked = λ region is. is }, tt),
)

bounds-one : (d superblock : Durable) (images : List Durable) → AllBounded d images → IsAmong superblock images → Bounds d superblock
bounds-one d superblock [] all one = absurd one
bounds-one d superblock (other ∷ images) all one =
    ⊎_elim (λ e. subst (λ (x : Durable). Bounds d x) (sym e) all.0) (λ more. bounds-one d superblock images all.1 more) one

starts : {L : Type 0} (model : L → Leg) (stripe : StripeState L) (d superblock : Durable) (images : List Durable) (r : Reopening L) → AllBounded d images → IsAmong superblock images
    → GoesBySuperblock model stripe superblock r → GoesBySuperblock model stripe d r
starts model stripe d superblock images r all one g =
    let b = bounds-one d superblock images all one in
    record {
      may = g.may;
      left = g.left;
      named = b.named r.master g.named;
      behind = λ leg block within inside ne clear.
          let by = g.behind leg block within inside ne clear in (
            off-back (is_marked_at block stripe d) (is_marked_at block stripe superblock) (b.marked (block / stripe.place.region)) by.0,
            ⊎_elim (λ named. inl (b.named leg named)) (λ lacking. inr (b.lacking leg lacking)) by.1,
          );
    }

pub saves-safe : {L : Type 0} (model : L → Leg) → SavesAreSafe model
saves-safe model = record { begins = begins; ends = ends; starts = starts model }
