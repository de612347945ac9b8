-- A store opens leg by leg: each stands as the plan says, and its regions are marked one by one.
use Rattle.std.proofs.Common.{◌≡◌, ◌≢◌, ⊎_elim, ℕ, zero, suc, ◌+◌, ◌<◌, ◌≤◌, ◌==◌, ◌||◌, Bool, true, false, cond, List, [], ◌∷◌, map, replicate, length, length-set, refl, sym, ap, ◌∙◌, subst, arith, get_or, slice_set}
use Rattle.std.proofs.lemmas.Bool.Decides.{nat_tests}
use Rattle.std.proofs.lemmas.List.{ext_get_or, get_or-map, get_or-replicate, length-map, length-replicate}
use Rattle.nm_choice.specs.declared.leg_state.LegState.{LegState}
use Rattle.nm_choice.specs.declared.leg_state.LegState.TheVariants.{InSync, Joining, Out}
use Rattle.nm_choice.specs.declared.policy.Policy.{Policy}
use Rattle.nm_fanout.specs.declared.write_record.Record.{Record}
use Rattle.nm_regions.specs.LegFlags.{LegRegions, no_leg, opened_leg}
use Rattle.nm_regions.specs.Table.{RegionTable, regions_of}
use Rattle.nm_rules.specs.declared.at.At.{At}
use Rattle.nm_rules.specs.declared.leg_opening.LegOpening.{LegOpening}
use Rattle.nm_rules.specs.declared.leg_opening.LegOpening.TheVariants.{Missing}
use Rattle.nm_rules.specs.Attach.{either, lacking_from, may_lack}
use Rattle.nm_rules.specs.Comparing.{comparing, waiting}
use Rattle.nm_rules.specs.Reopening.{Marks, OpeningPlan, is_in_marked, marks_from, planned, reopened, reopened_flags, reopened_leg, reopened_state, reopened_states}
use Rattle.nm_rules.specs.State.{StripeState, writes_from}
use Rattle.nm_rules.proofs.AttachLemmas.{set-same, set-other}
use Rattle.nm_rules.proofs.RecordLemmas.{one_or_two}
use Rattle.nm_rules.proofs.ReopeningLemmas.{length-marks}
use Rattle.nm_rules.proofs.ReturnLemmas.{length-either}
use Rattle.nm_store.specs.Reopening.{AreAside, IsAside, opened_upto, set_others, stands_as}

-- so many regions have so many counters
pub writes-length : (size n k : ℕ) (rs : List Record) → length (writes_from size n k rs) ≡ n
writes-length size zero k rs = refl
writes-length size (suc n) k rs = ap (λ (m : ℕ). suc m) (writes-length size n (k + 1) rs)

-- for each of so many regions, from this one on, what the test says
abbrev pub flags_from : (ℕ → Bool) → (count region : ℕ) → List Bool
flags_from test zero region = []
flags_from test (suc count) region = test region ∷ flags_from test count (region + 1)

length-flags : (test : ℕ → Bool) (count region : ℕ) → length (flags_from test count region) ≡ count
length-flags test zero region = refl
length-flags test (suc count) region = ap (λ (k : ℕ). suc k) (length-flags test count (region + 1))

-- so are the marks of spans
pub marks-are : (marks : Marks) (count region : ℕ) → flags_from (is_in_marked marks) count region ≡ marks_from marks count region
marks-are marks zero region = refl
marks-are marks (suc count) region = ap (λ (rest : List Bool). is_in_marked marks region ∷ rest) (marks-are marks count (region + 1))

-- and what a leg may lack
pub lacking-are : (marks : Marks) (unsynced : List Bool) (t : RegionTable) (count region : ℕ)
    → flags_from (may_lack marks unsynced t) count region ≡ lacking_from marks unsynced t count region
lacking-are marks unsynced t zero region = refl
lacking-are marks unsynced t (suc count) region =
    ap (λ (rest : List Bool). may_lack marks unsynced t region ∷ rest) (lacking-are marks unsynced t count (region + 1))

-- the flags once the first so many regions are marked as the test says
abbrev pub marked_upto : (ℕ → Bool) → ℕ → List Bool → List Bool
marked_upto test zero flags = flags
marked_upto test (suc region) flags =
    let rest = marked_upto test region flags in
    cond (test region) (slice_set rest region true) rest

or-none : (b : Bool) → b ≡ (b || false)
or-none true = refl
or-none false = refl

-- a flag is set where one of both is
either-at : (flags more : List Bool) (i : ℕ) → i < length flags → get_or (either flags more) i false ≡ (get_or flags i false || get_or more i false)
either-at [] more i inside = absurd (omega (arith, inside))
either-at (b ∷ flags) [] zero inside = or-none b
either-at (b ∷ flags) [] (suc i) inside = or-none (get_or flags i false)
either-at (b ∷ flags) (m ∷ more) zero inside = refl
either-at (b ∷ flags) (m ∷ more) (suc i) inside = either-at flags more i (omega (arith, inside))

-- where none was set it is as the other
pub either-none : (more : List Bool) → either (replicate (length more) false) more ≡ more
either-none [] = refl
either-none (m ∷ more) = ap (λ (rest : List Bool). m ∷ rest) (either-none more)

module _ (test : ℕ → Bool) where
  -- the flags from a region on, at each place
  flags-at : (count region i : ℕ) → i < count → get_or (flags_from test count region) i false ≡ test (region + i)
  flags-at zero region i inside = absurd (omega (arith, inside))
  flags-at (suc count) region zero inside = ap (λ (k : ℕ). test k) (let e : region ≡ region + 0 = omega arith in e)
  flags-at (suc count) region (suc i) inside =
      flags-at count (region + 1) i (omega (arith, inside)) ∙ ap (λ (k : ℕ). test k) (let e : region + 1 + i ≡ region + suc i = omega arith in e)

  length-upto : (region : ℕ) (flags : List Bool) → length (marked_upto test region flags) ≡ length flags
  length-upto zero flags = refl
  length-upto (suc region) flags =
      elim (test region) as (λ b. length (cond b (slice_set (marked_upto test region flags) region true) (marked_upto test region flags)) ≡ length flags) [
        | true ↦ length-set (marked_upto test region flags) region true ∙ length-upto region flags
        | false ↦ length-upto region flags
      ]

  -- a region that was not reached stays as it was
  upto-past : (region i : ℕ) (flags : List Bool) → region ≤ i → get_or (marked_upto test region flags) i false ≡ get_or flags i false
  upto-past zero i flags past = refl
  upto-past (suc region) i flags past =
      elim (test region) as (λ b. get_or (cond b (slice_set (marked_upto test region flags) region true) (marked_upto test region flags)) i false ≡ get_or flags i false) [
        | true ↦ set-other (marked_upto test region flags) region i true false (λ same. omega (arith, past, same)) ∙ upto-past region i flags (omega (arith, past))
        | false ↦ upto-past region i flags (omega (arith, past))
      ]

  -- any other is set too where the test says so
  upto-on : (region i : ℕ) (flags : List Bool) → i < region → i < length flags → get_or (marked_upto test region flags) i false ≡ (get_or flags i false || test i)
  upto-on zero i flags low inside = absurd (omega (arith, low))
  upto-on (suc region) i flags low inside =
      ⊎_elim
      (λ same. subst (λ (k : ℕ). get_or (marked_upto test (suc region) flags) k false ≡ (get_or flags k false || test k)) (sym same) (here region (omega (arith, same, inside))))
      (λ apart.
      let rest : get_or (marked_upto test region flags) i false ≡ (get_or flags i false || test i) = upto-on region i flags (omega (arith, low, apart)) inside in
      elim (test region) as (λ b. get_or (cond b (slice_set (marked_upto test region flags) region true) (marked_upto test region flags)) i false ≡ (get_or flags i false || test i)) [
        | true ↦ set-other (marked_upto test region flags) region i true false apart ∙ rest
        | false ↦ rest
      ])
      (one_or_two i region)
    where
      or-true : (b : Bool) → true ≡ (b || true)
      or-true true = refl
      or-true false = refl

      here : (k : ℕ) → k < length flags → get_or (marked_upto test (suc k) flags) k false ≡ (get_or flags k false || test k)
      here k within =
          elim (test k) as (λ b. get_or (cond b (slice_set (marked_upto test k flags) k true) (marked_upto test k flags)) k false ≡ (get_or flags k false || b)) [
            | true ↦ set-same (marked_upto test k flags) k true false (omega (arith, within, length-upto k flags)) ∙ or-true (get_or flags k false)
            | false ↦ upto-past k k flags (omega arith) ∙ or-none (get_or flags k false)
          ]

  -- once all regions were seen, each is set too where the test says so
  pub all-marked : (regions : ℕ) (flags : List Bool) → length flags ≡ regions → marked_upto test regions flags ≡ either flags (flags_from test regions 0)
  all-marked regions flags long =
      ext_get_or false (marked_upto test regions flags) (either flags (flags_from test regions 0))
      (length-upto regions flags ∙ sym (length-either flags (flags_from test regions 0)))
      (λ i low.
      let inside : i < length flags = omega (arith, low, length-upto regions flags) in
      upto-on regions i flags (omega (arith, inside, long)) inside
      ∙ ap (λ (b : Bool). get_or flags i false || b) (sym (flags-at regions 0 i (omega (arith, inside, long)) ∙ ap (λ (n : ℕ). test n) (let e : 0 + i ≡ i = omega arith in e)))
      ∙ sym (either-at flags (flags_from test regions 0) i inside))

-- from no region behind on they are the marks
module _ (marks : Marks) where
  pub from-none : (regions : ℕ) → either (replicate regions false) (marks_from marks regions 0) ≡ marks_from marks regions 0
  from-none regions =
      ap (λ (n : ℕ). either (replicate n false) (marks_from marks regions 0)) (sym (length-marks marks regions 0)) ∙ either-none (marks_from marks regions 0)

module _ {X : Type 0} (plan : OpeningPlan) (f : LegOpening → X) (xs : List X) where
  abbrev upto : ℕ → List X
  upto n = set_others plan f n xs

  pub length-others : (n : ℕ) → length (upto n) ≡ length xs
  length-others zero = refl
  length-others (suc k) =
      elim (k == plan.master) as (λ b. length (cond b (upto k) (slice_set (upto k) k (f (stands_as plan k)))) ≡ length xs) [
        | true ↦ length-others k
        | false ↦ length-set (upto k) k (f (stands_as plan k)) ∙ length-others k
      ]

  -- a leg that was not reached stays as it was
  pub others-past : (n j : ℕ) (d : X) → n ≤ j → get_or (upto n) j d ≡ get_or xs j d
  others-past zero j d past = refl
  others-past (suc k) j d past =
      elim (k == plan.master) as (λ b. get_or (cond b (upto k) (slice_set (upto k) k (f (stands_as plan k)))) j d ≡ get_or xs j d) [
        | true ↦ others-past k j d (omega (arith, past))
        | false ↦ set-other (upto k) k j (f (stands_as plan k)) d (λ same. omega (arith, past, same)) ∙ others-past k j d (omega (arith, past))
      ]

  -- so does the master
  others-master : (n : ℕ) (d : X) → get_or (upto n) plan.master d ≡ get_or xs plan.master d
  others-master zero d = refl
  others-master (suc k) d =
      (elim (k == plan.master) as (λ b. (k == plan.master) ≡ b → get_or (cond b (upto k) (slice_set (upto k) k (f (stands_as plan k)))) plan.master d ≡ get_or xs plan.master d) [
        | true ↦ λ on. others-master k d
        | false ↦ λ off. set-other (upto k) k plan.master (f (stands_as plan k)) d (λ same. let apart : k ≢ plan.master = grind (arith, nat_tests) in apart (sym same)) ∙ others-master k d
      ]) refl

  -- any other leg stands as the plan says
  others-on : (n j : ℕ) (d : X) → j < n → j < length xs → j ≢ plan.master → get_or (upto n) j d ≡ f (stands_as plan j)
  others-on zero j d low inside ne = absurd (omega (arith, low))
  others-on (suc k) j d low inside ne =
      ⊎_elim
      (λ same. subst (λ (i : ℕ). get_or (upto (suc k)) i d ≡ f (stands_as plan i)) (sym same) (here k (omega (arith, same, inside)) (λ e. ne (same ∙ e))))
      (λ apart.
      let rest : get_or (upto k) j d ≡ f (stands_as plan j) = others-on k j d (omega (arith, low, apart)) inside ne in
      elim (k == plan.master) as (λ b. get_or (cond b (upto k) (slice_set (upto k) k (f (stands_as plan k)))) j d ≡ f (stands_as plan j)) [
        | true ↦ rest
        | false ↦ set-other (upto k) k j (f (stands_as plan k)) d apart ∙ rest
      ])
      (one_or_two j k)
    where
      here : (i : ℕ) → i < length xs → i ≢ plan.master → get_or (upto (suc i)) i d ≡ f (stands_as plan i)
      here i within apart =
          (elim (i == plan.master) as (λ b. (i == plan.master) ≡ b → get_or (cond b (upto i) (slice_set (upto i) i (f (stands_as plan i)))) i d ≡ f (stands_as plan i)) [
            | true ↦ λ on. absurd (let same : i ≡ plan.master = grind (arith, nat_tests) in apart same)
            | false ↦ λ off. set-same (upto i) i (f (stands_as plan i)) d (omega (arith, within, length-others i))
          ]) refl

  -- once all are opened they stand as the plan says, and the master as it was
  pub others-all : (x d : X) → length xs ≡ length plan.others → plan.master < length xs → get_or xs plan.master d ≡ x → upto (length xs) ≡ slice_set (map f plan.others) plan.master x
  others-all x d each inside is =
      let long : length (map f plan.others) ≡ length xs = length-map plan.others f ∙ sym each in
      ext_get_or d (upto (length xs)) (slice_set (map f plan.others) plan.master x)
      (length-others (length xs) ∙ sym (length-set (map f plan.others) plan.master x ∙ long))
      (λ i low.
      let within : i < length xs = omega (arith, low, length-others (length xs)) in
      ⊎_elim
      (λ same. subst (λ (k : ℕ). get_or (upto (length xs)) k d ≡ get_or (slice_set (map f plan.others) plan.master x) k d) (sym same)
      (others-master (length xs) d ∙ is ∙ sym (set-same (map f plan.others) plan.master x d (omega (arith, inside, long)))))
      (λ ne.
      others-on (length xs) i d within within ne
      ∙ sym (set-other (map f plan.others) plan.master i x d ne ∙ get_or-map f plan.others i Missing d (omega (arith, within, each))))
      (one_or_two i plan.master))

module _ {L : Type 0} (plan : OpeningPlan) (old : StripeState L) where
  abbrev regions : ℕ
  regions = regions_of old.place.blocks old.place.region

  -- one leg more is opened
  pub upto-next : (leg : ℕ) → opened_upto plan (suc leg) old
      ≡ (let mid : StripeState L = opened_upto plan leg old in
      cond (leg == plan.master) mid (record mid { states = slice_set mid.states leg (reopened_state (stands_as plan leg)); flags = slice_set mid.flags leg (reopened_leg plan.marks regions (stands_as plan leg)) }))
  upto-next leg =
      elim (leg == plan.master) as (λ b.
      ◌≡◌ {A = StripeState L} (record old {
        states = cond b (set_others plan reopened_state leg old.states) (slice_set (set_others plan reopened_state leg old.states) leg (reopened_state (stands_as plan leg)));
        flags = cond b (set_others plan (reopened_leg plan.marks regions) leg old.flags) (slice_set (set_others plan (reopened_leg plan.marks regions) leg old.flags) leg (reopened_leg plan.marks regions (stands_as plan leg)));
      })
      (let mid : StripeState L = opened_upto plan leg old in
      cond b mid (record mid { states = slice_set mid.states leg (reopened_state (stands_as plan leg)); flags = slice_set mid.flags leg (reopened_leg plan.marks regions (stands_as plan leg)) }))) [
        | true ↦ refl
        | false ↦ refl
      ]

  -- a leg that was not reached is still set aside
  pub upto-aside : (leg : ℕ) → IsAside leg old → IsAside leg (opened_upto plan leg old)
  upto-aside leg is = others-past plan (reopened_leg plan.marks regions) old.flags leg leg no_leg (omega arith) ∙ is

module _ {L : Type 0} (place : At) (legs : List L) (plan : OpeningPlan) (first : ℕ) (policy : Policy) (inside : plan.master < length legs) (each : length plan.others ≡ length legs) where
  abbrev start : StripeState L
  start = comparing place legs plan.master first policy

  abbrev regions_there : ℕ
  regions_there = regions_of place.blocks place.region

  -- each leg but the master is set aside
  pub starts-aside : AreAside start
  starts-aside = λ leg within ne. set-other (replicate (length legs) (waiting regions_there)) plan.master leg (opened_leg regions_there true) no_leg ne ∙ get_or-replicate (length legs) leg (waiting regions_there) no_leg within

  -- and once all are opened the stripe is as the plan says
  pub opened-planned : opened_upto plan (length legs) start ≡ reopened place (planned place legs plan first policy)
  opened-planned =
      let states_long : length start.states ≡ length legs = length-set (replicate (length legs) Joining) plan.master InSync ∙ length-replicate (length legs) Joining in
      let flags_long : length start.flags ≡ length legs = length-set (replicate (length legs) (waiting regions_there)) plan.master (opened_leg regions_there true) ∙ length-replicate (length legs) (waiting regions_there) in
      let states_are : set_others plan reopened_state (length legs) start.states ≡ reopened_states plan =
      ap (λ (n : ℕ). set_others plan reopened_state n start.states) (sym states_long)
      ∙ others-all plan reopened_state start.states InSync Out (states_long ∙ sym each) (omega (arith, inside, states_long)) (set-same (replicate (length legs) Joining) plan.master InSync Out (omega (arith, inside, length-replicate (length legs) Joining))) in
      let flags_are : set_others plan (reopened_leg plan.marks regions_there) (length legs) start.flags ≡ reopened_flags regions_there plan =
      ap (λ (n : ℕ). set_others plan (reopened_leg plan.marks regions_there) n start.flags) (sym flags_long)
      ∙ others-all plan (reopened_leg plan.marks regions_there) start.flags (opened_leg regions_there true) no_leg (flags_long ∙ sym each) (omega (arith, inside, flags_long)) (set-same (replicate (length legs) (waiting regions_there)) plan.master (opened_leg regions_there true) no_leg (omega (arith, inside, length-replicate (length legs) (waiting regions_there)))) in
      ap (λ (sts : List LegState). let x : StripeState L = record start { states = sts; flags = set_others plan (reopened_leg plan.marks regions_there) (length legs) start.flags } in x) states_are
      ∙ ap (λ (ls : List LegRegions). let x : StripeState L = record start { states = reopened_states plan; flags = ls } in x) flags_are
