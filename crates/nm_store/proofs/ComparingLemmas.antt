-- A comparison goes on: the legs that join stay out in the region table until it ends.
use Rattle.std.proofs.Common.{◌≡◌, ◌≢◌, ⊎_elim, ℕ, zero, suc, ◌+◌, ◌<◌, ◌≤◌, ◌/◌, ◌%◌, ◌^◌, ◌==◌, Bool, true, false, List, ◌∷◌, map, length, length-set, replicate, refl, sym, ap, ◌∙◌, subst, arith, get_or, slice_set, ◌*◌, ◌++◌, [], take, drop, Result, Ok, Err, OnErr}
use Rattle.std.proofs.Math.Nat.{zero-div}
use Rattle.std.proofs.lemmas.List.{get_or-replicate, length-drop, length-replicate, take-append-drop}
use Rattle.nm_replay.specs.declared.block.Block.{Block}
use Rattle.nm_choice.specs.declared.leg_state.LegState.{LegState}
use Rattle.nm_choice.specs.declared.leg_state.LegState.TheVariants.{InSync, Joining, Out}
use Rattle.nm_choice.specs.declared.policy.Policy.{Policy}
use Rattle.nm_leg.specs.Leg.{Leg, LegType, cut_into}
use Rattle.nm_leg.specs.LegCalls.{EachHas}
use Rattle.nm_regions.specs.Changes.{all_set_aside, attached}
use Rattle.nm_regions.specs.LegFlags.{LegRegions, no_leg, opened_leg, set_aside}
use Rattle.nm_regions.specs.LegFlags as leg_flags
use Rattle.nm_regions.specs.Table.{regions_of}
use Rattle.nm_rules.specs.declared.at.At.{At}
use Rattle.nm_rules.specs.RunCalls.{ReadsRunAt}
use Rattle.nm_rules.specs.Comparing.{comparing, marked_at, dropped}
use Rattle.nm_rules.specs.RunComparing.{ComparesLegRun, ComparesLegsRun, ComparesRun, FailsRead, HoldsOther, HoldsSame, IsPassedOver}
use Rattle.nm_rules.specs.Opening.{opened, opened_state, bits_from, has_bit}
use Rattle.nm_rules.specs.State.{StripeState, is_joining, leg_state, table}
use Rattle.nm_rules.proofs.AttachLemmas.{set-same, set-other}
use Rattle.nm_rules.proofs.LegLemmas.{calls-length}
use Rattle.nm_rules.proofs.RecordLemmas.{one_or_two}
use Rattle.nm_store.specs.Comparing.{IsComparing}

-- one leg's regions are changed, and it is out as before
out-set : (flags : List LegRegions) (leg : ℕ) (l : LegRegions) → leg < length flags → l.out ≡ (get_or flags leg no_leg).out → (j : ℕ) → (get_or (slice_set flags leg l) j no_leg).out ≡ (get_or flags j no_leg).out
out-set flags leg l inside same j =
    ⊎_elim
    (λ here. subst (λ (i : ℕ). (get_or (slice_set flags leg l) i no_leg).out ≡ (get_or flags i no_leg).out) (sym here)
    (ap (λ (x : LegRegions). x.out) (set-same flags leg l no_leg inside) ∙ same))
    (λ ne. ap (λ (x : LegRegions). x.out) (set-other flags leg j l no_leg ne))
    (one_or_two j leg)

module _ {L : Type 0} (type : LegType L) where
  -- the legs after a read
  pub read-comparing : (succeeded : Bool) (leg block : ℕ) (old : StripeState L) (legs : List L) (found : List Block) → ReadsRunAt type succeeded leg block found old.legs legs → IsComparing type.model old → IsComparing type.model (record old { legs = legs })
  read-comparing succeeded leg block old legs found r k =
      let count : length legs ≡ length old.legs = calls-length type.model old.legs legs leg r.before r.after r.change in
      record {
        lengths = r.change.lengths old.place.blocks k.lengths;
        states = k.states ∙ sym count;
        flags = k.flags ∙ sym count;
        master = omega (arith, k.master, count);
        aside = λ j inside. k.aside j (omega (arith, inside, count));
      }

  marked-comparing : (leg block : ℕ) (old : StripeState L) → leg < length old.legs → IsComparing type.model old → IsComparing type.model (marked_at leg block old)
  marked-comparing leg block old inside k =
      let l : LegRegions = leg_flags.marked (block / old.place.region) (get_or old.flags leg no_leg) in
      record {
        lengths = k.lengths;
        states = k.states;
        flags = length-set old.flags leg l ∙ k.flags;
        master = k.master;
        aside = λ j within joins. out-set old.flags leg l (omega (arith, inside, k.flags)) refl j ∙ k.aside j within joins;
      }

  dropped-comparing : (leg : ℕ) (old : StripeState L) → leg < length old.legs → IsComparing type.model old → IsComparing type.model (dropped leg old)
  dropped-comparing leg old inside k =
      let l : LegRegions = leg_flags.all_marked (get_or old.flags leg no_leg) in
      record {
        lengths = k.lengths;
        states = length-set old.states leg Out ∙ k.states;
        flags = length-set old.flags leg l ∙ k.flags;
        master = k.master;
        aside = λ j within joins. ⊎_elim
            (λ here. absurd (
            let gone : get_or (slice_set old.states leg Out) j Out ≡ Out = subst (λ (i : ℕ). get_or (slice_set old.states leg Out) i Out ≡ Out) (sym here) (set-same old.states leg Out Out (omega (arith, inside, k.states))) in
            let clash : true ≡ false = sym joins ∙ ap (λ (st : LegState). is_joining st) gone in
            cc))
            (λ ne.
            out-set old.flags leg l (omega (arith, inside, k.flags)) refl j
            ∙ k.aside j within (ap (λ (st : LegState). is_joining st) (sym (set-other old.states leg j Out Out ne)) ∙ joins))
            (one_or_two j leg);
      }

  pub leg-comparing : (block : ℕ) (blocks : List Block) (leg : ℕ) (old new : StripeState L) → leg < length old.legs → IsComparing type.model old → ComparesLegRun type block blocks leg old new → IsComparing type.model new
  leg-comparing block blocks leg old new inside k (IsPassedOver off after) = subst (λ (s : StripeState L). IsComparing type.model s) (sym after) k
  leg-comparing block blocks leg old new inside k (HoldsSame on reads after) =
      subst (λ (s : StripeState L). IsComparing type.model s) (sym after) (read-comparing true leg block old new.legs blocks reads k)
  leg-comparing block blocks leg old new inside k (HoldsOther on found reads long differs after) =
      let count : length new.legs ≡ length old.legs = calls-length type.model old.legs new.legs leg reads.before reads.after reads.change in
      subst (λ (s : StripeState L). IsComparing type.model s) (sym after)
      (marked-comparing leg block (record old { legs = new.legs }) (omega (arith, inside, count)) (read-comparing true leg block old new.legs found reads k))
  leg-comparing block blocks leg old new inside k (FailsRead on found reads after) =
      let count : length new.legs ≡ length old.legs = calls-length type.model old.legs new.legs leg reads.before reads.after reads.change in
      subst (λ (s : StripeState L). IsComparing type.model s) (sym after)
      (dropped-comparing leg (record old { legs = new.legs }) (omega (arith, inside, count)) (read-comparing false leg block old new.legs found reads k))

  pub leg-count : (block : ℕ) (blocks : List Block) (leg : ℕ) (old new : StripeState L) → ComparesLegRun type block blocks leg old new → (length new.legs ≡ length old.legs) × (new.place ≡ old.place)
  leg-count block blocks leg old new (IsPassedOver off after) = (ap (λ (s : StripeState L). length s.legs) after, ap (λ (s : StripeState L). s.place) after)
  leg-count block blocks leg old new (HoldsSame on reads after) = (calls-length type.model old.legs new.legs leg reads.before reads.after reads.change, ap (λ (s : StripeState L). s.place) after)
  leg-count block blocks leg old new (HoldsOther on found reads long differs after) = (calls-length type.model old.legs new.legs leg reads.before reads.after reads.change, ap (λ (s : StripeState L). s.place) after)
  leg-count block blocks leg old new (FailsRead on found reads after) = (calls-length type.model old.legs new.legs leg reads.before reads.after reads.change, ap (λ (s : StripeState L). s.place) after)

  -- a comparison leaves the place, and as many legs
  pub legs-count : (block : ℕ) (blocks : List Block) (n : ℕ) (old new : StripeState L) → ComparesLegsRun type block blocks n old new → (length new.legs ≡ length old.legs) × (new.place ≡ old.place)
  legs-count block blocks zero old new c = (ap (λ (s : StripeState L). length s.legs) c, ap (λ (s : StripeState L). s.place) c)
  legs-count block blocks (suc n) old new c =
      let before = legs-count block blocks n old c.0 c.1 in
      let last = leg-count block blocks n c.0 new c.2 in
      (last.0 ∙ before.0, last.1 ∙ before.1)

  pub legs-comparing : (block : ℕ) (blocks : List Block) (n : ℕ) (old new : StripeState L) → n ≤ length old.legs → IsComparing type.model old → ComparesLegsRun type block blocks n old new → IsComparing type.model new
  legs-comparing block blocks zero old new few k c = subst (λ (s : StripeState L). IsComparing type.model s) (sym c) k
  legs-comparing block blocks (suc n) old new few k c =
      let count = legs-count block blocks n old c.0 c.1 in
      leg-comparing block blocks n c.0 new (omega (arith, few, count.0)) (legs-comparing block blocks n old c.0 (omega (arith, few)) k c.1) c.2

  pub run-comparing : (block count : ℕ) (old new : StripeState L) → IsComparing type.model old → ComparesRun type block count old new → IsComparing type.model new × (new.place ≡ old.place)
  run-comparing block count old new k b =
      let same : length b.legs ≡ length old.legs = calls-length type.model old.legs b.legs old.master b.reads.before b.reads.after b.reads.change in (
        legs-comparing block b.found (length old.legs) (record old { legs = b.legs }) new (omega (arith, same)) (read-comparing true old.master block old b.legs b.found b.reads k) b.compares,
        (legs-count block b.found (length old.legs) (record old { legs = b.legs }) new b.compares).1,
      )

  -- a leg was read: what the call and the change after it say, as one comparison
  module _ (leg block : ℕ) (blocks found : List Block) (old mid new : StripeState L) (joins : is_joining (leg_state leg old) ≡ true) (ok : Bool) (reads : ReadsRunAt type ok leg block found old.legs mid.legs) (others : mid ≡ record old { legs = mid.legs }) where
    read-as : (is : Bool) → ok ≡ is → (legs : List L) → legs ≡ mid.legs → ReadsRunAt type is leg block found old.legs legs
    read-as is ok_is legs same =
        subst (λ (ls : List L). ReadsRunAt type is leg block found old.legs ls) (sym same)
        (subst (λ (b : Bool). ReadsRunAt type b leg block found old.legs mid.legs) ok_is reads)

    pub fails-read : ok ≡ false → new ≡ dropped leg mid → ComparesLegRun type block blocks leg old new
    fails-read failed after =
        let legs_are : new.legs ≡ mid.legs = ap (λ (s : StripeState L). s.legs) after in
        FailsRead joins found (read-as false failed new.legs legs_are)
        (after ∙ ap (λ (s : StripeState L). dropped leg s) others
        ∙ ap (λ (ls : List L). dropped leg (let s : StripeState L = record old { legs = ls } in s)) (sym legs_are))

    pub holds-other : ok ≡ true → length found ≡ length blocks → found ≢ blocks → new ≡ marked_at leg block mid → ComparesLegRun type block blocks leg old new
    holds-other went_well long differs after =
        let legs_are : new.legs ≡ mid.legs = ap (λ (s : StripeState L). s.legs) after in
        HoldsOther joins found (read-as true went_well new.legs legs_are) long differs
        (after ∙ ap (λ (s : StripeState L). marked_at leg block s) others
        ∙ ap (λ (ls : List L). marked_at leg block (let s : StripeState L = record old { legs = ls } in s)) (sym legs_are))

    pub holds-same : ok ≡ true → found ≡ blocks → ComparesLegRun type block blocks leg old mid
    holds-same went_well same =
        HoldsSame joins
        (subst (λ (b : List Block). ReadsRunAt type true leg block b old.legs mid.legs) same (read-as true went_well mid.legs refl))
        others

-- no leg is in sync where no bit is set
joining-bits : (n i : ℕ) → map opened_state (bits_from 0 n i) ≡ replicate n Joining
joining-bits zero i = refl
joining-bits (suc n) i =
    let off : has_bit 0 i ≡ false = ap (λ (q : ℕ). q % 2 == 1) (zero-div (2 ^ i)) in
    ap (λ (b : Bool). opened_state b ∷ map opened_state (bits_from 0 n (i + 1))) off
    ∙ ap (λ (rest : List LegState). Joining ∷ rest) (joining-bits n (i + 1))

-- every leg is set aside, whatever it was
aside-bits : (regions n i : ℕ) → map set_aside (map (opened_leg regions) (bits_from 0 n i)) ≡ replicate n (record { out = true; behind = replicate regions false })
aside-bits regions zero i = refl
aside-bits regions (suc n) i =
    let whole : ◌≡◌ {A = LegRegions} (record { out = true; behind = replicate (length (opened_leg regions (has_bit 0 i)).behind) false }) (record { out = true; behind = replicate regions false }) =
    ap (λ (c : ℕ). let x : LegRegions = record { out = true; behind = replicate c false } in x) (long regions (has_bit 0 i)) in
    ap (λ (x : LegRegions). x ∷ map set_aside (map (opened_leg regions) (bits_from 0 n (i + 1)))) whole
    ∙ ap (λ (rest : List LegRegions). let x : LegRegions = record { out = true; behind = replicate regions false } in x ∷ rest) (aside-bits regions n (i + 1))
  where
    long : (count : ℕ) (b : Bool) → length (opened_leg count b).behind ≡ count
    long count true = length-replicate count false
    long count false = length-replicate count true

module _ {L : Type 0} (place : At) (legs : List L) (master first : ℕ) (policy : Policy) (inside : master < length legs) where
  abbrev old : StripeState L
  old = opened place legs 0 first policy

  abbrev waiting : LegRegions
  waiting = record { out = true; behind = replicate (regions_of place.blocks place.region) false }

  -- what a comparison begins with is the opened stripe, with all but the master set aside
  pub comparing-is : record old { states = slice_set old.states master InSync; flags = (attached master (all_set_aside (table old))).legs; master = master } ≡ comparing place legs master first policy
  comparing-is =
      ap (λ (ls : List LegRegions). let x : StripeState L = record old { states = slice_set old.states master InSync; flags = slice_set ls master (leg_flags.attached (get_or ls master no_leg)); master = master } in x) (aside-bits (regions_of place.blocks place.region) (length legs) 0)
      ∙ ap (λ (l : LegRegions). let x : StripeState L = record old { states = slice_set old.states master InSync; flags = slice_set (replicate (length legs) waiting) master (leg_flags.attached l); master = master } in x) (get_or-replicate (length legs) master waiting no_leg inside)
      ∙ ap (λ (sts : List LegState). let x : StripeState L = record old { states = slice_set sts master InSync; flags = slice_set (replicate (length legs) waiting) master (opened_leg (regions_of place.blocks place.region) true); master = master } in x) (joining-bits (length legs) 0)

  -- and its legs may be compared
  pub starts-comparing : (model : L → Leg) → EachHas model legs place.blocks → IsComparing model (comparing place legs master first policy)
  starts-comparing model each = record {
    lengths = each;
    states = length-set (replicate (length legs) Joining) master InSync ∙ length-replicate (length legs) Joining;
    flags = length-set (replicate (length legs) waiting) master (opened_leg (regions_of place.blocks place.region) true) ∙ length-replicate (length legs) waiting;
    master = inside;
    aside = λ j within joins. ⊎_elim
        (λ here. absurd (
        let in_sync : get_or (slice_set (replicate (length legs) Joining) master InSync) j Out ≡ InSync = subst (λ (i : ℕ). get_or (slice_set (replicate (length legs) Joining) master InSync) i Out ≡ InSync) (sym here) (set-same (replicate (length legs) Joining) master InSync Out (omega (arith, inside, length-replicate (length legs) Joining))) in
        let clash : true ≡ false = sym joins ∙ ap (λ (st : LegState). is_joining st) in_sync in
        cc))
        (λ ne. ap (λ (l : LegRegions). l.out) (set-other (replicate (length legs) waiting) master j (opened_leg (regions_of place.blocks place.region) true) no_leg ne ∙ get_or-replicate (length legs) j waiting no_leg within))
        (one_or_two j master);
  }

-- an error comes with what holds
pub on-err : {T E P : Type 0} (r : Result T E) → P → OnErr r P
on-err (Ok x) p = tt
on-err (Err e) p = p

-- runs of so many bytes that are cut into the same blocks are the same
pub cut-same : (n : ℕ) (xs ys : List ℕ) → length xs ≡ 512 * n → length ys ≡ 512 * n → cut_into n xs ≡ cut_into n ys → xs ≡ ys
cut-same zero [] [] long as_long same = refl
cut-same zero [] (y ∷ ys) long as_long same = absurd (let e : ⊥ = omega (arith, as_long) in e)
cut-same zero (x ∷ xs) ys long as_long same = absurd (let e : ⊥ = omega (arith, long) in e)
cut-same (suc n) xs ys long as_long same =
    let front : take 512 xs ≡ take 512 ys = ap (λ (bs : List Block). first_bytes bs) same in
    let rest : drop 512 xs ≡ drop 512 ys =
    cut-same n (drop 512 xs) (drop 512 ys) (omega (arith, length-drop 512 xs, long)) (omega (arith, length-drop 512 ys, as_long)) (ap (λ (bs : List Block). later bs) same) in
    sym (take-append-drop 512 xs) ∙ ap (λ (zs : List ℕ). zs ++ drop 512 xs) front ∙ ap (λ (zs : List ℕ). take 512 ys ++ zs) rest ∙ take-append-drop 512 ys
  where
    first_bytes : List Block → List ℕ
    first_bytes [] = []
    first_bytes (b ∷ bs) = b.0

    later : List Block → List Block
    later [] = []
    later (b ∷ bs) = bs
