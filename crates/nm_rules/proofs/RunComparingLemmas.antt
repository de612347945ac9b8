-- A comparison run by run: what is known of each leg once so many blocks are compared is what a comparison
-- block by block leaves.
use Rattle.std.proofs.Common.{◌≡◌, ◌≢◌, ◌⊎◌, ⊎_elim, inl, inr, ℕ, zero, suc, ◌+◌, ◌-◌, ◌<◌, ◌≤◌, ◌/◌, Bool, true, false, IsTrue, List, [], ◌∷◌, length, replicate, length-set, refl, sym, ap, ◌∙◌, subst, arith, get_or, slice_get, slice_set}
use Rattle.std.proofs.lemmas.Bool.{cases_lt}
use Rattle.std.proofs.lemmas.Option.{same_Some}
use Rattle.nm_replay.specs.declared.block.Block.{Block}
use Rattle.nm_replay.specs.Array.{Array}
use Rattle.nm_choice.specs.declared.leg_state.LegState.{LegState}
use Rattle.nm_choice.specs.declared.leg_state.LegState.TheVariants.{Out}
use Rattle.nm_choice.specs.declared.policy.Policy.{Policy}
use Rattle.nm_leg.specs.Leg.{HoldsRun, LegType, block_of}
use Rattle.nm_regions.specs.LegFlags.{LegRegions, is_behind, no_leg}
use Rattle.nm_regions.specs.LegFlags as leg_flags
use Rattle.nm_regions.specs.Table.{leg_at}
use Rattle.nm_rules.specs.declared.at.At.{At}
use Rattle.nm_rules.specs.Array.{contents_of}
use Rattle.nm_rules.specs.RunCalls.{ReadsRunAt}
use Rattle.nm_rules.specs.RunComparing.{ComparesLegRun, ComparesLegsRun, ComparesRun, ComparesRuns, FailsRead, HoldsOther, HoldsSame, IsPassedOver, total_of}
use Rattle.nm_rules.specs.Runs.{FitsRun}
use Rattle.nm_rules.specs.State.{StripeState, is_joining, leg_state, table}
use Rattle.nm_rules.proofs.AttachLemmas.{set-same, set-other}
use Rattle.nm_rules.proofs.CalledLemmas.{SameContents}
use Rattle.nm_rules.proofs.ChunkLemmas.{region_within}
use Rattle.nm_rules.proofs.ComparingLemmas.{IsCompared, IsDropped, IsMaster, Stage, Stands, Told, joins, regions, rest-of, stage-master, stage-place, stands-joins, start}
use Rattle.nm_rules.proofs.LegLemmas.{calls-after, calls-before, calls-length, calls-lengths, calls-other}
use Rattle.nm_rules.proofs.RecordLemmas.{one_or_two}
use Rattle.nm_rules.proofs.RunTargetsLemmas.{same-region}

-- two lists of bytes are one or two
same_bytes : (xs ys : List ℕ) → (xs ≡ ys) ⊎ (xs ≢ ys)
same_bytes [] [] = inl refl
same_bytes [] (y ∷ ys) = inr (λ e. cc)
same_bytes (x ∷ xs) [] = inr (λ e. cc)
same_bytes (x ∷ xs) (y ∷ ys) =
    ⊎_elim
    (λ first. ⊎_elim (λ rest. inl (ap (λ (z : ℕ). z ∷ xs) first ∙ ap (λ (zs : List ℕ). y ∷ zs) rest)) (λ rest. inr (λ e. rest (ap tail_of e))) (same_bytes xs ys))
    (λ first. inr (λ e. first (ap head_of e)))
    (one_or_two x y)
  where
    head_of : List ℕ → ℕ
    head_of [] = 0
    head_of (z ∷ zs) = z

    tail_of : List ℕ → List ℕ
    tail_of [] = []
    tail_of (z ∷ zs) = zs

-- lists of blocks that differ do so at one of them
differs-at : (xs ys : List Block) → length xs ≡ length ys → xs ≢ ys → (i : ℕ) × (i < length xs) × (slice_get xs i ≢ slice_get ys i)
differs-at [] [] long other = absurd (other refl)
differs-at [] (y ∷ ys) long other = absurd (let e : ⊥ = omega (arith, long) in e)
differs-at (x ∷ xs) [] long other = absurd (let e : ⊥ = omega (arith, long) in e)
differs-at (x ∷ xs) (y ∷ ys) long other =
    ⊎_elim
    (λ first.
    let block : x ≡ y = ap (λ (bytes : List ℕ). block_of bytes) first in
    let later = differs-at xs ys (omega (arith, long)) (λ rest. other (ap (λ (z : Block). z ∷ xs) block ∙ ap (λ (zs : List Block). y ∷ zs) rest)) in
    (suc later.0, omega (arith, later.1), later.2))
    (λ first. (0, omega arith, λ e. first (ap (λ (b : Block). b.0) (same_Some x y e))))
    (same_bytes x.0 y.0)

-- an array that holds a run has each of its blocks
held-at : (at i : ℕ) (bs : List Block) (xs : Array) → HoldsRun at bs xs → i < length bs → slice_get xs (at + i) ≡ slice_get bs i
held-at at i [] xs holds below = absurd (let e : ⊥ = omega (arith, below) in e)
held-at at zero (b ∷ bs) xs holds below = ap (λ (n : ℕ). slice_get xs n) (let e : at + 0 ≡ at = omega arith in e) ∙ holds.0
held-at at (suc i) (b ∷ bs) xs holds below = ap (λ (n : ℕ). slice_get xs n) (let e : at + suc i ≡ at + 1 + i = omega arith in e) ∙ held-at (at + 1) i bs xs holds.1 (omega (arith, below))

-- a read of a run, well or not, changes no contents
run-same : {L : Type 0} (type : LegType L) (old : StripeState L) (legs : List L) (succeeded : Bool) (leg at : ℕ) (bs : List Block) → ReadsRunAt type succeeded leg at bs old.legs legs → SameContents type old legs
run-same type old legs succeeded leg at bs r = record {
  count = calls-length type.model old.legs legs leg r.before r.after r.change;
  lengths = λ j. calls-lengths type.model succeeded old.legs legs leg j r.before r.after r.change r.reads.calls;
  contents = λ is_honest j. ⊎_elim
      (λ is. subst (λ (i : ℕ). contents_of type.model legs i ≡ contents_of type.model old.legs i) (sym is)
      (calls-after type.model old.legs legs leg r.before r.after r.change ∙ r.reads.contents is_honest ∙ sym (calls-before type.model old.legs legs leg r.before r.after r.change)))
      (λ ne. calls-other type.model old.legs legs leg j r.before r.after r.change ne)
      (one_or_two j leg);
}

-- and one that went well finds what the leg holds
run-found : {L : Type 0} (type : LegType L) (old new : List L) (leg at i : ℕ) (bs : List Block) → IsTrue type.honest → ReadsRunAt type true leg at bs old new → i < length bs → slice_get (contents_of type.model old leg) (at + i) ≡ slice_get bs i
run-found type old new leg at i bs is_honest r below =
    ap (λ (xs : Array). slice_get xs (at + i)) (calls-before type.model old new leg r.before r.after r.change)
    ∙ held-at at i bs (type.model r.before).contents (r.reads.found is_honest refl) below

module _ {L : Type 0} (type : LegType L) (place : At) (legs : List L) (master first : ℕ) (policy : Policy) where
  abbrev T : ℕ → ℕ → LegRegions → Type 0
  T n leg l = Told type place legs master first policy n leg l

  abbrev S : ℕ → ℕ → LegState → LegRegions → Type 0
  S n leg state l = Stands type place legs master first policy n leg state l

  abbrev has : ℕ → List Block
  has leg = contents_of type.model legs leg

  -- a run is compared, and it is the same
  told-same : (n count leg : ℕ) (l : LegRegions) → T n leg l → ((b : ℕ) → n ≤ b → b < n + count → slice_get (has leg) b ≡ slice_get (has master) b) → T (n + count) leg l
  told-same n count leg l t is = record {
    clear = λ b below off. ⊎_elim (λ low. t.clear b low off) (λ from. is b from below) (cases_lt b n);
    marked = λ region on. let d = t.marked region on in record { block = d.block; below = omega (arith, d.below); lies = d.lies; other = d.other };
  }

  -- or one of its blocks is not, and its region is marked
  told-other : (n count leg at : ℕ) (l : LegRegions) → T n leg l → n / place.region < length l.behind → ((b : ℕ) → n ≤ b → b < n + count → b / place.region ≡ n / place.region)
      → n ≤ at → at < n + count → (slice_get (has leg) at ≢ slice_get (has master) at) → T (n + count) leg (leg_flags.marked (n / place.region) l)
  told-other n count leg at l t inside one low high differs = record {
    clear = λ b below off. ⊎_elim
        (λ here. absurd (let clash : true ≡ false = sym (subst (λ (i : ℕ). get_or (slice_set l.behind (n / place.region) true) i false ≡ true) (sym here) (set-same l.behind (n / place.region) true false inside)) ∙ off in cc))
        (λ ne. ⊎_elim
        (λ before. t.clear b before (sym (set-other l.behind (n / place.region) (b / place.region) true false ne) ∙ off))
        (λ from. absurd (ne (one b from below)))
        (cases_lt b n))
        (one_or_two (b / place.region) (n / place.region));
    marked = λ region on. ⊎_elim
        (λ here. record { block = at; below = high; lies = one at low high ∙ sym here; other = differs })
        (λ ne.
        let d = t.marked region (sym (set-other l.behind (n / place.region) region true false ne) ∙ on) in
        record { block = d.block; below = omega (arith, d.below); lies = d.lies; other = d.other })
        (one_or_two region (n / place.region));
  }

  -- so many blocks are compared, and of the next run so many legs
  pub record RunStage (n count k : ℕ) (s : StripeState L) : Type 0 where
    pub rest : s ≡ record (start type place legs master first policy) { legs = s.legs; states = s.states; flags = s.flags }
    pub count_is : length s.legs ≡ length legs
    pub states : length s.states ≡ length legs
    pub flags : length s.flags ≡ length legs
    pub lengths : (leg : ℕ) → length (contents_of type.model s.legs leg) ≡ length (has leg)
    pub contents : IsTrue type.honest → (leg : ℕ) → contents_of type.model s.legs leg ≡ has leg
    pub done : (leg : ℕ) → leg < k → leg < length legs → S (n + count) leg (leg_state leg s) (leg_at leg (table s))
    pub to_do : (leg : ℕ) → k ≤ leg → leg < length legs → S n leg (leg_state leg s) (leg_at leg (table s))

  -- what one more leg's read changes: that leg alone
  record Moves (n count k : ℕ) (old new : StripeState L) : Type 0 where
    rest : new ≡ record (start type place legs master first policy) { legs = new.legs; states = new.states; flags = new.flags }
    same : SameContents type old new.legs
    states : length new.states ≡ length old.states
    flags : length new.flags ≡ length old.flags
    other_states : (leg : ℕ) → leg ≢ k → leg_state leg new ≡ leg_state leg old
    other_flags : (leg : ℕ) → leg ≢ k → leg_at leg (table new) ≡ leg_at leg (table old)
    here : S (n + count) k (leg_state k new) (leg_at k (table new))

  moved : (n count k : ℕ) (old new : StripeState L) → RunStage n count k old → Moves n count k old new → RunStage n count (suc k) new
  moved n count k old new s m = record {
    rest = m.rest;
    count_is = m.same.count ∙ s.count_is;
    states = m.states ∙ s.states;
    flags = m.flags ∙ s.flags;
    lengths = λ leg. m.same.lengths leg ∙ s.lengths leg;
    contents = λ is_honest leg. m.same.contents is_honest leg ∙ s.contents is_honest leg;
    done = λ leg below inside. ⊎_elim
        (λ same. subst (λ (i : ℕ). S (n + count) i (leg_state i new) (leg_at i (table new))) (sym same) m.here)
        (λ ne. stays (n + count) leg ne (s.done leg (omega (arith, below, ne)) inside))
        (one_or_two leg k);
    to_do = λ leg above inside.
        let ne : leg ≢ k = omega (arith, above) in
        stays n leg ne (s.to_do leg (omega (arith, above)) inside);
  }
    where
      stays : (upto leg : ℕ) → leg ≢ k → S upto leg (leg_state leg old) (leg_at leg (table old)) → S upto leg (leg_state leg new) (leg_at leg (table new))
      stays upto leg ne is =
          subst (λ (l : LegRegions). S upto leg (leg_state leg new) l) (sym (m.other_flags leg ne))
          (subst (λ (st : LegState). S upto leg st (leg_at leg (table old))) (sym (m.other_states leg ne)) is)

  -- a leg that is not compared stands as it did
  passed : (n count leg : ℕ) (state : LegState) (l : LegRegions) → S n leg state l → is_joining state ≡ false → S (n + count) leg state l
  passed n count leg state l (IsMaster here in_sync flags) off = IsMaster here in_sync flags
  passed n count leg state l (IsCompared another joining out whole told) off = absurd (let on : is_joining state ≡ true = ap (λ (st : LegState). is_joining st) joining in let clash : true ≡ false = sym on ∙ off in cc)
  passed n count leg state l (IsDropped another gone flags) off = IsDropped another gone flags

  module _ (n k : ℕ) (blocks : List Block) (sizes : 0 < place.region) (fits : FitsRun place n (length blocks)) (inside : k < length legs)
      (there : IsTrue type.honest → (i : ℕ) → i < length blocks → slice_get (has master) (n + i) ≡ slice_get blocks i) where
    abbrev count : ℕ
    count = length blocks

    within : n < place.blocks
    within = omega (arith, fits.some, fits.inside)

    -- all blocks of the run lie in one region
    one : (b : ℕ) → n ≤ b → b < n + count → b / place.region ≡ n / place.region
    one b low high =
        let is : n + (b - n) ≡ b = omega (arith, low) in
        ap (λ (m : ℕ). m / place.region) (sym is) ∙ (same-region place.region n (b - n) (omega (arith, low, high, fits.one_region))).0

    -- what a read finds is what the leg holds
    found-held : (old : StripeState L) → RunStage n count k old → (new_legs : List L) (found : List Block) → ReadsRunAt type true k n found old.legs new_legs → IsTrue type.honest → (i : ℕ) → i < length found → slice_get (has k) (n + i) ≡ slice_get found i
    found-held old g new_legs found reads is_honest i below =
        ap (λ (xs : List Block). slice_get xs (n + i)) (sym (g.contents is_honest k)) ∙ run-found type old.legs new_legs k n i found is_honest reads below

    place-is : (old : StripeState L) → RunStage n count k old → old.place ≡ place
    place-is old g = ap (λ (x : StripeState L). x.place) g.rest

    moves : (old new : StripeState L) → RunStage n count k old → ComparesLegRun type n blocks k old new → RunStage n count (suc k) new
    moves old new g (IsPassedOver off after) =
        subst (λ (s : StripeState L). RunStage n count (suc k) s) (sym after) (record {
          rest = g.rest;
          count_is = g.count_is;
          states = g.states;
          flags = g.flags;
          lengths = g.lengths;
          contents = g.contents;
          done = λ leg below in_legs. ⊎_elim
              (λ same. subst (λ (i : ℕ). S (n + count) i (leg_state i old) (leg_at i (table old))) (sym same) (passed n count k (leg_state k old) (leg_at k (table old)) (g.to_do k (omega arith) inside) off))
              (λ ne. g.done leg (omega (arith, below, ne)) in_legs)
              (one_or_two leg k);
          to_do = λ leg above in_legs. g.to_do leg (omega (arith, above)) in_legs;
        })
    moves old new g (HoldsSame on reads after) =
        let j = stands-joins type place legs master first policy n k (leg_state k old) (leg_at k (table old)) (g.to_do k (omega arith) inside) on in
        let states_are : new.states ≡ old.states = ap (λ (s : StripeState L). s.states) after in
        let flags_are : new.flags ≡ old.flags = ap (λ (s : StripeState L). s.flags) after in
        moved n count k old new g (record {
          rest = rest-of type place legs master first policy old new old.states old.flags g.rest after;
          same = run-same type old new.legs true k n blocks reads;
          states = ap (λ (xs : List LegState). length xs) states_are;
          flags = ap (λ (xs : List LegRegions). length xs) flags_are;
          other_states = λ leg ne. ap (λ (xs : List LegState). get_or xs leg Out) states_are;
          other_flags = λ leg ne. ap (λ (xs : List LegRegions). get_or xs leg no_leg) flags_are;
          here =
              subst (λ (xs : List LegRegions). S (n + count) k (leg_state k new) (get_or xs k no_leg)) (sym flags_are)
              (subst (λ (xs : List LegState). S (n + count) k (get_or xs k Out) (leg_at k (table old))) (sym states_are)
              (IsCompared j.another (joins (leg_state k old) on) j.out j.whole
              (λ is_honest. told-same n count k (leg_at k (table old)) (j.told is_honest)
              (λ b low high.
              let is : n + (b - n) ≡ b = omega (arith, low) in
              let below : b - n < count = omega (arith, low, high) in
              subst (λ (m : ℕ). slice_get (has k) m ≡ slice_get (has master) m) is (found-held old g new.legs blocks reads is_honest (b - n) below ∙ sym (there is_honest (b - n) below))))));
        })
    moves old new g (HoldsOther on found reads long differs after) =
        let j = stands-joins type place legs master first policy n k (leg_state k old) (leg_at k (table old)) (g.to_do k (omega arith) inside) on in
        let l : LegRegions = leg_at k (table old) in
        let l_new : LegRegions = leg_flags.marked (n / place.region) l in
        let states_are : new.states ≡ old.states = ap (λ (s : StripeState L). s.states) after in
        let flags_are : new.flags ≡ slice_set old.flags k l_new =
        ap (λ (s : StripeState L). s.flags) after
        ∙ ap (λ (p : At). slice_set old.flags k (leg_flags.marked (n / p.region) l)) (place-is old g) in
        let low : n / place.region < length l.behind = omega (arith, region_within n place.blocks place.region within sizes, j.whole) in
        let at = differs-at found blocks long differs in
        let i_low : at.0 < count = omega (arith, at.1, long) in
        moved n count k old new g (record {
          rest = rest-of type place legs master first policy old new old.states (slice_set old.flags k (leg_flags.marked (n / old.place.region) l)) g.rest after;
          same = run-same type old new.legs true k n found reads;
          states = ap (λ (xs : List LegState). length xs) states_are;
          flags = ap (λ (xs : List LegRegions). length xs) flags_are ∙ length-set old.flags k l_new;
          other_states = λ leg ne. ap (λ (xs : List LegState). get_or xs leg Out) states_are;
          other_flags = λ leg ne. ap (λ (xs : List LegRegions). get_or xs leg no_leg) flags_are ∙ set-other old.flags k leg l_new no_leg ne;
          here =
              subst (λ (x : LegRegions). S (n + count) k (leg_state k new) x) (sym (ap (λ (xs : List LegRegions). get_or xs k no_leg) flags_are ∙ set-same old.flags k l_new no_leg (omega (arith, inside, g.flags))))
              (subst (λ (xs : List LegState). S (n + count) k (get_or xs k Out) l_new) (sym states_are)
              (IsCompared j.another (joins (leg_state k old) on) j.out (length-set l.behind (n / place.region) true ∙ j.whole)
              (λ is_honest. told-other n count k (n + at.0) l (j.told is_honest) low one (omega arith) (omega (arith, i_low))
              (λ same. at.2 (sym (found-held old g new.legs found reads is_honest at.0 at.1) ∙ same ∙ there is_honest at.0 i_low)))));
        })
    moves old new g (FailsRead on found reads after) =
        let j = stands-joins type place legs master first policy n k (leg_state k old) (leg_at k (table old)) (g.to_do k (omega arith) inside) on in
        let l : LegRegions = leg_at k (table old) in
        let l_new : LegRegions = leg_flags.all_marked l in
        let states_are : new.states ≡ slice_set old.states k Out = ap (λ (s : StripeState L). s.states) after in
        let flags_are : new.flags ≡ slice_set old.flags k l_new = ap (λ (s : StripeState L). s.flags) after in
        let whole : l_new ≡ record { out = true; behind = replicate (regions type place legs master first policy) true } =
        ap (λ (b : Bool). let x : LegRegions = record { out = b; behind = replicate (length l.behind) true } in x) j.out
        ∙ ap (λ (c : ℕ). let x : LegRegions = record { out = true; behind = replicate c true } in x) j.whole in
        moved n count k old new g (record {
          rest = rest-of type place legs master first policy old new (slice_set old.states k Out) (slice_set old.flags k l_new) g.rest after;
          same = run-same type old new.legs false k n found reads;
          states = ap (λ (xs : List LegState). length xs) states_are ∙ length-set old.states k Out;
          flags = ap (λ (xs : List LegRegions). length xs) flags_are ∙ length-set old.flags k l_new;
          other_states = λ leg ne. ap (λ (xs : List LegState). get_or xs leg Out) states_are ∙ set-other old.states k leg Out Out ne;
          other_flags = λ leg ne. ap (λ (xs : List LegRegions). get_or xs leg no_leg) flags_are ∙ set-other old.flags k leg l_new no_leg ne;
          here = IsDropped j.another
              (ap (λ (xs : List LegState). get_or xs k Out) states_are ∙ set-same old.states k Out Out (omega (arith, inside, g.states)))
              (ap (λ (xs : List LegRegions). get_or xs k no_leg) flags_are ∙ set-same old.flags k l_new no_leg (omega (arith, inside, g.flags)) ∙ whole);
        })

  module _ (sizes : 0 < place.region) where
    -- so many legs are compared at a run
    legs-moved : (n k : ℕ) (blocks : List Block) (old new : StripeState L) → FitsRun place n (length blocks) → k ≤ length legs → (IsTrue type.honest → (i : ℕ) → i < length blocks → slice_get (has master) (n + i) ≡ slice_get blocks i)
        → RunStage n (length blocks) 0 old → ComparesLegsRun type n blocks k old new → RunStage n (length blocks) k new
    legs-moved n zero blocks old new fits few there g c = subst (λ (s : StripeState L). RunStage n (length blocks) 0 s) (sym c) g
    legs-moved n (suc k) blocks old new fits few there g c =
        moves n k blocks sizes fits (omega (arith, few)) there c.0 new (legs-moved n k blocks old c.0 fits (omega (arith, few)) there g c.1) c.2

    -- a run is compared
    run-moved : (n count : ℕ) (old new : StripeState L) → FitsRun old.place n count → Stage type place legs master first policy n 0 old → ComparesRun type n count old new → Stage type place legs master first policy (n + count) 0 new
    run-moved n count old new fits g b =
        let same : SameContents type old b.legs = run-same type old b.legs true old.master n b.found b.reads in
        let here : FitsRun place n (length b.found) =
        subst (λ (c : ℕ). FitsRun place n c) (sym b.long) (subst (λ (p : At). FitsRun p n count) (stage-place type place legs master first policy n 0 old g) fits) in
        let read : RunStage n (length b.found) 0 (record old { legs = b.legs }) = record {
          rest = ap (λ (s : StripeState L). let x : StripeState L = record s { legs = b.legs } in x) g.rest;
          count_is = same.count ∙ g.count;
          states = g.states;
          flags = g.flags;
          lengths = λ leg. same.lengths leg ∙ g.lengths leg;
          contents = λ is_honest leg. same.contents is_honest leg ∙ g.contents is_honest leg;
          done = λ leg below. absurd (omega (arith, below));
          to_do = g.to_do;
        } in
        let there : IsTrue type.honest → (i : ℕ) → i < length b.found → slice_get (has master) (n + i) ≡ slice_get b.found i = λ is_honest i below.
        ap (λ (xs : List Block). slice_get xs (n + i)) (ap (λ (m : ℕ). has m) (sym (stage-master type place legs master first policy n 0 old g)) ∙ sym (g.contents is_honest old.master))
        ∙ run-found type old.legs b.legs old.master n i b.found is_honest b.reads below in
        let all : RunStage n (length b.found) (length old.legs) new = legs-moved n (length old.legs) b.found (record old { legs = b.legs }) new here (omega (arith, g.count)) there read b.compares in
        record {
          rest = all.rest;
          count = all.count_is;
          states = all.states;
          flags = all.flags;
          lengths = all.lengths;
          contents = all.contents;
          done = λ leg below. absurd (omega (arith, below));
          to_do = λ leg above inside. subst (λ (c : ℕ). S (n + c) leg (leg_state leg new) (leg_at leg (table new))) b.long (all.done leg (omega (arith, inside, g.count)) inside);
        }

    -- and runs of so many blocks are
    pub runs-moved : (counts : List ℕ) (old new : StripeState L) → Stage type place legs master first policy 0 0 old → ComparesRuns type counts old new → Stage type place legs master first policy (total_of counts) 0 new
    runs-moved [] old new g c = subst (λ (s : StripeState L). Stage type place legs master first policy 0 0 s) (sym c) g
    runs-moved (count ∷ counts) old new g c =
        let mid = runs-moved counts old c.0 g c.1 in
        let place_is : old.place ≡ c.0.place = stage-place type place legs master first policy 0 0 old g ∙ sym (stage-place type place legs master first policy (total_of counts) 0 c.0 mid) in
        run-moved (total_of counts) count c.0 new (subst (λ (p : At). FitsRun p (total_of counts) count) place_is c.2) mid c.3
