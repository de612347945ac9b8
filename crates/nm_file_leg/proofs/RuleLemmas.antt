-- What a leg knows of its medium, through writes and syncs.
use Rattle.std.proofs.Common.{◌≡◌, ⊎_elim, ◌⊎◌, ℕ, ◌+◌, ◌-◌, ◌*◌, ◌/◌, ◌%◌, ◌<◌, ◌≤◌, ◌&&◌, ◌||◌, if◌then◌else◌, Bool, true, false, IsTrue, IsFalse, List, refl, ap, sym, ◌∙◌, subst, arith, nat_le, Result, Ok, inl, inr}
use Rattle.std.proofs.Math.Nat.{div-mul-le_self}
use Rattle.std.proofs.lemmas.Nat.{div-add-mod', mod_below, le-div}
use Rattle.std.proofs.lemmas.Bool.{cases_lt, le-leb, lt-leb, lt-ltb, le-ltb}
use Rattle.nm_leg.specs.Leg.{blocks_in, IsOutside}
use Rattle.nm_geometry.specs.Geometry.{Geometry, IsGeometry, stripe_blocks, regions_for}
use Rattle.nm_file_leg.specs.Medium.{Held, window, Kept, SyncsMedium}
use Rattle.nm_file_leg.specs.Blocks.{first_byte, bytes_at}
use Rattle.nm_file_leg.specs.Runs.{run_places, KeepsRun, WritesRun}
use Rattle.nm_file_leg.specs.FileLeg.{OwnsBlocks, KeepsBlocks, IsDurableAt, FileRules}
use Rattle.nm_file_leg.specs.Remembered.{Remembered, AreWhole, count_regions, region_end, cursor_in, is_written, cursor_moved, touches, Begins, NotesWrite, NotesFailure, EndsPeriod, LearnsLoss, HaveOneSize}
use Rattle.nm_file_leg.proofs.LegLemmas.{run-apart}
use Rattle.nm_file_leg.proofs.RememberedLemmas.{region-inside, between}

-- a block lies before the end of its region
pub before-end : (region blocks k : ℕ) → 1 ≤ region → k < blocks → k < (k / region + 1) * region
before-end region blocks k some low =
    let whole : k / region * region + k % region ≡ k = div-add-mod' k region in
    let short : k % region < region = mod_below k region some in
    let spread : (k / region + 1) * region ≡ k / region * region + region = grind arith in
    omega (arith, whole, short, spread)

-- a later block lies in no earlier region
pub div-mono : (x y n : ℕ) → 1 ≤ n → x ≤ y → x / n ≤ y / n
div-mono x y n some order = le-div (x / n) y n some (omega (arith, div-mul-le_self x n, order))

-- a cursor moves to the end of a run that it stood in, or stays
moves-or-stays : (at end cursor : ℕ) → (cursor_moved at end cursor ≡ cursor) ⊎ ((cursor_moved at end cursor ≡ end) × ((at ≤ cursor) × (cursor < end)))
moves-or-stays at end cursor =
    ⊎_elim
    (λ (low : cursor < at). inl (rw (lt-leb at cursor low) refl))
    (λ (high : at ≤ cursor).
    ⊎_elim
    (λ (inside : cursor < end). inr (rw (le-leb at cursor high, lt-ltb cursor end inside) refl, (high, inside)))
    (λ (behind : end ≤ cursor). inl (rw (le-leb at cursor high, le-ltb cursor end behind) refl))
    (cases_lt cursor end))
    (cases_lt cursor at)

-- a block before a cursor was before it, or was written now
moved-below : (succeeded : Bool) (at count cursor k : ℕ) → k < cursor_moved at (if succeeded then at + count else at) cursor
    → (k < cursor) ⊎ (IsTrue succeeded × ((at ≤ k) × (k < at + count)))
moved-below true at count cursor k low =
    ⊎_elim
    (λ same. inl (omega (arith, low, same)))
    (λ w.
    ⊎_elim
    (λ (under : k < at). inl (omega (arith, under, w.1.0)))
    (λ (over : at ≤ k). inr (refl, (over, omega (arith, low, w.0))))
    (cases_lt k at))
    (moves-or-stays at (at + count) cursor)
moved-below false at count cursor k low =
    ⊎_elim
    (λ same. inl (omega (arith, low, same)))
    (λ w. absurd (let e : ⊥ = omega (arith, w.1.0, w.1.1) in e))
    (moves-or-stays at at cursor)

-- neither of two is so
neither : (a b : Bool) → (a || b) ≡ false → (a ≡ false) × (b ≡ false)
neither false b e = (refl, e)
neither true b e = absurd (let q : ⊥ = cc in q)

-- a block lies before a cursor that is put where a region was written, and stays elsewhere
written-or-not : (written : Bool) (cursor first k : ℕ) (P : Type 0) → (IsFalse written → k < cursor → P) → (k < first → P) → k < (if written then first else cursor) → P
written-or-not true cursor first k P unwritten was low = was low
written-or-not false cursor first k P unwritten was low = unwritten refl low

-- a block of a region that a run has no block in is outside the run
untouched : (at count size k : ℕ) → 1 ≤ size → (nat_le (at / size) (k / size) && nat_le (k / size) ((at + count - 1) / size)) ≡ false → IsOutside at count k
untouched at count size k some none =
    ⊎_elim
    (λ (under : k < at). inl under)
    (λ (over : at ≤ k).
    ⊎_elim
    (λ (inside : k < at + count).
    let first : at / size ≤ k / size = div-mono at k size some over in
    let last : k / size ≤ (at + count - 1) / size = div-mono k (at + count - 1) size some (omega (arith, inside)) in
    let both : (nat_le (at / size) (k / size) && nat_le (k / size) ((at + count - 1) / size)) ≡ true = rw (le-leb (at / size) (k / size) first, le-leb (k / size) ((at + count - 1) / size) last) refl in
    absurd (let q : ⊥ = cc in q))
    (λ (behind : at + count ≤ k). inr behind)
    (cases_lt k (at + count)))
    (cases_lt k at)

module _ (honest : Bool) (held : Held) (s : ℕ) (p : Geometry) (memory : Remembered) (dirty : Bool) (bounds : IsGeometry p) (rules : FileRules honest held s p memory dirty) where
  -- a block of the stripe lies in one of its regions
  pub in-region : (k : ℕ) → k < stripe_blocks s p → k / p.region < count_regions memory
  in-region k low =
      let inside : k / p.region + 1 ≤ regions_for p.region (stripe_blocks s p) = region-inside p.region (stripe_blocks s p) k bounds.some_region low in
      let same : count_regions memory ≡ regions_for p.region (stripe_blocks s p) = ap (λ (n : ℕ). regions_for n memory.blocks) rules.region ∙ ap (λ (n : ℕ). regions_for p.region n) rules.blocks in
      omega (arith, inside, same)

  -- a block of a region of which nothing is lost is kept
  keeps-whole : (k : ℕ) → IsTrue honest → k < stripe_blocks s p → region_end (k / p.region) memory ≤ cursor_in (k / p.region) memory → Kept held (first_byte s p k) 512
  keeps-whole k is_honest low whole =
      let ends : k < (k / p.region + 1) * p.region = before-end p.region (stripe_blocks s p) k bounds.some_region low in
      let size : (k / p.region + 1) * memory.region ≡ (k / p.region + 1) * p.region = ap (λ (n : ℕ). (k / p.region + 1) * n) rules.region in
      rules.kept is_honest k low (omega (arith, ends, size, whole, low, rules.blocks))

  -- where nothing is lost, every block is kept
  pub keeps-blocks : AreWhole 0 (count_regions memory) memory → IsTrue honest → KeepsBlocks held s p (stripe_blocks s p)
  keeps-blocks whole is_honest k low = keeps-whole k is_honest low (whole (k / p.region) (omega arith) (in-region k low))

  -- where nothing is lost of the regions of a run, the run is kept
  pub keeps-run : (at : ℕ) (bytes : List ℕ) → at + blocks_in bytes ≤ stripe_blocks s p
      → AreWhole (at / memory.region) ((at + blocks_in bytes - 1) / memory.region + 1) memory → IsTrue honest → KeepsRun held (run_places s p at) (blocks_in bytes)
  keeps-run at bytes inside whole is_honest i low =
      let k : ℕ = at + i in
      let last : ℕ = at + blocks_in bytes - 1 in
      let from : at / memory.region ≡ at / p.region = ap (λ (n : ℕ). at / n) rules.region in
      let until : last / memory.region ≡ last / p.region = ap (λ (n : ℕ). last / n) rules.region in
      let above : at / p.region ≤ k / p.region = div-mono at k p.region bounds.some_region (omega arith) in
      let below : k / p.region ≤ last / p.region = div-mono k last p.region bounds.some_region (omega (arith, low)) in
      keeps-whole k is_honest (omega (arith, low, inside)) (whole (k / p.region) (omega (arith, from, above)) (omega (arith, until, below)))

  -- a write of a run
  pub rules-write : (succeeded : Bool) (at : ℕ) (bytes : List ℕ) (new : Held) (after : Remembered) → s < p.stripes → at + blocks_in bytes ≤ stripe_blocks s p
      → NotesWrite succeeded at (blocks_in bytes) memory after → WritesRun honest succeeded (run_places s p at) bytes held new → FileRules honest new s p after true
  rules-write succeeded at bytes new after own inside notes writes =
      let count = blocks_in bytes in
      record {
        region = notes.sizes.region ∙ rules.region;
        blocks = notes.sizes.blocks ∙ rules.blocks;
        kept = λ is_honest k below low.
            let r = k / p.region in
            let keeps : k < cursor_in r memory → Kept new (first_byte s p k) 512 = λ was. writes.kept_others is_honest _ _ (rules.kept is_honest k below was) in
            ⊎_elim
            (λ w.
            let is : cursor_in r after ≡ cursor_moved at (if succeeded then at + count else at) (cursor_in r memory) = notes.again r (in-region k below) ∙ rw w.0 refl in
            ⊎_elim keeps
            (λ v.
            let i : ℕ = k - at in
            let place : at + i ≡ k = omega (arith, v.1.0) in
            subst (λ (m : ℕ). Kept new (first_byte s p m) 512) place (writes.kept is_honest v.0 i (omega (arith, v.1.1, place))))
            (moved-below succeeded at count (cursor_in r memory) k (omega (arith, low, is))))
            (λ w.
            let is : cursor_in r after ≡ cursor_in r memory = notes.again r (in-region k below) ∙ rw w.0 refl in
            keeps (omega (arith, low, is)))
            (between (at / memory.region) ((at + count - 1) / memory.region) r);
        durable = λ is_honest k below unwritten.
            let r = k / p.region in
            let none = neither (touches at count r memory) (is_written r memory) (sym (notes.written r (in-region k below)) ∙ unwritten) in
            let out : IsOutside at count k = untouched at count p.region k bounds.some_region (subst (λ (n : ℕ). (nat_le (at / n) r && nat_le r ((at + count - 1) / n)) ≡ false) rules.region none.0) in
            let apart = run-apart honest succeeded s p at bytes held new bounds own writes k out in
            writes.durable_others is_honest _ 512 (omega arith) apart ∙ rules.durable is_honest k below none.1
            ∙ sym (writes.others is_honest _ 512 (omega arith) apart);
        synced = λ _ q. absurd (let e : ⊥ = cc in e);
      }

  -- a sync that succeeds makes every block durable
  pub rules-synced : {E : Type 0} (result : Result (Unit {0}) E) (new : Held) (after : Remembered) → AreWhole 0 (count_regions memory) memory → result ≡ Ok tt
      → HaveOneSize memory after → SyncsMedium honest result held new → FileRules honest new s p after false
  rules-synced result new after whole done sizes syncs =
      let durable : IsTrue honest → (k : ℕ) → k < stripe_blocks s p → IsDurableAt new s p k =
      λ is_honest k below.
      let all : (from many : ℕ) → Kept held from many → window from many new.durable ≡ window from many held.contents = rw done at (syncs.durable is_honest) in
      all _ _ (keeps-blocks whole is_honest k below) ∙ ap (λ (b : List ℕ). bytes_at s p k b) (sym (syncs.contents is_honest)) in
      record {
        region = sizes.region ∙ rules.region;
        blocks = sizes.blocks ∙ rules.blocks;
        kept = λ is_honest k below _.
            let keeps : (from many : ℕ) → Kept held from many → Kept new from many = rw done at (syncs.kept is_honest) in
            keeps _ _ (keeps-blocks whole is_honest k below);
        durable = λ is_honest k below _. durable is_honest k below;
        synced = λ is_honest _. durable is_honest;
      }

  -- a sync that fails loses nothing of the regions that were not written since the last good one
  pub rules-failed : {E : Type 0} (result : Result (Unit {0}) E) (new : Held) (after : Remembered) → IsTrue dirty → NotesFailure memory after → SyncsMedium honest result held new
      → FileRules honest new s p after dirty
  rules-failed result new after is_dirty notes syncs = record {
    region = notes.sizes.region ∙ rules.region;
    blocks = notes.sizes.blocks ∙ rules.blocks;
    kept = λ is_honest k below low.
        let r = k / p.region in
        written-or-not (is_written r memory) (cursor_in r memory) (r * memory.region) k
        (Kept new (first_byte s p k) 512)
        (λ unwritten was. syncs.kept_durable is_honest _ _ (rules.kept is_honest k below was) (rules.durable is_honest k below unwritten))
        (λ was.
        let begins : r * p.region ≤ k = div-mul-le_self k p.region in
        let same : r * memory.region ≡ r * p.region = ap (λ (n : ℕ). r * n) rules.region in
        absurd (let e : ⊥ = omega (arith, was, begins, same) in e))
        (subst (λ (n : ℕ). k < n) (notes.again r (in-region k below)) low);
    durable = λ is_honest k below unwritten.
        let was : IsDurableAt held s p k = rules.durable is_honest k below (sym (notes.written (k / p.region) (in-region k below)) ∙ unwritten) in
        syncs.durable_kept is_honest _ _ was ∙ was ∙ ap (λ (b : List ℕ). bytes_at s p k b) (sym (syncs.contents is_honest));
    synced = λ _ q. absurd (let e : ⊥ = cc in e);
  }

  -- a loss that is told takes nothing of the regions that were not written since the last good sync
  pub rules-told : (lost : Bool) (after : Remembered) → LearnsLoss lost memory after → FileRules honest held s p after dirty
  rules-told false after same = subst (λ (m : Remembered). FileRules honest held s p m dirty) (sym same) rules
  rules-told true after notes = record {
    region = notes.sizes.region ∙ rules.region;
    blocks = notes.sizes.blocks ∙ rules.blocks;
    kept = λ is_honest k below low.
        let r = k / p.region in
        written-or-not (is_written r memory) (cursor_in r memory) (r * memory.region) k
        (Kept held (first_byte s p k) 512)
        (λ unwritten was. rules.kept is_honest k below was)
        (λ was.
        let begins : r * p.region ≤ k = div-mul-le_self k p.region in
        let same : r * memory.region ≡ r * p.region = ap (λ (n : ℕ). r * n) rules.region in
        absurd (let e : ⊥ = omega (arith, was, begins, same) in e))
        (subst (λ (n : ℕ). k < n) (notes.again r (in-region k below)) low);
    durable = λ is_honest k below unwritten.
        rules.durable is_honest k below (sym (notes.written (k / p.region) (in-region k below)) ∙ unwritten);
    synced = rules.synced;
  }

-- the sizes stay as a period ends, or does not
pub ends-sizes : (doubted : Bool) (old new : Remembered) → EndsPeriod doubted old new → HaveOneSize old new
ends-sizes true old new same = record { region = ap (λ (m : Remembered). m.region) same; blocks = ap (λ (m : Remembered). m.blocks) same }
ends-sizes false old new notes = notes.sizes

-- a leg as it is made, all of whose blocks are kept
pub rules-begin : (honest : Bool) (held : Held) (s : ℕ) (p : Geometry) (memory : Remembered) → IsGeometry p → Begins p.region (stripe_blocks s p) memory
    → (IsTrue honest → KeepsBlocks held s p (stripe_blocks s p)) → FileRules honest held s p memory true
rules-begin honest held s p memory bounds is keeps = record {
  region = is.region_is;
  blocks = is.blocks_is;
  kept = λ is_honest k below _. keeps is_honest k below;
  durable = λ is_honest k below unwritten.
      let inside : k / p.region + 1 ≤ regions_for p.region (stripe_blocks s p) = region-inside p.region (stripe_blocks s p) k bounds.some_region below in
      let same : count_regions memory ≡ regions_for p.region (stripe_blocks s p) = ap (λ (n : ℕ). regions_for n memory.blocks) is.region_is ∙ ap (λ (n : ℕ). regions_for p.region n) is.blocks_is in
      let written : is_written (k / p.region) memory ≡ true = is.written (k / p.region) (omega (arith, inside, same)) in
      absurd (let e : ⊥ = cc in e);
  synced = λ _ q. absurd (let e : ⊥ = cc in e);
}

-- what the user owns stays its own
pub owns-kept : (honest : Bool) (s : ℕ) (p : Geometry) (old new : Held) → (IsTrue honest → new.own ≡ old.own)
    → (IsTrue honest → OwnsBlocks old s p) → IsTrue honest → OwnsBlocks new s p
owns-kept honest s p old new same owns is_honest block below i above short =
    subst (λ (o : ℕ → Bool). IsTrue (o i)) (sym (same is_honest)) (owns is_honest block below i above short)
