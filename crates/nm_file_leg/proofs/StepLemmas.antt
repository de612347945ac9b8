-- One call more for a run: what it adds to the first bytes of the run.
use Rattle.std.proofs.Common.{◌≡◌, ℕ, ◌+◌, ◌-◌, ◌*◌, ◌/◌, ◌%◌, ◌<◌, ◌≤◌, Bool, true, false, IsTrue, List, ◌++◌, length, length-append, take, drop, ap, sym, ◌∙◌, subst, arith, min, Result, Ok}
use Rattle.std.proofs.lemmas.List.{length-take-le, length-drop, take_at, take-append-drop, append_assoc}
use Rattle.std.proofs.lemmas.Nat.{mod_below}
use Rattle.nm_leg.specs.Leg.{blocks_in}
use Rattle.nm_geometry.specs.Geometry.{Geometry, IsGeometry}
use Rattle.nm_file_leg.specs.Medium.{Held, Kept, ReadsMedium, WritesMedium}
use Rattle.nm_file_leg.specs.Blocks.{first_byte}
use Rattle.nm_file_leg.specs.Runs.{run_places, KeepsRun, ReadsRun, WritesRun}
use Rattle.nm_file_leg.proofs.PlaceLemmas.{place-follows}
use Rattle.nm_file_leg.proofs.RunLemmas.{Follow, keeps-all, reads-stretch, reads-join, writes-stretch, writes-torn, writes-join, writes-longer}

-- one call is for some whole blocks of one region
pub record IsCall (at done many region : ℕ) (bytes : List ℕ) : Type 0 where
  pub some : 0 < many
  pub fits : done + many ≤ length bytes
  pub blocks : many ≡ 512 * (many / 512)
  pub short : (at + done / 512) % region + many / 512 ≤ region

pub one-call : (at done many region : ℕ) (bytes : List ℕ) → 0 < region → done < length bytes → done ≡ 512 * (done / 512) → length bytes ≡ 512 * (length bytes / 512)
    → many ≡ min (length bytes - done) (512 * (region - (at + done / 512) % region)) → IsCall at done many region bytes
one-call at done many region bytes some inside whole run is =
    let low : (at + done / 512) % region < region = mod_below (at + done / 512) region some in
    record { some = omega (arith, is, inside, low); fits = omega (arith, is, inside); blocks = omega (arith, is, whole, run); short = omega (arith, is, low) }

-- the first bytes, where a part behind them is changed
pub front-and-part : (done many : ℕ) (front part rest : List ℕ) → length front ≡ done → length part ≡ many → take (done + many) (front ++ (part ++ rest)) ≡ front ++ part
front-and-part done many front part rest long size =
    let both : length (front ++ part) ≡ done + many = omega (arith, length-append front part, long, size) in
    ap (λ (ys : List ℕ). take (done + many) ys) (sym (append_assoc front part rest)) ∙ take_at (front ++ part) rest (done + many) both

-- the first bytes, and so many more
pub front-and-more : (done many : ℕ) (bytes : List ℕ) → done + many ≤ length bytes → take (done + many) bytes ≡ take done bytes ++ take many (drop done bytes)
front-and-more done many bytes inside =
    let long : length (take done bytes) ≡ done = length-take-le done bytes (omega (arith, inside)) in
    let size : length (take many (drop done bytes)) ≡ many = length-take-le many (drop done bytes) (omega (arith, inside, length-drop done bytes)) in
    ap (λ (ys : List ℕ). take (done + many) ys)
    (sym (ap (λ (ys : List ℕ). take done bytes ++ ys) (take-append-drop many (drop done bytes)) ∙ take-append-drop done bytes))
    ∙ front-and-part done many (take done bytes) (take many (drop done bytes)) (drop many (drop done bytes)) long size

module _ (honest : Bool) (s : ℕ) (p : Geometry) (at done many : ℕ) (whole : done ≡ 512 * (done / 512)) (blocks : many ≡ 512 * (many / 512))
    (short : (at + done / 512) % p.region + many / 512 ≤ p.region) where
  -- the blocks of one call follow one another
  follow : (part : List ℕ) → length part ≡ many → Follow (run_places s p (at + done / 512)) (first_byte s p (at + done / 512)) (blocks_in part)
  follow part size i low = place-follows s p (at + done / 512) i (omega (arith, low, size, short))

  -- the places of the call, by the bytes before it
  before : (front : List ℕ) → length front ≡ done → at + done / 512 ≡ at + blocks_in front
  before front long = omega (arith, long)

  -- where the whole run was kept, the bytes of the call are still
  pub keeps-step : (old mid : Held) (bytes : List ℕ) → done + many ≤ length bytes → WritesRun honest true (run_places s p at) (take done bytes) old mid
      → IsTrue honest → KeepsRun old (run_places s p at) (blocks_in bytes) → Kept mid (first_byte s p (at + done / 512)) many
  keeps-step old mid bytes inside so_far is_honest keeps =
      let from : ℕ = at + done / 512 in
      let follows : Follow (run_places s p from) (first_byte s p from) (many / 512) = λ i low. place-follows s p from i (omega (arith, low, short)) in
      let part : KeepsRun old (run_places s p from) (many / 512) =
      λ i low. subst (λ (k : ℕ). Kept old (first_byte s p k) 512) (let e : at + (done / 512 + i) ≡ at + done / 512 + i = omega arith in e)
      (keeps (done / 512 + i) (omega (arith, low, inside, whole, blocks))) in
      subst (λ (n : ℕ). Kept mid (first_byte s p from) n) (sym blocks)
      (so_far.kept_others is_honest _ _ (keeps-all (run_places s p from) (first_byte s p from) (many / 512) follows old part))

  pub reads-step : {E : Type 0} (result : Result ℕ E) (old mid new : Held) (into part rest : List ℕ) → done ≤ length into → length part ≡ many → result ≡ Ok many
      → ReadsRun honest true (run_places s p at) old mid (take done into) → ReadsMedium honest result (first_byte s p (at + done / 512)) mid new part
      → ReadsRun honest true (run_places s p at) old new (take (done + many) (take done into ++ (part ++ rest)))
  reads-step result old mid new into part rest most size is so_far reads =
      let front = take done into in
      let long : length front ≡ done = length-take-le done into most in
      let all : result ≡ Ok (length part) = is ∙ ap (λ (n : ℕ). Ok n) (sym size) in
      let one = reads-stretch honest (run_places s p (at + done / 512)) (first_byte s p (at + done / 512)) result mid new part (omega (arith, size, blocks)) (follow part size) all reads in
      let placed : ReadsRun honest true (run_places s p (at + blocks_in front)) mid new part =
      subst (λ (k : ℕ). ReadsRun honest true (run_places s p k) mid new part) (before front long) one in
      subst (λ (ys : List ℕ). ReadsRun honest true (run_places s p at) old new ys) (sym (front-and-part done many front part rest long size))
      (reads-join front part (omega (arith, long, whole)) (omega (arith, size, blocks)) honest true s p at old mid new so_far placed)

  pub writes-step : {E : Type 0} (result : Result ℕ E) (old mid new : Held) (bytes : List ℕ) → IsGeometry p → s < p.stripes → 0 < many → done + many ≤ length bytes → result ≡ Ok many
      → WritesRun honest true (run_places s p at) (take done bytes) old mid → WritesMedium honest result (first_byte s p (at + done / 512)) (take many (drop done bytes)) mid new
      → WritesRun honest true (run_places s p at) (take (done + many) bytes) old new
  writes-step result old mid new bytes bounds own some inside is so_far writes =
      let front = take done bytes in
      let part = take many (drop done bytes) in
      let long : length front ≡ done = length-take-le done bytes (omega (arith, inside)) in
      let size : length part ≡ many = length-take-le many (drop done bytes) (omega (arith, inside, length-drop done bytes)) in
      let all : result ≡ Ok (length part) = is ∙ ap (λ (n : ℕ). Ok n) (sym size) in
      let one = writes-stretch honest (run_places s p (at + done / 512)) (first_byte s p (at + done / 512)) result part mid new (omega (arith, size, blocks, some)) (omega (arith, size, blocks)) (follow part size) all writes in
      let placed : WritesRun honest true (run_places s p (at + blocks_in front)) part mid new =
      subst (λ (k : ℕ). WritesRun honest true (run_places s p k) part mid new) (before front long) one in
      subst (λ (ys : List ℕ). WritesRun honest true (run_places s p at) ys old new) (sym (front-and-more done many bytes inside))
      (writes-join front part (omega (arith, long, whole)) (omega (arith, size, blocks)) honest true s p at old mid new bounds own so_far placed)

  pub writes-ends : {E : Type 0} (result : Result ℕ E) (old mid new : Held) (bytes : List ℕ) → IsGeometry p → s < p.stripes → 0 < many → done + many ≤ length bytes
      → WritesRun honest true (run_places s p at) (take done bytes) old mid → WritesMedium honest result (first_byte s p (at + done / 512)) (take many (drop done bytes)) mid new
      → WritesRun honest false (run_places s p at) bytes old new
  writes-ends result old mid new bytes bounds own some inside so_far writes =
      let front = take done bytes in
      let part = take many (drop done bytes) in
      let long : length front ≡ done = length-take-le done bytes (omega (arith, inside)) in
      let size : length part ≡ many = length-take-le many (drop done bytes) (omega (arith, inside, length-drop done bytes)) in
      let one = writes-torn honest (run_places s p (at + done / 512)) (first_byte s p (at + done / 512)) result part mid new (omega (arith, size, blocks, some)) (omega (arith, size, blocks)) (follow part size) writes in
      let placed : WritesRun honest false (run_places s p (at + blocks_in front)) part mid new =
      subst (λ (k : ℕ). WritesRun honest false (run_places s p k) part mid new) (before front long) one in
      let joined = writes-join front part (omega (arith, long, whole)) (omega (arith, size, blocks)) honest false s p at old mid new bounds own so_far placed in
      writes-longer honest (run_places s p at) (front ++ part) bytes old new (omega (arith, length-append front part, long, size, inside)) joined
