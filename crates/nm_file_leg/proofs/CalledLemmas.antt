-- One call more of a medium that others call: what it moved, and what was moved before it, is a run.
use Rattle.std.proofs.Common.{◌≡◌, ⊎_elim, ℕ, ◌+◌, ◌-◌, ◌*◌, ◌/◌, ◌%◌, ◌≤◌, List, ◌++◌, length, take, drop, ap, sym, subst, arith}
use Rattle.std.proofs.lemmas.Bool.{cases_lt}
use Rattle.std.proofs.lemmas.List.{length-take-le, length-drop}
use Rattle.nm_leg.specs.Leg.{blocks_in}
use Rattle.nm_geometry.specs.Geometry.{Geometry}
use Rattle.nm_file_leg.specs.Medium.{window}
use Rattle.nm_file_leg.specs.Blocks.{first_byte}
use Rattle.nm_file_leg.specs.Runs.{run_places, bytes_of}
use Rattle.nm_file_leg.specs.Called.{MovesBlock, MovesRun}
use Rattle.nm_file_leg.proofs.PlaceLemmas.{place-follows}
use Rattle.nm_file_leg.proofs.RunLemmas.{Follow, both, of-front, of-back, next-place}
use Rattle.nm_file_leg.proofs.StepLemmas.{front-and-part, front-and-more}

-- blocks that follow one another, which one call moved
moves-stretch : (moved : ℕ → List ℕ → Type 0) (places : ℕ → ℕ) (first : ℕ) (bytes : List ℕ)
    → length bytes ≡ 512 * blocks_in bytes → Follow places first (blocks_in bytes) → moved first bytes → MovesRun moved places bytes
moves-stretch moved places first bytes whole follow call number low =
    let place : places number ≡ first + 512 * number = follow number low in
    let e : places number - first ≡ 512 * number = omega (arith, place) in
    record {
      from = first;
      all = bytes;
      call = call;
      above = omega (arith, place);
      below = omega (arith, place, low, whole);
      is = ap (λ (k : ℕ). window k 512 bytes) e;
    }

-- two runs one after the other
moves-join : (front back : List ℕ) → length front ≡ 512 * blocks_in front → length back ≡ 512 * blocks_in back → (moved : ℕ → List ℕ → Type 0) (s : ℕ) (p : Geometry) (at : ℕ)
    → MovesRun moved (run_places s p at) front → MovesRun moved (run_places s p (at + blocks_in front)) back → MovesRun moved (run_places s p at) (front ++ back)
moves-join front back whole rest moved s p at a b number below =
    ⊎_elim
    (λ low. subst (λ (ys : List ℕ). MovesBlock moved (run_places s p at number) ys) (sym (of-front front back whole rest number low)) (a number low))
    (λ high.
    let i : ℕ = number - blocks_in front in
    let is : blocks_in front + i ≡ number = omega (arith, high) in
    subst (λ (k : ℕ). MovesBlock moved (run_places s p at k) (bytes_of k (front ++ back))) is
    (subst (λ (ys : List ℕ). MovesBlock moved (run_places s p at (blocks_in front + i)) ys) (sym (of-back front back whole rest i))
    (subst (λ (k : ℕ). MovesBlock moved k (bytes_of i back)) (next-place front back whole rest s p at i)
    (b i (omega (arith, below, both front back whole rest, high))))))
    (cases_lt number (blocks_in front))

module _ (moved : ℕ → List ℕ → Type 0) (s : ℕ) (p : Geometry) (at done many : ℕ) (whole : done ≡ 512 * (done / 512)) (blocks : many ≡ 512 * (many / 512))
    (short : (at + done / 512) % p.region + many / 512 ≤ p.region) where
  -- behind the first bytes of a run one call moved more
  moves-more : (front part : List ℕ) → length front ≡ done → length part ≡ many → MovesRun moved (run_places s p at) front → moved (first_byte s p (at + done / 512)) part
      → MovesRun moved (run_places s p at) (front ++ part)
  moves-more front part long size so_far call =
      let from : ℕ = at + done / 512 in
      let follow : Follow (run_places s p from) (first_byte s p from) (blocks_in part) = λ i low. place-follows s p from i (omega (arith, low, size, short)) in
      let one : MovesRun moved (run_places s p from) part = moves-stretch moved (run_places s p from) (first_byte s p from) part (omega (arith, size, blocks)) follow call in
      let before : from ≡ at + blocks_in front = omega (arith, long) in
      moves-join front part (omega (arith, long, whole)) (omega (arith, size, blocks)) moved s p at so_far (subst (λ (k : ℕ). MovesRun moved (run_places s p k) part) before one)

  -- what a read found behind the first bytes
  pub finds-step : (into part rest : List ℕ) → done ≤ length into → length part ≡ many → MovesRun moved (run_places s p at) (take done into) → moved (first_byte s p (at + done / 512)) part
      → MovesRun moved (run_places s p at) (take (done + many) (take done into ++ (part ++ rest)))
  finds-step into part rest most size so_far call =
      let front = take done into in
      let long : length front ≡ done = length-take-le done into most in
      subst (λ (ys : List ℕ). MovesRun moved (run_places s p at) ys) (sym (front-and-part done many front part rest long size))
      (moves-more front part long size so_far call)

  -- what a write wrote behind the first bytes
  pub wrote-step : (bytes : List ℕ) → done + many ≤ length bytes → MovesRun moved (run_places s p at) (take done bytes) → moved (first_byte s p (at + done / 512)) (take many (drop done bytes))
      → MovesRun moved (run_places s p at) (take (done + many) bytes)
  wrote-step bytes inside so_far call =
      let front = take done bytes in
      let part = take many (drop done bytes) in
      let long : length front ≡ done = length-take-le done bytes (omega (arith, inside)) in
      let size : length part ≡ many = length-take-le many (drop done bytes) (omega (arith, inside, length-drop done bytes)) in
      subst (λ (ys : List ℕ). MovesRun moved (run_places s p at) ys) (sym (front-and-more done many bytes inside))
      (moves-more front part long size so_far call)
