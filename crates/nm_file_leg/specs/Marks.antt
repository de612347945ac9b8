-- The marks that a leg on a medium remembers: one a block, and what has none is durable.
use Rattle.std.specs.Prelude.{◌≡◌, ℕ, zero, suc, ◌+◌, ◌/◌, ◌<◌, false, Some, List, length, IsFalse}
use Rattle.std.specs.Prelude.{slice_get, refl}
use Rattle.std.proofs.Common.{ap, sym, subst, ◌∙◌, arith}
use Rattle.std.proofs.lemmas.Option.{same_Some}
use Rattle.nm_leg.specs.Leg.{IsDurableElsewhere}
use Rattle.nm_geometry.specs.Geometry.{Geometry, stripe_blocks}
use Rattle.nm_file_leg.specs.Medium.{Held}
use Rattle.nm_file_leg.specs.Blocks.{blocks_from, length-blocks_from, same-get}
use Rattle.nm_file_leg.specs.FileLeg.{IsDurableAt, file_leg, written_from}
use Rattle.nm_file_leg.specs.Remembered.{Remembered, is_written}

length-written_from : (memory : Remembered) (n block : ℕ)
    → length (written_from memory n block) ≡ n
length-written_from memory zero block = refl
length-written_from memory (suc n) block =
    ap (λ (k : ℕ). suc k) (length-written_from memory n (block + 1))

-- there are as many marks as blocks
pub marked_each : (stripe : ℕ) (shape : Geometry) (memory : Remembered) (n : ℕ) (bytes : List ℕ)
    → length (written_from memory n 0) ≡ length (blocks_from stripe shape 0 n bytes)
marked_each stripe shape memory n bytes =
    length-written_from memory n 0 ∙ sym (length-blocks_from stripe shape 0 n bytes)

-- the mark of a block
mark-at : (memory : Remembered) (n block k : ℕ) → k < n
    → slice_get (written_from memory n block) k
    ≡ Some (is_written ((block + k) / memory.region) memory)
mark-at memory zero block k low = absurd (omega (arith, low))
mark-at memory (suc n) block zero low =
    let e : block ≡ block + 0 = omega arith in
    ap (λ (b : ℕ). Some (is_written (b / memory.region) memory)) e
mark-at memory (suc n) block (suc k) low =
    let e : block + 1 + k ≡ block + suc k = omega arith in
    mark-at memory n (block + 1) k (omega (arith, low))
    ∙ ap (λ (b : ℕ). Some (is_written (b / memory.region) memory)) e

-- a block without a mark is durable
pub durable_elsewhere : (held : Held) (stripe : ℕ) (shape : Geometry) (memory : Remembered)
    → memory.region ≡ shape.region
    → ((block : ℕ) → block < stripe_blocks stripe shape
    → IsFalse (is_written (block / shape.region) memory) → IsDurableAt held stripe shape block)
    → (faults : ℕ) → IsDurableElsewhere (file_leg held stripe shape faults memory)
durable_elsewhere held stripe shape memory region durable faults = λ k unmarked.
    same-get stripe shape 0 (stripe_blocks stripe shape) k held.durable held.contents
    (λ low.
    let mark = mark-at memory (stripe_blocks stripe shape) 0 k low in
    let none : is_written ((0 + k) / memory.region) memory ≡ false =
    same_Some _ _ (sym mark ∙ unmarked) in
    let here : 0 + k ≡ k = omega arith in
    let at : is_written (k / shape.region) memory ≡ false =
    ap (λ (n : ℕ). is_written (k / n) memory) (sym region)
    ∙ ap (λ (b : ℕ). is_written (b / memory.region) memory) (sym here) ∙ none in
    subst (λ (b : ℕ). IsDurableAt held stripe shape b) (sym here) (durable k low at))
