-- A stripe that opens: some leg of those named is its master, and its array is what that one holds.
use Rattle.std.proofs.Common.{◌≡◌, ℕ, zero, suc, ◌+◌, ◌<◌, true, false, not, cond, List, [], ◌∷◌, length, map, Some, None, nat_lt, IsTrue, refl, ap, ◌∙◌, arith}
use Rattle.std.specs.List.{position_or_len}
use Rattle.std.proofs.lemmas.Bool.Decides.{nat_tests}
use Rattle.nm_replay.specs.declared.block.Block.{Block}
use Rattle.nm_choice.specs.declared.policy.Policy.{Policy}
use Rattle.nm_choice.specs.Choice.{elected, is_in_sync}
use Rattle.nm_leg.specs.Leg.{LegType}
use Rattle.nm_leg.specs.LegCalls.{EachHas}
use Rattle.nm_regions.specs.Sound.{AreSizes}
use Rattle.nm_resync.specs.Chunk.{IsChunkSize}
use Rattle.nm_rules.specs.declared.at.At.{At}
use Rattle.nm_rules.specs.Array.{laid_from}
use Rattle.nm_rules.specs.Invariant.{Keeps}
use Rattle.nm_rules.specs.Opening.{opened, opened_state, bits_from, has_bit, HoldEqual}
use Rattle.nm_rules.proofs.OpeningLemmas.{opened-keeps}
use Rattle.nm_stripe.specs.Opening.{NamesALeg}

-- with no record the blocks are laid as they are
pub laid-none : (i : ℕ) (xs : List Block) → laid_from i [] xs ≡ xs
laid-none i [] = refl
laid-none i (x ∷ xs) = ap (λ ys. x ∷ ys) (laid-none (i + 1) xs)

-- among the bits of so many legs the first that is set
named-first : (bits n i k : ℕ) → k < n → has_bit bits (i + k) ≡ true → position_or_len is_in_sync (map opened_state (bits_from bits n i)) < n
named-first bits zero i k inside named = absurd (omega (arith, inside))
named-first bits (suc n) i zero inside named =
    let here : has_bit bits i ≡ true = ap (λ (j : ℕ). has_bit bits j) (let e : i ≡ i + 0 = omega arith in e) ∙ named in
    let rest : ℕ = position_or_len is_in_sync (map opened_state (bits_from bits n (i + 1))) in
    let first : cond (not (is_in_sync (opened_state (has_bit bits i)))) (1 + rest) 0 ≡ 0 = ap (λ b. cond (not (is_in_sync (opened_state b))) (1 + rest) 0) here in
    omega (arith, first)
named-first bits (suc n) i (suc k) inside named =
    let rest = named-first bits n (i + 1) k (omega (arith, inside)) (ap (λ (j : ℕ). has_bit bits j) (let e : i + 1 + k ≡ i + suc k = omega arith in e) ∙ named) in
    elim (is_in_sync (opened_state (has_bit bits i))) as (λ b. cond (not b) (1 + position_or_len is_in_sync (map opened_state (bits_from bits n (i + 1)))) 0 < suc n) [
      | true ↦ omega arith
      | false ↦ omega (arith, rest)
    ]

long-states : (bits n i : ℕ) → length (map opened_state (bits_from bits n i)) ≡ n
long-states bits zero i = refl
long-states bits (suc n) i = ap (λ (k : ℕ). suc k) (long-states bits n (i + 1))

-- where a leg is named, one is elected
named-elected : (bits legs : ℕ) → NamesALeg bits legs → (m : ℕ) × (elected (map opened_state (bits_from bits legs 0)) ≡ Some m)
named-elected bits legs named =
    let first : ℕ = position_or_len is_in_sync (map opened_state (bits_from bits legs 0)) in
    let low = named-first bits legs 0 named.leg named.inside (ap (λ (j : ℕ). has_bit bits j) (let e : 0 + named.leg ≡ named.leg = omega arith in e) ∙ named.named) in
    let found : nat_lt first (length (map opened_state (bits_from bits legs 0))) ≡ true = grind (arith, nat_tests, low, long-states bits legs 0) in
    (first, ap (λ b. cond b (Some first) None) found)

-- so a stripe that opens keeps what every stripe keeps
pub opening-keeps : {L : Type 0} (type : LegType L) (place : At) (legs : List L) (bits first : ℕ) (policy : Policy) → AreSizes place.blocks place.region (length legs) → IsChunkSize place.chunk → EachHas type.model legs place.blocks
    → NamesALeg bits (length legs) → (IsTrue type.honest → HoldEqual type.model legs bits) → Keeps type (opened place legs bits first policy)
opening-keeps type place legs bits first policy sizes chunk lengths named equal =
    let master = named-elected bits (length legs) named in
    opened-keeps type place legs bits first policy master.0 (record { sizes = sizes; some_chunk = chunk.some; lengths = lengths; equal = equal; some = master.1 })
