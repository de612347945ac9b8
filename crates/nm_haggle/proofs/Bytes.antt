-- Parts of a list of bytes are lists of bytes, and 2 or 4 bytes are a number.
use Rattle.std.proofs.Common.{◌≡◌, ℕ, ◌+◌, ◌<◌, ◌≤◌, ◌^◌, List, length, take, drop, get_or, refl, sym, subst, arith, ⊎_elim}
use Rattle.std.proofs.lemmas.List.{length-take-le, get_or-take, get_or-drop, get_or_past}
use Rattle.std.proofs.lemmas.Nat.{be_bytes_2, be_bytes_4}
use Rattle.std.proofs.lemmas.Bool.{cases_lt}
use Rattle.std.specs.Int.{w16, w32, from_be_bytes}
use Rattle.nm_wire.specs.Number.{be}

pub bytes_of_take : (xs : List ℕ) (n : ℕ) → n ≤ length xs → ((k : ℕ) → get_or xs k 0 < 256) → (k : ℕ) → get_or (take n xs) k 0 < 256
bytes_of_take xs n l f k =
    ⊎_elim (λ below. subst (λ b. b < 256) (sym (get_or-take n xs k 0 below)) (f k))
    (λ above. let past : length (take n xs) ≤ k = omega (arith, above, length-take-le n xs l) in
    subst (λ b. b < 256) (sym (get_or_past (take n xs) k 0 past)) (omega arith))
    (cases_lt k n)

pub bytes_of_drop : (xs : List ℕ) (n : ℕ) → ((k : ℕ) → get_or xs k 0 < 256) → (k : ℕ) → get_or (drop n xs) k 0 < 256
bytes_of_drop xs n f k = subst (λ b. b < 256) (sym (get_or-drop n xs k 0)) (f (n + k))

pub written_4 : (bs : List ℕ) → length bs ≡ 4 → ((k : ℕ) → get_or bs k 0 < 256) → be 4 (from_be_bytes w32 bs) ≡ bs
unfolding be
written_4 bs l f = be_bytes_4 bs (from_be_bytes w32 bs) l f refl

pub written_2 : (bs : List ℕ) → length bs ≡ 2 → ((k : ℕ) → get_or bs k 0 < 256) → be 2 (from_be_bytes w16 bs) ≡ bs
unfolding be
written_2 bs l f = be_bytes_2 bs (from_be_bytes w16 bs) l f refl

pub below_32 : (bs : List ℕ) → ((k : ℕ) → get_or bs k 0 < 256) → from_be_bytes w32 bs < 2 ^ 32
below_32 bs f = omega (arith, f 0, f 1, f 2, f 3)

pub below_16 : (bs : List ℕ) → ((k : ℕ) → get_or bs k 0 < 256) → from_be_bytes w16 bs < 2 ^ 16
below_16 bs f = omega (arith, f 0, f 1)
