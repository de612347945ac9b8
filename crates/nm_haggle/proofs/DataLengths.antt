-- The lengths in the data of INFO and GO add up exactly where the data are put together from a name
-- and information types.
use Rattle.std.proofs.Common.{◌≡◌, ℕ, ◌+◌, ◌-◌, ◌*◌, ◌<◌, ◌≤◌, ◌^◌, true, eqb, List, [], ◌∷◌, ◌++◌, length, take, drop, refl, sym, ap, ◌∙◌, subst, arith, length-append, ⊎_elim}
use Rattle.std.proofs.lemmas.List.{append_assoc, take-append-drop, take_at, drop_at, length-take-le, length-drop, drop-drop}
use Rattle.std.proofs.lemmas.Nat.{from_be_bytes-to_be_bytes_2, from_be_bytes-to_be_bytes_4}
use Rattle.std.proofs.lemmas.Bool.Decides.{eqb_tells}
use Rattle.std.specs.Int.{w16, w32, from_be_bytes}
use Rattle.nm_wire.specs.Number.{be}
use Rattle.nm_haggle.specs.Answer.{information_bytes, asked_name, name_length, type_count}
use Rattle.nm_haggle.specs.Laws.{InformationAddsUp, OnlyInformationAddsUp}
use Rattle.nm_wire.proofs.Numbers.{length-be}
use Rattle.nm_haggle.proofs.Bytes.{bytes_of_take, bytes_of_drop, written_2, written_4, below_16, below_32}

true_of : (m n : ℕ) → m ≡ n → eqb m n ≡ true
true_of m n e = ⊎_elim (λ t. t.0) (λ f. absurd (f.1 e)) (eqb_tells m n)

same_of : (m n : ℕ) → eqb m n ≡ true → m ≡ n
same_of m n e = ⊎_elim (λ t. t.1) (λ f. let no : true ≡ Rattle.std.proofs.Common.false = sym e ∙ f.0 in absurd (cc)) (eqb_tells m n)

read_4 : (n : ℕ) → n < 2 ^ 32 → from_be_bytes w32 (be 4 n) ≡ n
unfolding be
read_4 n l = from_be_bytes-to_be_bytes_4 n l

read_2 : (n : ℕ) → n < 2 ^ 16 → from_be_bytes w16 (be 2 n) ≡ n
unfolding be
read_2 n l = from_be_bytes-to_be_bytes_2 n l

name_length_is : (name types : List ℕ) (count : ℕ) → length name < 2 ^ 32 → name_length (information_bytes name count types) ≡ length name
name_length_is name types count l =
    ap (λ xs. from_be_bytes w32 (take 4 xs)) (append_assoc (be 4 (length name) ++ name) (be 2 count) types
    ∙ append_assoc (be 4 (length name)) name (be 2 count ++ types))
    ∙ ap (λ xs. from_be_bytes w32 xs) (take_at (be 4 (length name)) (name ++ (be 2 count ++ types)) 4 (length-be 4 (length name)))
    ∙ read_4 (length name) l

type_count_is : (name types : List ℕ) (count : ℕ) → length name < 2 ^ 32 → count < 2 ^ 16
    → type_count (information_bytes name count types) ≡ count
type_count_is name types count l k =
    let prefix_is : length (be 4 (length name) ++ name) ≡ 4 + length name =
    length-append (be 4 (length name)) name ∙ ap (λ n. n + length name) (length-be 4 (length name)) in
    ap (λ n. from_be_bytes w16 (take 2 (drop (4 + n) (information_bytes name count types)))) (name_length_is name types count l)
    ∙ ap (λ xs. from_be_bytes w16 (take 2 (drop (4 + length name) xs))) (append_assoc (be 4 (length name) ++ name) (be 2 count) types)
    ∙ ap (λ xs. from_be_bytes w16 (take 2 xs)) (drop_at (be 4 (length name) ++ name) (be 2 count ++ types) (4 + length name) prefix_is)
    ∙ ap (λ xs. from_be_bytes w16 xs) (take_at (be 2 count) types 2 (length-be 2 count))
    ∙ read_2 count k

length_is : (name types : List ℕ) (count : ℕ) → length types ≡ 2 * count
    → 6 + length name + 2 * count ≡ length (information_bytes name count types)
length_is name types count e =
    omega (
      arith,
      e,
      length-be 4 (length name),
      length-be 2 count,
      length-append ((be 4 (length name) ++ name) ++ be 2 count) types,
      length-append (be 4 (length name) ++ name) (be 2 count),
      length-append (be 4 (length name)) name,
    )

pub information_adds_up : InformationAddsUp
information_adds_up name types count h =
    let n = name_length_is name types count h.name_fits in
    let k = type_count_is name types count h.name_fits h.count_fits in (
      true_of _ _ (ap (λ m. 6 + m + 2 * type_count (information_bytes name count types)) n
          ∙ ap (λ m. 6 + length name + 2 * m) k ∙ length_is name types count h.counted),
      ap (λ m. take m (drop 4 (information_bytes name count types))) n
          ∙ ap (λ xs. take (length name) (drop 4 xs)) (append_assoc (be 4 (length name) ++ name) (be 2 count) types
          ∙ append_assoc (be 4 (length name)) name (be 2 count ++ types))
          ∙ ap (λ xs. take (length name) xs) (drop_at (be 4 (length name)) (name ++ (be 2 count ++ types)) 4 (length-be 4 (length name)))
          ∙ take_at name (be 2 count ++ types) (length name) refl,
    )

-- ---- and only there

pub only_information_adds_up : OnlyInformationAddsUp
only_information_adds_up payload f e =
    let n = name_length payload in
    let rest = drop (4 + n) payload in
    let count = type_count payload in
    let types = drop 2 rest in
    let counted : 6 + n + 2 * count ≡ length payload = same_of _ _ e in
    let four : 4 ≤ length payload = omega (arith, counted) in
    let two : 2 ≤ length rest = omega (arith, counted, length-drop (4 + n) payload) in
    let named : length (asked_name payload) ≡ n =
    length-take-le n (drop 4 payload) (omega (arith, counted, length-drop 4 payload)) in
    let first : be 4 n ≡ take 4 payload =
    written_4 (take 4 payload) (length-take-le 4 payload four) (bytes_of_take payload 4 four f) in
    let second : be 2 count ≡ take 2 rest =
    written_2 (take 2 rest) (length-take-le 2 rest two) (bytes_of_take rest 2 two (bytes_of_drop payload (4 + n) f)) in
    let parts : payload ≡ be 4 n ++ (asked_name payload ++ (be 2 count ++ types)) =
    sym (take-append-drop 4 payload)
    ∙ ap (λ xs. xs ++ drop 4 payload) (sym first)
    ∙ ap (λ xs. be 4 n ++ xs) (sym (take-append-drop n (drop 4 payload))
    ∙ ap (λ xs. asked_name payload ++ xs) (drop-drop n 4 payload
    ∙ sym (take-append-drop 2 rest) ∙ ap (λ xs. xs ++ types) (sym second))) in (
      types,
      count,
      record {
        name_fits = subst (λ m. m < 2 ^ 32) (sym named) (below_32 (take 4 payload) (bytes_of_take payload 4 four f));
        count_fits = below_16 (take 2 rest) (bytes_of_take rest 2 two (bytes_of_drop payload (4 + n) f));
        counted = omega (arith, counted, length-drop (4 + n) payload, length-drop 2 rest);
      },
      parts
          ∙ ap (λ m. be 4 m ++ (asked_name payload ++ (be 2 count ++ types))) (sym named)
          ∙ sym (append_assoc (be 4 (length (asked_name payload))) (asked_name payload) (be 2 count ++ types))
          ∙ sym (append_assoc (be 4 (length (asked_name payload)) ++ asked_name payload) (be 2 count) types),
    )
