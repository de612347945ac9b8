-- No option begins another, none stands in a rest that is unfinished, and none is refused.
use Rattle.std.proofs.Common.{◌≡◌, ◌≢◌, ℕ, ◌∷◌, ◌+◌, ◌<◌, ◌≤◌, ◌⊎◌, inl, inr, List, [], ◌++◌, length, take, refl, sym, ap, ◌∙◌, subst, arith, length-append}
use Rattle.std.proofs.lemmas.List.{append_assoc, append-nil}
use Rattle.nm_wire.specs.Sizes.{max_option_data}
use Rattle.nm_wire.specs.Number.{be, option_magic}
use Rattle.nm_wire.specs.Layout.{FitsOptionHead, option_head_bytes}
use Rattle.nm_wire.specs.declared.option_head.OptionHead.{OptionHead}
use Rattle.nm_haggle.specs.ClientOption.{ClientOption, option_bytes, head_of, IsAccepted, IsUnfinished, IsRefused, IsTooLong}
use Rattle.nm_wire.proofs.Heads.{option_head_bytes-unique, length-option_head_bytes, option_head_bytes-magic}

-- two prefixes of one length, and what follows them
pub same_prefixes : {A : Type 0} (a b x y : List A) → length a ≡ length b → a ++ x ≡ b ++ y → (a ≡ b) × (x ≡ y)
same_prefixes [] [] x y l e = (refl, e)
same_prefixes [] (b ∷ bs) x y l e = absurd (omega (arith, l))
same_prefixes (a ∷ cs) [] x y l e = absurd (omega (arith, l))
same_prefixes (a ∷ cs) (b ∷ bs) x y l e =
    let firsts : a ≡ b = cc in
    let tails : cs ++ x ≡ bs ++ y = cc in
    let lengths : length cs ≡ length bs = omega (arith, l) in
    let rest = same_prefixes cs bs x y lengths tails in
    let t : cs ≡ bs = rest.0 in
    (cc, rest.1)

pub fits_head : (o : ClientOption) → IsAccepted o → FitsOptionHead (head_of o)
fits_head o t = record { option = t.number; length = omega (arith, t.payload) }

pub length-option : (o : ClientOption) → length (option_bytes o) ≡ 16 + length o.payload
length-option o = length-append (option_head_bytes (head_of o)) o.payload ∙ ap (λ n. n + length o.payload) (length-option_head_bytes (head_of o))

-- an option is its number and its data
same_option : (o p : ClientOption) → o.number ≡ p.number → o.payload ≡ p.payload → o ≡ p
same_option o p e f =
    let with_number : ℕ → ClientOption = λ n. record { number = n; payload = o.payload } in
    let with_payload : List ℕ → ClientOption = λ xs. record { number = p.number; payload = xs } in
    ap with_number e ∙ ap with_payload f

pub options_one : (o p : ClientOption) (x y : List ℕ) → IsAccepted o → IsAccepted p
    → option_bytes o ++ x ≡ option_bytes p ++ y → (o ≡ p) × (x ≡ y)
options_one o p x y t u e =
    let both = option_head_bytes-unique (head_of o) (head_of p) (o.payload ++ x) (p.payload ++ y) (fits_head o t) (fits_head p u)
    (sym (append_assoc (option_head_bytes (head_of o)) o.payload x) ∙ e ∙ append_assoc (option_head_bytes (head_of p)) p.payload y) in
    let number : o.number ≡ p.number = ap (λ (h : OptionHead). h.option) both.0 in
    let lengths : length o.payload ≡ length p.payload = ap (λ (h : OptionHead). h.length) both.0 in
    let data_too = same_prefixes o.payload p.payload x y lengths both.1 in
    (same_option o p number data_too.0, data_too.1)

-- what goes on to an option with an unfinished rest is shorter than the option
pub unfinished_is_short : (o : ClientOption) (rest more x : List ℕ) → IsAccepted o → IsUnfinished rest
    → rest ++ more ≡ option_bytes o ++ x → length rest < length (option_bytes o)
unfinished_is_short o rest more x t (inl short) e = omega (arith, length-option o, short)
unfinished_is_short o rest more x t (inr p) e =
    let both = option_head_bytes-unique p.head (head_of o) (p.begun ++ more) (o.payload ++ x) p.fits (fits_head o t)
    (sym (append_assoc (option_head_bytes p.head) p.begun more) ∙ ap (λ xs. xs ++ more) (sym p.bytes) ∙ e
    ∙ append_assoc (option_head_bytes (head_of o)) o.payload x) in
    let same : p.head.length ≡ length o.payload = ap (λ (h : OptionHead). h.length) both.0 in
    let whole : length rest ≡ 16 + length p.begun =
    ap length p.bytes ∙ length-append (option_head_bytes p.head) p.begun ∙ ap (λ n. n + length p.begun) (length-option_head_bytes p.head) in
    omega (arith, length-option o, whole, same, p.short)

head_magic : (h : OptionHead) → take 8 (option_head_bytes h) ≡ be 8 option_magic
head_magic h = ap (λ xs. take 8 xs) (sym (append-nil (option_head_bytes h))) ∙ option_head_bytes-magic h []

accepted_cause : (h : OptionHead) → FitsOptionHead h → h.length ≤ max_option_data
    → (take 8 (option_head_bytes h) ≢ be 8 option_magic) ⊎ IsTooLong (option_head_bytes h) → ⊥
accepted_cause h f l (inl other) = other (head_magic h)
accepted_cause h f l (inr long) =
    let both = option_head_bytes-unique h long.head [] [] f long.fits (ap (λ xs. xs ++ []) long.whole) in
    let same : h.length ≡ long.head.length = ap (λ (k : OptionHead). k.length) both.0 in
    omega (arith, l, same, long.long)

-- a header that is accepted is not refused
accepted_head : (h : OptionHead) → FitsOptionHead h → h.length ≤ max_option_data → IsRefused (option_head_bytes h) → ⊥
accepted_head h f l r = accepted_cause h f l r.cause

pub accepted_not_refused : (o : ClientOption) (head x y : List ℕ) → IsAccepted o → IsRefused head
    → option_bytes o ++ x ≡ head ++ y → ⊥
accepted_not_refused o head x y t r e =
    let prefixes = same_prefixes (option_head_bytes (head_of o)) head (o.payload ++ x) y (length-option_head_bytes (head_of o) ∙ sym r.whole)
    (sym (append_assoc (option_head_bytes (head_of o)) o.payload x) ∙ e) in
    accepted_head (head_of o) (fits_head o t) t.payload (subst (λ bs. IsRefused bs) (sym prefixes.0) r)

-- an unfinished rest that goes on to a refused header is shorter than a header
pub unfinished_not_refused : (rest more head y : List ℕ) → IsUnfinished rest → IsRefused head
    → rest ++ more ≡ head ++ y → length rest < 16
unfinished_not_refused rest more head y (inl short) r e = short
unfinished_not_refused rest more head y (inr p) r e =
    let prefixes = same_prefixes (option_head_bytes p.head) head (p.begun ++ more) y (length-option_head_bytes p.head ∙ sym r.whole)
    (sym (append_assoc (option_head_bytes p.head) p.begun more) ∙ ap (λ xs. xs ++ more) (sym p.bytes) ∙ e) in
    absurd (accepted_head p.head p.fits p.accepted (subst (λ bs. IsRefused bs) (sym prefixes.0) r))
