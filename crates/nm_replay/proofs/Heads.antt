-- Entries whose heads lie in one list and whose bytes in another: more, and fewer from the front on.
use Rattle.std.proofs.Common.{◌≡◌, ℕ, zero, suc, ◌+◌, ◌-◌, ◌*◌, ◌≤◌, ◌<◌, List, [], ◌∷◌, ◌++◌, length, take, drop, drop-drop, sym, ap, ◌∙◌, refl, arith, get_or, length-append, length-drop, append_assoc, append-nil}
use Rattle.std.proofs.lemmas.List.{drop-append-le, length-take, take-append-le, take_more, nil_from_length}
use Rattle.circular_buffer.specs.Buffer.{keep_last}
use Rattle.nm_replay.specs.declared.entry.Entry.{Entry}
use Rattle.nm_replay.specs.declared.head.Head.{Head}
use Rattle.nm_replay.specs.declared.entry.Kind.{Kind}
use Rattle.nm_replay.specs.declared.entry.Kind.TheVariants.{Read, Write, Patch}
use Rattle.nm_replay.specs.Heads.{entry_of, heads_from, joined, next_head}
use Rattle.nm_replay.specs.Kept.{KeptEntries, last_kept, next_kind, run_from, ticket_in}

-- so many of these entries at most are kept
abbrev pub kept_of : ℕ → List Entry → KeptEntries
kept_of most entries = record { entries = entries; most = most }

pub length-joined : (hs : List Head) (bs : List ℕ) → length (joined hs bs) ≡ length hs
length-joined [] bs = refl
length-joined (h ∷ hs) bs = ap (λ n. suc n) (length-joined hs (drop 512 bs))

pub joined-drop : (n : ℕ) (hs : List Head) (bs : List ℕ) → drop n (joined hs bs) ≡ joined (drop n hs) (drop (512 * n) bs)
joined-drop zero hs bs = refl
joined-drop (suc n) [] bs = refl
joined-drop (suc n) (h ∷ hs) bs =
    let next : 512 + 512 * n ≡ 512 * suc n = omega arith in
    joined-drop n hs (drop 512 bs) ∙ ap (λ rest. joined (drop n hs) rest) (drop-drop (512 * n) 512 bs ∙ ap (λ k. drop k bs) next)

pub joined-push : (hs : List Head) (h : Head) (bs : List ℕ) → joined (hs ++ h ∷ []) bs ≡ joined hs bs ++ entry_of h (take 512 (drop (512 * length hs) bs)) ∷ []
joined-push [] h bs = refl
joined-push (g ∷ hs) h bs =
    let next : 512 + 512 * length hs ≡ 512 * suc (length hs) = omega arith in
    ap (λ es. entry_of g (take 512 bs) ∷ es)
    (joined-push hs h (drop 512 bs)
    ∙ ap (λ b. joined hs (drop 512 bs) ++ entry_of h (take 512 b) ∷ []) (drop-drop (512 * length hs) 512 bs ∙ ap (λ k. drop k bs) next))

-- more entries, where the bytes are those of the heads
pub joined-append : (hs more : List Head) (bs b : List ℕ) → length bs ≡ 512 * length hs → joined (hs ++ more) (bs ++ b) ≡ joined hs bs ++ joined more b
joined-append [] more bs b size = ap (λ xs. joined more (xs ++ b)) (nil_from_length bs (omega (arith, size)))
joined-append (h ∷ hs) more bs b size =
    let one : 512 ≤ length bs = omega (arith, size) in
    let rest : length (drop 512 bs) ≡ 512 * length hs = omega (arith, size, length-drop 512 bs) in
    ap (λ x. entry_of h x ∷ joined (hs ++ more) (drop 512 (bs ++ b))) (take-append-le 512 bs b one)
    ∙ ap (λ es. entry_of h (take 512 bs) ∷ es) (ap (λ x. joined (hs ++ more) x) (drop-append-le 512 bs b one) ∙ joined-append hs more (drop 512 bs) b rest)

-- what is left where both lists give up what is past their ends
pub joined-kept : (most : ℕ) (hs more : List Head) (bs b : List ℕ) → length bs ≡ 512 * length hs → length b ≡ 512 * length more
    → joined (drop (length (hs ++ more) - most) (hs ++ more)) (drop (length (bs ++ b) - 512 * most) (bs ++ b))
    ≡ last_kept most (joined hs bs ++ joined more b)
joined-kept most hs more bs b size new =
    let n : ℕ = length (hs ++ more) - most in
    let over : length (bs ++ b) - 512 * most ≡ 512 * n = omega (arith, size, new, length-append bs b, length-append hs more) in
    ap (λ k. joined (drop n (hs ++ more)) (drop k (bs ++ b))) over
    ∙ sym (joined-drop n (hs ++ more) (bs ++ b))
    ∙ ap (λ k. drop (k - most) (joined (hs ++ more) (bs ++ b))) (sym (length-joined (hs ++ more) (bs ++ b)))
    ∙ ap (λ es. last_kept most es) (joined-append hs more bs b size)

-- the entries of a run have the heads of its blocks
pub joined-run : (n number : ℕ) (kind : Kind) (block : ℕ) (bs : List ℕ)
    → joined (heads_from n (record { seq = number; kind = kind; block = block })) bs ≡ run_from n number kind block bs
joined-run zero number kind block bs = refl
joined-run (suc n) number kind block bs =
    ap (λ es. entry_of (record { seq = number; kind = kind; block = block }) (take 512 bs) ∷ es) (joined-run n (number + 1) (next_kind kind) (block + 1) (drop 512 bs))

pub length-heads_from : (n : ℕ) (h : Head) → length (heads_from n h) ≡ n
length-heads_from zero h = refl
length-heads_from (suc n) h = ap (λ k. suc k) (length-heads_from n (next_head h))

-- what is kept of some heads, and then of that and others, is what is kept of all
keep_last-append : (n : ℕ) (xs ys : List Head) → keep_last n (keep_last n xs ++ ys) ≡ keep_last n (xs ++ ys)
keep_last-append n xs ys =
    let m : ℕ = length xs - n in
    let inside : m ≤ length xs = omega arith in
    let seam : keep_last n xs ++ ys ≡ drop m (xs ++ ys) = sym (drop-append-le m xs ys inside) in
    let all : m + (length (drop m (xs ++ ys)) - n) ≡ length (xs ++ ys) - n = omega (arith, length-drop m (xs ++ ys), length-append xs ys) in
    ap (λ zs. keep_last n zs) seam ∙ drop-drop (length (drop m (xs ++ ys)) - n) m (xs ++ ys) ∙ ap (λ k. drop k (xs ++ ys)) all

-- one head more of those that are left to add
pub heads-step : (most n at : ℕ) (h : Head) (hs new : List Head) → at < n → new ≡ keep_last most (hs ++ h ∷ [])
    → keep_last most (new ++ heads_from (n - (at + 1)) (next_head h)) ≡ keep_last most (hs ++ heads_from (n - at) h)
heads-step most n at h hs new below is =
    let rest : List Head = heads_from (n - (at + 1)) (next_head h) in
    let e : suc (n - (at + 1)) ≡ n - at = omega (arith, below) in
    ap (λ xs. keep_last most (xs ++ rest)) is
    ∙ keep_last-append most (hs ++ h ∷ []) rest
    ∙ ap (λ xs. keep_last most xs) (append_assoc hs (h ∷ []) rest)
    ∙ ap (λ k. keep_last most (hs ++ heads_from k h)) e

-- few heads are kept as they are
pub keep_last-few : (n : ℕ) (xs : List Head) → length xs ≤ n → keep_last n (xs ++ []) ≡ xs
keep_last-few n xs few =
    let none : length xs - n ≡ 0 = omega (arith, few) in
    ap (λ ys. keep_last n ys) (append-nil xs) ∙ ap (λ k. drop k xs) none

pub ticket-next : (k : Kind) → ticket_in (next_kind k) ≤ ticket_in k + 1
ticket-next Read = omega arith
ticket-next (Write ticket) = omega arith
ticket-next (Patch ticket from len) = omega arith

pub no_heads : (hs : List Head) (bs : List ℕ) → joined hs bs ≡ [] → length hs ≡ 0
no_heads hs bs none = sym (length-joined hs bs) ∙ ap (λ es. length es) none

-- one more entry of those that are there
pub joined-step : (hs : List Head) (bs : List ℕ) (n : ℕ) (d : Head) (e : Entry) → n < length hs
    → e ≡ entry_of (get_or hs n d) (take (n * 512 + 512 - n * 512) (drop (n * 512) bs))
    → joined (take (n + 1) hs) bs ≡ joined (take n hs) bs ++ e ∷ []
joined-step hs bs n d e inside is =
    let h = get_or hs n d in
    let size : length (take n hs) ≡ n = omega (arith, inside, length-take n hs) in
    let first : 512 * length (take n hs) ≡ n * 512 = omega (arith, size) in
    let one : 512 ≡ n * 512 + 512 - n * 512 = omega arith in
    ap (λ t. joined t bs) (take_more hs n d inside) ∙ joined-push (take n hs) h bs
    ∙ ap (λ k. joined (take n hs) bs ++ entry_of h (take 512 (drop k bs)) ∷ []) first
    ∙ ap (λ k. joined (take n hs) bs ++ entry_of h (take k (drop (n * 512) bs)) ∷ []) one
    ∙ ap (λ x. joined (take n hs) bs ++ x ∷ []) (sym is)
