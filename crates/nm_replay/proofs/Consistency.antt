-- Consistent entries: one more at the end, and pieces of them.
use Rattle.std.proofs.Common.{◌≡◌, ℕ, ◌+◌, ◌-◌, ◌<◌, List, [], ◌∷◌, ◌++◌, length, take, drop, get_or, refl, sym, subst, arith, slice_get, append-nil}
use Rattle.std.specs.Prelude.{Option, Some, IfSome}
use Rattle.std.specs.Bool.{⊤}
use Rattle.std.proofs.lemmas.List.{take_more, take-append-drop}
use Rattle.std.proofs.lemmas.Option.{MatchOption-at_some, slice_get-get_or}
use Rattle.nm_replay.specs.declared.entry.Entry.{Entry}
use Rattle.nm_replay.specs.Following.{MayFollow}
use Rattle.nm_replay.specs.History.{NumberedFrom, IsNumbered, Consistent}
use Rattle.nm_replay.proofs.Agreement.{AgreeAfter, agree-append, agree-front, agree-rest, agree-fewer, consistent-agree, agree-consistent}
use Rattle.nm_replay.proofs.Numbering.{numbered-append, numbered-front, numbered-rest, numbered-somewhere, numbered-at}

-- the last of numbered entries has the number that its place gives it
pub last-number : (x : Entry) (xs : List Entry) → NumberedFrom (x.seq + 1) xs → (y : Entry) × (slice_get (x ∷ xs) (length (x ∷ xs) - 1) ≡ Some y) × (y.seq ≡ x.seq + length xs)
last-number x xs numbers =
    let i : ℕ = length (x ∷ xs) - 1 in
    let inside : i < length (x ∷ xs) = omega arith in
    let y : Entry = get_or (x ∷ xs) i x in
    let found : slice_get (x ∷ xs) i ≡ Some y = slice_get-get_or (x ∷ xs) i x inside in
    let number : y.seq ≡ x.seq + i = numbered-at x.seq (x ∷ xs) i y (refl, numbers) found in
    (y, found, omega (arith, number))

pub is_numbered-push : (es : List Entry) (e : Entry) → IsNumbered es → IfSome (slice_get es (length es - 1)) (λ last. e.seq ≡ last.seq + 1) → IsNumbered (es ++ e ∷ [])
is_numbered-push [] e numbers next = tt
is_numbered-push (x ∷ xs) e numbers next =
    let last = last-number x xs numbers in
    let number : e.seq ≡ (last.0).seq + 1 = MatchOption-at_some ⊤ (λ y. e.seq ≡ y.seq + 1) last.0 last.1 next in
    let placed : e.seq ≡ x.seq + 1 + length xs = omega (arith, number, last.2) in
    numbered-append (x.seq + 1) xs (e ∷ []) numbers (placed, tt)

pub is_numbered-pushed : (es : List Entry) (e : Entry) → IsNumbered (es ++ e ∷ []) → IfSome (slice_get es (length es - 1)) (λ last. e.seq ≡ last.seq + 1)
is_numbered-pushed [] e numbers = tt
is_numbered-pushed (x ∷ xs) e numbers =
    let last = last-number x xs (numbered-front (x.seq + 1) xs (e ∷ []) numbers) in
    let placed : e.seq ≡ x.seq + 1 + length xs = (numbered-rest (x.seq + 1) xs (e ∷ []) numbers).0 in
    let number : e.seq ≡ (last.0).seq + 1 = omega (arith, placed, last.2) in
    let P : Option Entry → Type 0 = λ o. IfSome o (λ y. e.seq ≡ y.seq + 1) in
    subst P (sym last.1) number

pub is_numbered-front : (xs ys : List Entry) → IsNumbered (xs ++ ys) → IsNumbered xs
is_numbered-front [] ys numbers = tt
is_numbered-front (x ∷ xs) ys numbers = numbered-front (x.seq + 1) xs ys numbers

pub is_numbered-rest : (xs ys : List Entry) → IsNumbered (xs ++ ys) → IsNumbered ys
is_numbered-rest [] ys numbers = numbers
is_numbered-rest (x ∷ xs) ys numbers = numbered-somewhere (x.seq + 1 + length xs) ys (numbered-rest (x.seq + 1) xs ys numbers)

-- no entries at all are consistent
pub consistent-empty : Consistent []
consistent-empty = agree-consistent [] tt tt

-- consistent entries, and one that may follow them
pub consistent-push : (es : List Entry) (e : Entry) → Consistent es → MayFollow es e → Consistent (es ++ e ∷ [])
consistent-push es e consistent follows =
    agree-consistent (es ++ e ∷ []) (is_numbered-push es e consistent.numbers follows.number)
    (agree-append es (e ∷ []) [] (consistent-agree es consistent) (follows.agrees, tt))

pub consistent-pushed : (es : List Entry) (e : Entry) → Consistent (es ++ e ∷ []) → MayFollow es e
consistent-pushed es e consistent = record {
  number = is_numbered-pushed es e consistent.numbers;
  agrees = (agree-rest es (e ∷ []) [] (consistent-agree (es ++ e ∷ []) consistent)).0;
}

-- the earlier piece of consistent entries is consistent
pub consistent-front : (xs ys : List Entry) → Consistent (xs ++ ys) → Consistent xs
consistent-front xs ys consistent =
    agree-consistent xs (is_numbered-front xs ys consistent.numbers)
    (agree-front xs ys [] (consistent-agree (xs ++ ys) consistent))

-- and so is the end piece
pub consistent-rest : (xs ys : List Entry) → Consistent (xs ++ ys) → Consistent ys
consistent-rest xs ys consistent =
    agree-consistent ys (is_numbered-rest xs ys consistent.numbers)
    (agree-fewer ys xs [] (subst (λ b. AgreeAfter b ys) (sym (append-nil xs)) (agree-rest xs ys [] (consistent-agree (xs ++ ys) consistent))))

-- one entry further along consistent entries
pub consistent-more : (es : List Entry) (i : ℕ) (d : Entry) → i < length es → Consistent (take i es) → MayFollow (take i es) (get_or es i d) → Consistent (take (i + 1) es)
consistent-more es i d inside consistent follows =
    subst (λ xs. Consistent xs) (sym (take_more es i d inside)) (consistent-push (take i es) (get_or es i d) consistent follows)

-- each of consistent entries may follow those before it
pub consistent-at : (es : List Entry) (i : ℕ) (d : Entry) → i < length es → Consistent es → MayFollow (take i es) (get_or es i d)
consistent-at es i d inside consistent =
    let cut : Consistent (take (i + 1) es ++ drop (i + 1) es) = subst (λ xs. Consistent xs) (sym (take-append-drop (i + 1) es)) consistent in
    let earlier : Consistent (take (i + 1) es) = consistent-front (take (i + 1) es) (drop (i + 1) es) cut in
    consistent-pushed (take i es) (get_or es i d) (subst (λ xs. Consistent xs) (take_more es i d inside) earlier)
