-- Where the oldest entries are dropped, the others are numbered, consistent, and end in the same array.
use Rattle.std.proofs.Common.{◌≡◌, ℕ, ◌+◌, ◌-◌, ◌≤◌, List, [], ◌++◌, min, length, take, drop, drop-drop, append-nil, sym, ap, ◌∙◌, subst, arith, slice_get, length-append, length-drop}
use Rattle.std.specs.Prelude.{Option, Some, IfSome}
use Rattle.std.proofs.lemmas.List.{take-append-drop, drop-append-le}
use Rattle.nm_replay.specs.declared.block.Block.{Block}
use Rattle.nm_replay.specs.declared.entry.Entry.{Entry}
use Rattle.nm_replay.specs.Array.{Array}
use Rattle.nm_replay.specs.History.{NumberedFrom, last_on, Consistent, EndsIn}
use Rattle.nm_replay.specs.Kept.{last_kept}
use Rattle.nm_replay.proofs.Agreement.{later}
use Rattle.nm_replay.proofs.Consistency.{consistent-rest}
use Rattle.nm_replay.proofs.LastOn.{last_on-append}
use Rattle.nm_replay.proofs.Numbering.{numbered-rest}

-- an end piece of entries ends where they do
pub ends-rest : (xs ys : List Entry) (array : Array) → EndsIn (xs ++ ys) array → EndsIn ys array
ends-rest xs ys array ends = λ block.
    let P : Option Block → Type 0 = λ o. IfSome o (λ bytes. slice_get array block ≡ Some bytes) in
    later (last_on block ys) (last_on block xs) (λ bytes. slice_get array block ≡ Some bytes) (subst P (last_on-append block xs ys) (ends block))

pub ends-drop : (n : ℕ) (es : List Entry) (array : Array) → EndsIn es array → EndsIn (drop n es) array
ends-drop n es array ends =
    ends-rest (take n es) (drop n es) array (subst (λ xs. EndsIn xs array) (sym (take-append-drop n es)) ends)

pub consistent-drop : (n : ℕ) (es : List Entry) → Consistent es → Consistent (drop n es)
consistent-drop n es consistent =
    consistent-rest (take n es) (drop n es) (subst (λ xs. Consistent xs) (sym (take-append-drop n es)) consistent)

pub numbered-drop : (n first : ℕ) (es : List Entry) → n ≤ length es → NumberedFrom first es → NumberedFrom (first + n) (drop n es)
numbered-drop n first es inside numbers =
    let cut : length (take n es) + length (drop n es) ≡ length es = sym (length-append (take n es) (drop n es)) ∙ ap (λ xs. length xs) (take-append-drop n es) in
    let size : first + length (take n es) ≡ first + n = omega (arith, cut, length-drop n es, inside) in
    subst (λ k. NumberedFrom k (drop n es)) size
    (numbered-rest first (take n es) (drop n es) (subst (λ xs. NumberedFrom first xs) (sym (take-append-drop n es)) numbers))

-- what is kept: at most so many, and all of few
pub length-last_kept : (most : ℕ) (es : List Entry) → length (last_kept most es) ≡ min most (length es)
length-last_kept most es = omega (arith, length-drop (length es - most) es)

pub last_kept-few : (most : ℕ) (es : List Entry) → length es ≤ most → last_kept most es ≡ es
last_kept-few most es few = ap (λ n. drop n es) (let none : length es - most ≡ 0 = omega (arith, few) in none)

pub last_kept-none : (most : ℕ) (es : List Entry) → length es ≤ most → es ≡ last_kept most (es ++ [])
last_kept-none most es few = sym (ap (λ xs. last_kept most xs) (append-nil es) ∙ last_kept-few most es few)

-- what is kept of some entries, and then of that and others, is what is kept of all
pub last_kept-append : (most : ℕ) (xs ys : List Entry) → last_kept most (last_kept most xs ++ ys) ≡ last_kept most (xs ++ ys)
last_kept-append most xs ys =
    let n : ℕ = length xs - most in
    let inside : n ≤ length xs = omega arith in
    let joined : last_kept most xs ++ ys ≡ drop n (xs ++ ys) = sym (drop-append-le n xs ys inside) in
    let all : n + (length (drop n (xs ++ ys)) - most) ≡ length (xs ++ ys) - most = omega (arith, length-drop n (xs ++ ys), length-append xs ys) in
    ap (λ zs. last_kept most zs) joined ∙ drop-drop (length (drop n (xs ++ ys)) - most) n (xs ++ ys) ∙ ap (λ k. drop k (xs ++ ys)) all

pub consistent-last_kept : (most : ℕ) (es : List Entry) → Consistent es → Consistent (last_kept most es)
consistent-last_kept most es consistent = consistent-drop (length es - most) es consistent

pub ends-last_kept : (most : ℕ) (es : List Entry) (array : Array) → EndsIn es array → EndsIn (last_kept most es) array
ends-last_kept most es array ends = ends-drop (length es - most) es array ends

pub numbered-last_kept : (most first : ℕ) (es : List Entry) → NumberedFrom first es → NumberedFrom (first + (length es - most)) (last_kept most es)
numbered-last_kept most first es numbers = numbered-drop (length es - most) first es (omega arith) numbers
