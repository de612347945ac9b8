-- The last entry on a block, in lists that are joined.
use Rattle.std.proofs.Common.{◌≡◌, ℕ, ◌+◌, ◌<◌, List, [], ◌∷◌, ◌++◌, length, take, drop, get_or, refl, sym, ap, ◌∙◌, eq-eqb}
use Rattle.std.specs.Prelude.{Option, None, Some, if◌then◌else◌, ◌==◌}
use Rattle.std.specs.Option.{option_or}
use Rattle.std.proofs.lemmas.List.{drop_more, take-append-drop}
use Rattle.std.proofs.lemmas.Bool.{ne_eqb, cond-true, cond-false}
use Rattle.nm_replay.specs.declared.block.Block.{Block}
use Rattle.nm_replay.specs.declared.entry.Entry.{Entry}
use Rattle.nm_replay.specs.History.{last_on}

pub option_or-none : {X : Type 0} (o : Option X) → option_or o None ≡ o
option_or-none None = refl
option_or-none (Some x) = refl

pub option_or_assoc : {X : Type 0} (a b c : Option X) → option_or (option_or a b) c ≡ option_or a (option_or b c)
option_or_assoc None b c = refl
option_or_assoc (Some x) b c = refl

-- the last entry on a block of two joined lists is that of the second, or else that of the first
pub last_on-append : (block : ℕ) (xs ys : List Entry) → last_on block (xs ++ ys) ≡ option_or (last_on block ys) (last_on block xs)
last_on-append block [] ys = sym (option_or-none (last_on block ys))
last_on-append block (x ∷ xs) ys =
    let here : Option Block = (if x.block == block then Some x.bytes else None) in
    ap (λ o. option_or o here) (last_on-append block xs ys) ∙ option_or_assoc (last_on block ys) (last_on block xs) here

-- an entry at the end is the last one on its block
pub last_on-push_same : (block : ℕ) (xs : List Entry) (e : Entry) → e.block ≡ block → last_on block (xs ++ e ∷ []) ≡ Some e.bytes
last_on-push_same block xs e here =
    last_on-append block xs (e ∷ []) ∙ ap (λ o. option_or o (last_on block xs)) (cond-true (e.block == block) (Some e.bytes) None (eq-eqb e.block block here))

-- and leaves the last one on every other block
pub last_on-push_other : (block : ℕ) (xs : List Entry) (e : Entry) → (e.block ≡ block → ⊥) → last_on block (xs ++ e ∷ []) ≡ last_on block xs
last_on-push_other block xs e other =
    last_on-append block xs (e ∷ []) ∙ ap (λ o. option_or o (last_on block xs)) (cond-false (e.block == block) (Some e.bytes) None (ne_eqb e.block block other))

-- an entry at the earlier counts only where no later one is on its block
pub last_on-front_later : (block : ℕ) (e : Entry) (es : List Entry) (bytes : Block) → last_on block es ≡ Some bytes → last_on block (e ∷ es) ≡ Some bytes
last_on-front_later block e es bytes later = ap (λ o. option_or o (if e.block == block then Some e.bytes else None)) later

pub last_on-front_same : (block : ℕ) (e : Entry) (es : List Entry) → last_on block es ≡ None → e.block ≡ block → last_on block (e ∷ es) ≡ Some e.bytes
last_on-front_same block e es none here =
    ap (λ o. option_or o (if e.block == block then Some e.bytes else None)) none ∙ cond-true (e.block == block) (Some e.bytes) None (eq-eqb e.block block here)

-- an entry on the block, with none on it after, is the last one
pub last_on-found : (block i : ℕ) (xs : List Entry) (d : Entry) → i < length xs → last_on block (drop (i + 1) xs) ≡ None → (get_or xs i d).block ≡ block → last_on block xs ≡ Some (get_or xs i d).bytes
last_on-found block i xs d inside none here =
    let rest : last_on block (drop i xs) ≡ Some (get_or xs i d).bytes = ap (last_on block) (drop_more xs i d inside) ∙ last_on-front_same block (get_or xs i d) (drop (i + 1) xs) none here in
    ap (last_on block) (sym (take-append-drop i xs)) ∙ (last_on-append block (take i xs) (drop i xs) ∙ ap (λ o. option_or o (last_on block (take i xs))) rest)
