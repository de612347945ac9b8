-- Consistent entries end in some array: one that is long enough, on which each entry's bytes were laid.
use Rattle.std.proofs.Common.{◌≡◌, ℕ, ◌+◌, ◌<◌, ◌≤◌, List, [], ◌∷◌, ◌++◌, append_assoc, append-nil, length, length-set, replicate, arith, sym, subst, slice_set}
use Rattle.std.proofs.lemmas.List.{length-replicate}
use Rattle.nm_replay.specs.declared.block.TheConstants.{BLOCK_BYTES}
use Rattle.nm_replay.specs.declared.block.Block.{Block}
use Rattle.nm_replay.specs.declared.entry.Entry.{Entry}
use Rattle.nm_replay.specs.Array.{Array}
use Rattle.nm_replay.specs.History.{EndsIn}
use Rattle.nm_replay.proofs.Arrays.{slice_get-set_same, slice_get-set_other}
use Rattle.nm_replay.proofs.Endings.{ends-empty}
use Rattle.nm_replay.proofs.Pushing.{ends-push_by}

-- each entry's bytes laid on an array, in order
abbrev pub laid : Array → List Entry → Array
laid array [] = array
laid array (e ∷ es) = laid (slice_set array e.block e.bytes) es

-- the entries' blocks are below a bound
abbrev pub AllBelow : ℕ → List Entry → Type 0
AllBelow bound [] = Unit {0}
AllBelow bound (e ∷ es) = (e.block < bound) × AllBelow bound es

-- a bound on the entries' blocks
abbrev pub bound_of : List Entry → ℕ
bound_of [] = 0
bound_of (e ∷ es) = e.block + 1 + bound_of es

below-more : (low high : ℕ) (es : List Entry) → low ≤ high → AllBelow low es → AllBelow high es
below-more low high [] more below = tt
below-more low high (e ∷ es) more below = (omega (arith, below.0), below-more low high es more below.1)

below-bound : (es : List Entry) → AllBelow (bound_of es) es
below-bound [] = tt
below-bound (e ∷ es) = (omega arith, below-more (bound_of es) (e.block + 1 + bound_of es) es (omega arith) (below-bound es))

pub ends-laid_after : (es before : List Entry) (array : Array) → AllBelow (length array) es → EndsIn before array → EndsIn (before ++ es) (laid array es)
ends-laid_after [] before array below ends = subst (λ b. EndsIn b array) (sym (append-nil before)) ends
ends-laid_after (e ∷ es) before array below ends =
    let set : Array = slice_set array e.block e.bytes in
    let size : length set ≡ length array = length-set array e.block e.bytes in
    let one : EndsIn (before ++ e ∷ []) set =
    ends-push_by before e array set ends (slice_get-set_same array e.block e.bytes below.0)
    (λ block other. slice_get-set_other array e.block block e.bytes (λ same. other (sym same))) in
    subst (λ b. EndsIn b (laid set es)) (append_assoc before (e ∷ []) es)
    (ends-laid_after es (before ++ e ∷ []) set (subst (λ n. AllBelow n es) (sym size) below.1) one)

-- an array in which the entries end
pub some_ending : (es : List Entry) → (to : Array) × EndsIn es to
some_ending es =
    let blank : Block = record { 0 = replicate BLOCK_BYTES 0 } in
    let array : Array = replicate (bound_of es) blank in
    let below : AllBelow (length array) es = subst (λ n. AllBelow n es) (sym (length-replicate (bound_of es) blank)) (below-bound es) in
    (laid array es, ends-laid_after es [] array below (ends-empty array))
