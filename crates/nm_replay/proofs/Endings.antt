-- What entries end in: one more entry, and legal entries.
use Rattle.std.proofs.Common.{◌≡◌, ℕ, ◌+◌, inl, inr, List, [], ◌∷◌, ◌++◌, append_assoc, append-nil, refl, sym, ap, ◌∙◌, subst, slice_get}
use Rattle.std.specs.Prelude.{Option, Some, IfSome}
use Rattle.std.proofs.lemmas.Bool.{cases_eq}
use Rattle.std.proofs.lemmas.Option.{IfSome_then, same_Some, slice_get_within}
use Rattle.nm_replay.specs.declared.block.Block.{Block}
use Rattle.nm_replay.specs.declared.entry.Kind.{Kind}
use Rattle.nm_replay.specs.declared.entry.Kind.TheVariants.{Read, Write, Patch}
use Rattle.nm_replay.specs.declared.entry.Entry.{Entry}
use Rattle.nm_replay.specs.Array.{Array, after, SameOutside}
use Rattle.nm_replay.specs.History.{operation, MayReplace, Fits, EntryFits, after_entry, Legal, last_on, Agrees, Consistent, EndsIn}
use Rattle.nm_replay.proofs.Agreement.{AgreeAfter, agree-consistent}
use Rattle.nm_replay.proofs.Arrays.{slice_get-set_same, slice_get-set_other}
use Rattle.nm_replay.proofs.LastOn.{last_on-push_same, last_on-push_other}
use Rattle.nm_replay.proofs.Legality.{legal-numbered}
use Rattle.nm_replay.proofs.Numbering.{numbered-somewhere}

-- an entry that fits leaves its bytes at its block
pub after-same : (kind : Kind) (block : ℕ) (bytes : Block) (array : Array) → Fits kind block bytes array → slice_get (after (operation kind block bytes) array) block ≡ Some bytes
after-same Read block bytes array fits = fits
after-same (Write ticket) block bytes array fits = slice_get-set_same array block bytes fits
after-same (Patch ticket start len) block bytes array fits = slice_get-set_same array block bytes (slice_get_within array block fits.0 fits.1)

-- and every other block as it was
pub after-other : (kind : Kind) (block : ℕ) (bytes : Block) (array : Array) (other : ℕ) → (block ≡ other → ⊥) → slice_get (after (operation kind block bytes) array) other ≡ slice_get array other
after-other Read block bytes array other apart = refl
after-other (Write ticket) block bytes array other apart = slice_get-set_other array block other bytes apart
after-other (Patch ticket start len) block bytes array other apart = slice_get-set_other array block other bytes apart

-- the bytes of an entry that fits may stand where those did that are there
pub fits-replaces : (kind : Kind) (block : ℕ) (bytes old : Block) (array : Array) → slice_get array block ≡ Some old → Fits kind block bytes array → MayReplace kind old bytes
fits-replaces Read block bytes old array there fits = same_Some bytes old (sym fits ∙ there)
fits-replaces (Write ticket) block bytes old array there fits = tt
fits-replaces (Patch ticket start len) block bytes old array there fits =
    subst (λ was. SameOutside start len was bytes) (same_Some fits.0 old (sym fits.1 ∙ there)) fits.2

-- and an entry whose bytes may stand there fits
pub replaces-fits : (kind : Kind) (block : ℕ) (bytes old : Block) (array : Array) → slice_get array block ≡ Some old → MayReplace kind old bytes → Fits kind block bytes array
replaces-fits Read block bytes old array there same = there ∙ ap (λ b. Some b) (sym same)
replaces-fits (Write ticket) block bytes old array there any = slice_get_within array block old there
replaces-fits (Patch ticket start len) block bytes old array there same = (old, there, same)

-- the bytes of any entry may stand where the same stood
pub replaces-same : (kind : Kind) (bytes : Block) → MayReplace kind bytes bytes
replaces-same Read bytes = refl
replaces-same (Write ticket) bytes = tt
replaces-same (Patch ticket start len) bytes = record { before = refl; rest = refl }

-- no entries end in any array
pub ends-empty : (array : Array) → EndsIn [] array
ends-empty array = λ block. tt

-- entries that end in an array, and one more that fits it, end in what it leaves
pub ends-push : (es : List Entry) (e : Entry) (array : Array) → EndsIn es array → EntryFits e array → EndsIn (es ++ e ∷ []) (after_entry e array)
ends-push es e array ends fits = λ block.
    let to : Array = after_entry e array in
    let P : Option Block → Type 0 = λ o. IfSome o (λ bytes. slice_get to block ≡ Some bytes) in
    elim (cases_eq e.block block) [
      | inl here ↦ (
          let found : slice_get to block ≡ Some e.bytes = ap (slice_get to) (sym here) ∙ after-same e.kind e.block e.bytes array fits in
          subst P (sym (last_on-push_same block es e here)) found)
      | inr other ↦ (
          let stays : slice_get to block ≡ slice_get array block = after-other e.kind e.block e.bytes array block other in
          subst P (sym (last_on-push_other block es e other)) (IfSome_then (last_on block es) (ends block) (λ bytes was. stays ∙ was)))
    ]

-- an entry that fits the array that others end in agrees with them
pub agrees-fitting : (es : List Entry) (e : Entry) (array : Array) → EndsIn es array → EntryFits e array → Agrees es e
agrees-fitting es e array ends fits =
    IfSome_then (last_on e.block es) (ends e.block) (λ last there. fits-replaces e.kind e.block e.bytes last array there fits)

-- legal entries end in what they leave
pub legal-ends_after : (es : List Entry) (next : ℕ) (array to : Array) (before : List Entry) → Legal next es array to → EndsIn before array → EndsIn (before ++ es) to
legal-ends_after [] next array to before legal ends =
    subst (λ a. EndsIn (before ++ []) a) (sym legal) (subst (λ b. EndsIn b array) (sym (append-nil before)) ends)
legal-ends_after (e ∷ es) next array to before legal ends =
    subst (λ b. EndsIn b to) (append_assoc before (e ∷ []) es)
    (legal-ends_after es (next + 1) (after_entry e array) to (before ++ e ∷ []) legal.2 (ends-push before e array ends legal.1))

pub legal-ends : (es : List Entry) (next : ℕ) (array to : Array) → Legal next es array to → EndsIn es to
legal-ends es next array to legal = legal-ends_after es next array to [] legal (ends-empty array)

-- and each of them agrees with those before it
pub legal-agree : (es : List Entry) (next : ℕ) (array to : Array) (before : List Entry) → Legal next es array to → EndsIn before array → AgreeAfter before es
legal-agree [] next array to before legal ends = tt
legal-agree (e ∷ es) next array to before legal ends = (
  agrees-fitting before e array ends legal.1,
  legal-agree es (next + 1) (after_entry e array) to (before ++ e ∷ []) legal.2 (ends-push before e array ends legal.1),
)

-- so legal entries are consistent
pub legal-consistent : (es : List Entry) (next : ℕ) (array to : Array) → Legal next es array to → Consistent es
legal-consistent es next array to legal =
    agree-consistent es (numbered-somewhere next es (legal-numbered es next array to legal))
    (legal-agree es next array to [] legal (ends-empty array))
