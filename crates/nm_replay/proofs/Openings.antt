-- Consistent entries that end in an array are legal up to it, from the array that has, at each block,
-- the bytes of the first entry there, and elsewhere what is there at last.
use Rattle.std.proofs.Common.{◌≡◌, ℕ, ◌+◌, ◌<◌, inl, inr, List, [], ◌∷◌, ◌++◌, append_assoc, append-nil, length, length-set, arith, refl, sym, ap, ◌∙◌, subst, slice_get, slice_set}
use Rattle.std.specs.Prelude.{Option, None, Some, IfSome}
use Rattle.std.specs.Option.{option_or}
use Rattle.std.proofs.lemmas.Bool.{cases_eq}
use Rattle.std.proofs.lemmas.Option.{MatchOption-at_some, slice_get_within}
use Rattle.std.specs.Bool.{⊤}
use Rattle.nm_replay.specs.declared.block.Block.{Block}
use Rattle.nm_replay.specs.declared.entry.Kind.{Kind}
use Rattle.nm_replay.specs.declared.entry.Entry.{Entry}
use Rattle.nm_replay.specs.Array.{Array}
use Rattle.nm_replay.specs.History.{MayReplace, EntryFits, after_entry, Legal, NumberedFrom, IsNumbered, last_on, Consistent, EndsIn}
use Rattle.nm_replay.specs.Laws.{HasOpening}
use Rattle.nm_replay.proofs.Agreement.{AgreeAfter, consistent-agree}
use Rattle.nm_replay.proofs.Arrays.{slice_get-set_same, slice_get-set_other, same_by_slice_get}
use Rattle.nm_replay.proofs.Endings.{after-same, after-other, replaces-fits, replaces-same}
use Rattle.nm_replay.proofs.LastOn.{last_on-append, last_on-front_later, last_on-front_same, last_on-push_same, last_on-push_other}
use Rattle.nm_replay.proofs.Legality.{length-after}

-- the last array, overwritten from the last entry to the first with each entry's bytes
abbrev pub opening : List Entry → Array → Array
opening [] to = to
opening (e ∷ es) to = slice_set (opening es to) e.block e.bytes

pub length-opening : (es : List Entry) (to : Array) → length (opening es to) ≡ length to
length-opening [] to = refl
length-opening (e ∷ es) to = length-set (opening es to) e.block e.bytes ∙ length-opening es to

-- some entry is the last on the block of one
pub last_on-some : (es : List Entry) (e : Entry) → (bytes : Block) × (last_on e.block (e ∷ es) ≡ Some bytes)
last_on-some es e = found (last_on e.block es) refl where
  found : (o : Option Block) → last_on e.block es ≡ o → (bytes : Block) × (last_on e.block (e ∷ es) ≡ Some bytes)
  found None none = (e.bytes, last_on-front_same e.block e es none refl)
  found (Some bytes) later = (bytes, last_on-front_later e.block e es bytes later)

-- the block of an entry lies in the array that the entries end in
pub inside : (before : List Entry) (e : Entry) (es : List Entry) (to : Array) → EndsIn (before ++ e ∷ es) to → e.block < length to
inside before e es to ends =
    let last = last_on-some es e in
    let whole : last_on e.block (before ++ e ∷ es) ≡ Some last.0 = last_on-append e.block before (e ∷ es) ∙ ap (λ o. option_or o (last_on e.block before)) last.1 in
    slice_get_within to e.block last.0 (MatchOption-at_some ⊤ (λ bytes. slice_get to e.block ≡ Some bytes) last.0 whole (ends e.block))

over_replaced : (o : Option Block) (kind : Kind) (bytes : Block) → IfSome o (λ last. MayReplace kind last bytes) → (old : Block) × (option_or o (Some bytes) ≡ Some old) × MayReplace kind old bytes
over_replaced None kind bytes any = (bytes, refl, replaces-same kind bytes)
over_replaced (Some last) kind bytes replaces = (last, refl, replaces)

over_there : (o p : Option Block) → IfSome o (λ bytes. p ≡ Some bytes) → option_or o p ≡ p
over_there None p there = refl
over_there (Some bytes) p there = sym there

-- after `before`, the array that has the last entries of `before` over the opening of the others
-- makes the others legal
pub replays : (es before : List Entry) (next : ℕ) (array to : Array) → NumberedFrom next es → AgreeAfter before es → EndsIn (before ++ es) to → length array ≡ length to → ((block : ℕ) → slice_get array block ≡ option_or (last_on block before) (slice_get (opening es to) block)) → Legal next es array to
replays [] before next array to numbers agree ends size state =
    let ended : EndsIn before to = subst (λ b. EndsIn b to) (append-nil before) ends in
    same_by_slice_get to array (λ block. sym (state block ∙ over_there (last_on block before) (slice_get to block) (ended block)))
replays (e ∷ es) before next array to numbers agree ends size state =
    let within : e.block < length to = inside before e es to ends in
    let opened : slice_get (opening (e ∷ es) to) e.block ≡ Some e.bytes =
    slice_get-set_same (opening es to) e.block e.bytes (omega (arith, within, length-opening es to)) in
    let old = over_replaced (last_on e.block before) e.kind e.bytes agree.0 in
    let fits : EntryFits e array = replaces-fits e.kind e.block e.bytes old.0 array
    (state e.block ∙ (ap (λ o. option_or (last_on e.block before) o) opened ∙ old.1)) old.2 in
    let ended : EndsIn (before ++ e ∷ [] ++ es) to = subst (λ b. EndsIn b to) (sym (append_assoc before (e ∷ []) es)) ends in
    (numbers.0, fits, replays es (before ++ e ∷ []) (next + 1) (after_entry e array) to numbers.1 agree.1 ended (length-after e.kind e.block e.bytes array ∙ size) (stepped e es before array to fits state))
  where
    stepped : (e : Entry) (es before : List Entry) (array to : Array) → EntryFits e array → ((block : ℕ) → slice_get array block ≡ option_or (last_on block before) (slice_get (opening (e ∷ es) to) block)) → (block : ℕ) → slice_get (after_entry e array) block ≡ option_or (last_on block (before ++ e ∷ [])) (slice_get (opening es to) block)
    stepped e es before array to fits state block = elim (cases_eq e.block block) [
      | inl here ↦ (
          ap (slice_get (after_entry e array)) (sym here) ∙ (after-same e.kind e.block e.bytes array fits
          ∙ sym (ap (λ o. option_or o (slice_get (opening es to) block)) (last_on-push_same block before e here))))
      | inr other ↦ (
          after-other e.kind e.block e.bytes array block other ∙ (state block
          ∙ (ap (λ o. option_or (last_on block before) o) (slice_get-set_other (opening es to) e.block block e.bytes other)
          ∙ sym (ap (λ o. option_or o (slice_get (opening es to) block)) (last_on-push_other block before e other)))))
    ]

-- consistent entries that end in an array are legal up to it
pub consistent-opens : (es : List Entry) (to : Array) → Consistent es → EndsIn es to → HasOpening es to
consistent-opens es to consistent ends =
    let first = first_number es consistent.numbers in
    (first.0, opening es to, replays es [] first.0 (opening es to) to first.1 (consistent-agree es consistent) ends (length-opening es to) (λ block. refl))
  where
    first_number : (xs : List Entry) → IsNumbered xs → (next : ℕ) × NumberedFrom next xs
    first_number [] numbers = (0, tt)
    first_number (x ∷ xs) numbers = (x.seq, (refl, numbers))
