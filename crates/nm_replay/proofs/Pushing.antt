-- One more entry, in the forms that a keeper of a history meets: numbers that rise from a first one,
-- and arrays that are compared block by block.
use Rattle.std.proofs.Common.{◌≡◌, ◌≢◌, ℕ, ◌+◌, inl, inr, List, [], ◌∷◌, ◌++◌, length, sym, ap, ◌∙◌, subst, slice_get}
use Rattle.std.specs.Prelude.{Option, Some, IfSome}
use Rattle.std.proofs.lemmas.Bool.{cases_eq}
use Rattle.std.proofs.lemmas.Option.{IfSome_then, same_Some}
use Rattle.nm_replay.specs.declared.block.Block.{Block}
use Rattle.nm_replay.specs.declared.entry.Entry.{Entry}
use Rattle.nm_replay.specs.Array.{Array}
use Rattle.nm_replay.specs.Following.{IsNext}
use Rattle.nm_replay.specs.History.{NumberedFrom, last_on, Agrees, Consistent, EndsIn}
use Rattle.nm_replay.specs.Events.{entry_of_read}
use Rattle.nm_replay.proofs.Consistency.{consistent-push, is_numbered-pushed}
use Rattle.nm_replay.proofs.LastOn.{last_on-push_same, last_on-push_other}
use Rattle.nm_replay.proofs.Numbering.{numbered-append, numbered-somewhere}

-- consistent entries, with numbers from a first one, and one more with the next number
consistent-push_numbered : (first : ℕ) (es : List Entry) (e : Entry) → NumberedFrom first es → e.seq ≡ first + length es → Agrees es e → Consistent es → Consistent (es ++ e ∷ [])
consistent-push_numbered first es e numbers number agrees consistent =
    let all : NumberedFrom first (es ++ e ∷ []) = numbered-append first es (e ∷ []) numbers (number, tt) in
    let next : IsNext es e = is_numbered-pushed es e (numbered-somewhere first (es ++ e ∷ []) all) in
    consistent-push es e consistent (record { number = next; agrees = agrees })

-- a read with the next number, of what the array has, keeps it too
pub consistent-read : (first : ℕ) (es : List Entry) (array : Array) (number block : ℕ) (bytes : Block) → NumberedFrom first es → number ≡ first + length es → EndsIn es array → slice_get array block ≡ Some bytes → Consistent es → Consistent (es ++ entry_of_read number block bytes ∷ [])
consistent-read first es array number block bytes numbers is ends at consistent =
    consistent-push_numbered first es (entry_of_read number block bytes) numbers is
    (IfSome_then (last_on block es) (ends block) (λ last there. same_Some bytes last (sym at ∙ there))) consistent

-- entries that end in an array end, with one more, in the array that has its bytes at its block
pub ends-push_by : (es : List Entry) (e : Entry) (array to : Array) → EndsIn es array → slice_get to e.block ≡ Some e.bytes → ((block : ℕ) → block ≢ e.block → slice_get to block ≡ slice_get array block) → EndsIn (es ++ e ∷ []) to
ends-push_by es e array to ends there others = λ block.
    let P : Option Block → Type 0 = λ o. IfSome o (λ bytes. slice_get to block ≡ Some bytes) in
    elim (cases_eq e.block block) [
      | inl here ↦
          let found : slice_get to block ≡ Some e.bytes = ap (slice_get to) (sym here) ∙ there in
          subst P (sym (last_on-push_same block es e here)) found
      | inr other ↦
          subst P (sym (last_on-push_other block es e other)) (IfSome_then (last_on block es) (ends block) (λ bytes was. others block (λ same. other (sym same)) ∙ was))
    ]
