-- Entries that agree with those before them, one after the other: the form for inductions.
use Rattle.std.proofs.Common.{◌≡◌, List, [], ◌∷◌, ◌++◌, append_assoc, append-nil, refl, sym, ap, ◌∙◌, subst}
use Rattle.std.specs.Prelude.{Option, None, Some, IfSome}
use Rattle.std.specs.Option.{option_or}
use Rattle.nm_replay.specs.declared.block.Block.{Block}
use Rattle.nm_replay.specs.declared.entry.Entry.{Entry}
use Rattle.nm_replay.specs.History.{last_on, MayReplace, Agrees, IsNumbered, Consistent}
use Rattle.nm_replay.proofs.LastOn.{last_on-append}

-- after `before`, each of the entries agrees with all that stand before it
abbrev pub AgreeAfter : List Entry → List Entry → Type 0
AgreeAfter before [] = Unit {0}
AgreeAfter before (e ∷ es) = Agrees before e × AgreeAfter (before ++ e ∷ []) es

-- the place of any entry among them will do
pub agree-at : (es before earlier : List Entry) (e : Entry) (later : List Entry) → AgreeAfter before es → es ≡ earlier ++ e ∷ later → Agrees (before ++ earlier) e
agree-at [] before [] e later agree cut = absurd (cc)
agree-at [] before (y ∷ ys) e later agree cut = absurd (cc)
agree-at (x ∷ xs) before [] e later agree cut =
    let same : x ≡ e = cc in
    let P : List Entry → Type 0 = λ b. Agrees b e in
    subst P (sym (append-nil before)) (subst (λ y. Agrees before y) same agree.0)
agree-at (x ∷ xs) before (y ∷ ys) e later agree cut =
    let same : x ≡ y = cc in
    let rest : xs ≡ ys ++ e ∷ later = cc in
    let P : List Entry → Type 0 = λ b. Agrees b e in
    let moved : before ++ x ∷ [] ++ ys ≡ before ++ y ∷ ys = append_assoc before (x ∷ []) ys ∙ ap (λ z. before ++ z ∷ ys) same in
    subst P moved (agree-at xs (before ++ x ∷ []) ys e later agree.1 rest)

pub agree-from : (es before whole : List Entry) → ((earlier : List Entry) (e : Entry) (later : List Entry) → whole ≡ earlier ++ e ∷ later → Agrees earlier e) → whole ≡ before ++ es → AgreeAfter before es
agree-from [] before whole each cut = tt
agree-from (x ∷ xs) before whole each cut =
    (each before x xs cut, agree-from xs (before ++ x ∷ []) whole each (cut ∙ sym (append_assoc before (x ∷ []) xs)))

pub agree-append : (xs ys before : List Entry) → AgreeAfter before xs → AgreeAfter (before ++ xs) ys → AgreeAfter before (xs ++ ys)
agree-append [] ys before earlier rest = subst (λ b. AgreeAfter b ys) (append-nil before) rest
agree-append (x ∷ xs) ys before earlier rest =
    (earlier.0, agree-append xs ys (before ++ x ∷ []) earlier.1 (subst (λ b. AgreeAfter b ys) (sym (append_assoc before (x ∷ []) xs)) rest))

pub agree-front : (xs ys before : List Entry) → AgreeAfter before (xs ++ ys) → AgreeAfter before xs
agree-front [] ys before all = tt
agree-front (x ∷ xs) ys before all = (all.0, agree-front xs ys (before ++ x ∷ []) all.1)

pub agree-rest : (xs ys before : List Entry) → AgreeAfter before (xs ++ ys) → AgreeAfter (before ++ xs) ys
agree-rest [] ys before all = subst (λ b. AgreeAfter b ys) (sym (append-nil before)) all
agree-rest (x ∷ xs) ys before all =
    subst (λ b. AgreeAfter b ys) (append_assoc before (x ∷ []) xs) (agree-rest xs ys (before ++ x ∷ []) all.1)

-- what holds of the last entry on a block holds of that of an end piece
pub later : (latest earlier : Option Block) (P : Block → Type 0) → IfSome (option_or latest earlier) P → IfSome latest P
later None earlier P all = tt
later (Some bytes) earlier P all = all

-- entries agree with fewer entries before them
agrees-fewer : (earlier before : List Entry) (e : Entry) → Agrees (earlier ++ before) e → Agrees before e
agrees-fewer earlier before e agrees =
    later (last_on e.block before) (last_on e.block earlier) (λ last. MayReplace e.kind last e.bytes)
    (subst (λ o. IfSome o (λ last. MayReplace e.kind last e.bytes)) (last_on-append e.block earlier before) agrees)

pub agree-fewer : (es earlier before : List Entry) → AgreeAfter (earlier ++ before) es → AgreeAfter before es
agree-fewer [] earlier before all = tt
agree-fewer (x ∷ xs) earlier before all = (
  agrees-fewer earlier before x all.0,
  agree-fewer xs earlier (before ++ x ∷ []) (subst (λ b. AgreeAfter b xs) (append_assoc earlier before (x ∷ [])) all.1),
)

-- the two forms of consistency
pub consistent-agree : (es : List Entry) → Consistent es → AgreeAfter [] es
consistent-agree es consistent = agree-from es [] es consistent.agree refl

pub agree-consistent : (es : List Entry) → IsNumbered es → AgreeAfter [] es → Consistent es
agree-consistent es numbers agree = record { numbers = numbers; agree = λ earlier e later cut. agree-at es [] earlier e later agree cut }
