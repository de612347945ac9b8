-- Legal entries, joined and cut.
use Rattle.std.proofs.Common.{◌≡◌, ℕ, suc, ◌+◌, List, [], ◌∷◌, ◌++◌, length, length-set, refl, arith, subst}
use Rattle.nm_replay.specs.declared.block.Block.{Block}
use Rattle.nm_replay.specs.declared.entry.Kind.{Kind}
use Rattle.nm_replay.specs.declared.entry.Kind.TheVariants.{Read, Write, Patch}
use Rattle.nm_replay.specs.declared.entry.Entry.{Entry}
use Rattle.nm_replay.specs.Array.{Array, after}
use Rattle.nm_replay.specs.History.{operation, Legal, NumberedFrom}

-- an operation leaves as many blocks
pub length-after : (kind : Kind) (block : ℕ) (bytes : Block) (array : Array) → length (after (operation kind block bytes) array) ≡ length array
length-after Read block bytes array = refl
length-after (Write ticket) block bytes array = length-set array block bytes
length-after (Patch ticket start len) block bytes array = length-set array block bytes

-- legal entries followed by legal entries are legal
pub legal-append : (earlier piece : List Entry) (next : ℕ) (array middle to : Array) → Legal next earlier array middle → Legal (next + length earlier) piece middle to → Legal next (earlier ++ piece) array to
legal-append [] piece next array middle to begun ended =
    let same : next + 0 ≡ next = omega arith in
    subst (λ a. Legal next piece a to) begun (subst (λ n. Legal n piece middle to) same ended)
legal-append (e ∷ es) piece next array middle to begun ended =
    let same : next + suc (length es) ≡ next + 1 + length es = omega arith in
    (begun.0, begun.1, legal-append es piece (next + 1) (after (operation e.kind e.block e.bytes) array) middle to begun.2 (subst (λ n. Legal n piece middle to) same ended))

-- the end piece of legal entries is legal, from what the earlier piece leaves
pub legal-split : (earlier piece : List Entry) (next : ℕ) (array to : Array) → Legal next (earlier ++ piece) array to → (middle : Array) × Legal next earlier array middle × Legal (next + length earlier) piece middle to
legal-split [] piece next array to all =
    let same : next ≡ next + 0 = omega arith in (array, refl, subst (λ n. Legal n piece array to) same all)
legal-split (e ∷ es) piece next array to all =
    let same : next + 1 + length es ≡ next + suc (length es) = omega arith in
    let rest = legal-split es piece (next + 1) (after (operation e.kind e.block e.bytes) array) to all.2 in
    (rest.0, (all.0, all.1, rest.1), subst (λ n. Legal n piece rest.0 to) same rest.2)

-- the numbers of legal entries rise by one
pub legal-numbered : (es : List Entry) (next : ℕ) (array to : Array) → Legal next es array to → NumberedFrom next es
legal-numbered [] next array to legal = tt
legal-numbered (e ∷ es) next array to legal =
    (legal.0, legal-numbered es (next + 1) (after (operation e.kind e.block e.bytes) array) to legal.2)
