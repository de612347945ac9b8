-- Laws of histories, over the definitions alone.
use Rattle.std.specs.Prelude.{ℕ, ◌+◌, ◌↔◌, List, ◌++◌, length}
use Rattle.nm_replay.specs.declared.entry.Entry.{Entry}
use Rattle.nm_replay.specs.Array.{Array}
use Rattle.nm_replay.specs.History.{Legal, Consistent, EndsIn}
use Rattle.nm_replay.specs.Kept.{last_kept}

-- some array and some first number make the entries legal up to `to`
abbrev pub HasOpening : List Entry → Array → Type 0
HasOpening entries to = (next : ℕ) × (from : Array) × Legal next entries from to

-- some array makes entries legal up to a given one exactly if they are consistent and end in it
abbrev pub ConsistentIsLegal : Type 0
ConsistentIsLegal =
    (entries : List Entry) (to : Array)
    → HasOpening entries to ↔ (Consistent entries × EndsIn entries to)

-- some arrays make entries legal, from one to the other, exactly if they are consistent
abbrev pub ConsistentIsExplained : Type 0
ConsistentIsExplained =
    (entries : List Entry) → ((to : Array) × HasOpening entries to) ↔ Consistent entries

-- each end piece of legal entries is legal, from some array up to the same one
abbrev pub EndPieceIsLegal : Type 0
EndPieceIsLegal =
    (earlier piece : List Entry) (next : ℕ) (from to : Array)
    → Legal next (earlier ++ piece) from to
    → (middle : Array) × Legal next earlier from middle
    × Legal (next + length earlier) piece middle to

-- legal entries followed by legal entries are legal
abbrev pub LegalThenLegal : Type 0
LegalThenLegal =
    (earlier piece : List Entry) (next : ℕ) (from middle to : Array)
    → Legal next earlier from middle
    → Legal (next + length earlier) piece middle to
    → Legal next (earlier ++ piece) from to

-- where entries are consistent and end in an array, so are and so do the last of them, however
-- many are kept
abbrev pub KeptIsConsistent : Type 0
KeptIsConsistent =
    (most : ℕ) (entries : List Entry) (to : Array)
    → Consistent entries → EndsIn entries to
    → Consistent (last_kept most entries) × EndsIn (last_kept most entries) to
