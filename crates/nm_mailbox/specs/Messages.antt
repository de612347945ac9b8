-- The two kinds of message, each kind in its own order.
use Rattle.std.specs.Prelude.{◌≡◌, List, [], ◌∷◌, ◌++◌}
use Rattle.nm_mailbox.specs.declared.message.Piece.{Piece}
use Rattle.nm_mailbox.specs.declared.message.Message.{Message}
use Rattle.nm_mailbox.specs.declared.message.Message.TheVariants as message

-- the pieces among these messages
abbrev pub pieces_of : {O : Type 0} → List (Message O) → List Piece
pieces_of [] = []
pieces_of (message.Piece piece ∷ more) = piece ∷ pieces_of more
pieces_of (message.Outcome _ ∷ more) = pieces_of more

-- the outcomes among these messages
abbrev pub outcomes_of : {O : Type 0} → List (Message O) → List O
outcomes_of [] = []
outcomes_of (message.Piece _ ∷ more) = outcomes_of more
outcomes_of (message.Outcome outcome ∷ more) = outcome ∷ outcomes_of more

-- the first of them, none left out in between
abbrev pub IsBeginning : {X : Type 0} → List X → List X → Type 0
IsBeginning {X} front whole = (rest : List X) × (whole ≡ front ++ rest)
