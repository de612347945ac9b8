-- The bytes of pieces, and their end.
use Rattle.std.specs.Prelude.{◌≡◌, ℕ, List, [], ◌∷◌, ◌++◌}
use Rattle.nm_mailbox.specs.declared.message.Piece.{Piece}
use Rattle.nm_mailbox.specs.declared.message.Piece.TheVariants.{Bytes, Ended, Failed}

-- the bytes of these pieces
abbrev pub bytes_of : List Piece → List ℕ
bytes_of [] = []
bytes_of (Bytes bytes ∷ more) = bytes.items ++ bytes_of more
bytes_of (Ended ∷ more) = bytes_of more
bytes_of (Failed ∷ more) = bytes_of more

-- one of these pieces tells that the bytes have ended
pub record HasEnded (pieces : List Piece) : Type 0 where
  pub before : List Piece
  pub after : List Piece
  pub pieces_are : pieces ≡ before ++ Ended ∷ after
