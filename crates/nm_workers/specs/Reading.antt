-- What was read, on whichever thread.
use Rattle.std.specs.Prelude.{◌≡◌, ℕ, Bool, true, false, List, [], ◌∷◌, ◌++◌, Option}
use Rattle.std.specs.Io.KnownBytes.{Consumes, IsAtEnd}
use Rattle.nm_mailbox.specs.declared.message.Piece.{Piece}
use Rattle.nm_mailbox.specs.declared.message.Piece.TheVariants.{Bytes, Ended, Failed}
use Rattle.nm_mailbox.specs.Ends.{pieces_by, IsSameEnd}
use Rattle.nm_session.specs.Session.{Session}
use Rattle.nm_workers.specs.declared.read_by.ReadBy.{ReadBy}
use Rattle.nm_workers.specs.declared.read_by.ReadBy.TheVariants as by
use Rattle.nm_workers.specs.declared.reader.Reader.{Reader}
use Rattle.nm_workers.specs.Pieces.{bytes_of}

-- one read: it gave these bytes, or found the end, or failed
abbrev pub Gives : Piece → (input unread : Option (List ℕ)) → Type 0
Gives (Bytes bytes) input unread = Consumes input unread bytes.items
Gives Ended input unread = Consumes input unread [] × IsAtEnd unread
Gives Failed input unread = Consumes input unread []

-- whether more may follow a piece
abbrev pub brings_bytes : Piece → Bool
brings_bytes (Bytes bytes) = true
brings_bytes Ended = false
brings_bytes Failed = false

-- pieces of bytes and no other
abbrev pub AreBytes : List Piece → Type 0
AreBytes [] = Unit {0}
AreBytes (Bytes bytes ∷ more) = AreBytes more
AreBytes (Ended ∷ more) = ⊥
AreBytes (Failed ∷ more) = ⊥

-- so far all that was read was sent
pub record ReadsOn (input unread : Option (List ℕ)) (pieces : List Piece) : Type 0 where
  pub are_bytes : AreBytes pieces
  pub consumes : Consumes input unread (bytes_of pieces)

-- the bytes of the pieces that were sent are what was read, except what the last read gave where it
-- could not be sent; the end is told last, where the reader is at its end
pub record HasRead (input unread : Option (List ℕ)) (pieces : List Piece) : Type 0 where
  pub unsent : List ℕ
  pub consumes : Consumes input unread (bytes_of pieces ++ unsent)
  pub at_end : (before after : List Piece) → pieces ≡ before ++ Ended ∷ after
      → IsAtEnd unread × (after ≡ []) × (unsent ≡ [])

-- a piece was read and sent, after which more may be; or no more will be
abbrev pub Reads : Bool → (input unread : Option (List ℕ)) → List Piece → Type 0
Reads true input unread pieces = ReadsOn input unread pieces
Reads false input unread pieces = HasRead input unread pieces

-- what was read by then and sent, and more, to the same mailbox
abbrev pub ReadsFurther : {I M : Type 0} → (I → Option (List ℕ)) → (old new : Reader I M)
    → Type 0
ReadsFurther remaining old new = ((input : Option (List ℕ))
    → Reads old.is_open input (remaining old.source) (pieces_by old.pieces)
    → Reads new.is_open input (remaining new.source) (pieces_by new.pieces))
    × IsSameEnd new.pieces old.pieces

-- the reader of the owner, or that with which the thread began that reads
abbrev pub reader_of : {I M : Type 0} → ReadBy I M → Reader I M
reader_of (by.Thread permits thread) = thread.promise.0.value
reader_of (by.Owner reader) = reader

-- no request is outstanding while the owner reads
abbrev pub IsIdleForOwner : {I M : Type 0} → ReadBy I M → Session → Type 0
IsIdleForOwner (by.Thread permits thread) core = Unit {0}
IsIdleForOwner (by.Owner reader) core = core.outstanding ≡ []
