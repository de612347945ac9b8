-- The rule of a mailbox: the pieces sent are those received and then those that wait, in order.
-- At most one end sends pieces, and it knows which; at most one receives, and it knows what.
use Rattle.std.specs.Prelude.{◌≡◌, ℕ, Bool, true, false, List, [], ◌∷◌, ◌++◌}
use mathlib.Core.Option.{some}
use lib.ListN.{get_elem?}
use Rattle.nm_mailbox.specs.declared.message.Piece.{Piece}
use Rattle.nm_mailbox.specs.declared.message.Message.{Message}
use Rattle.nm_mailbox.specs.declared.rule.Log.{Log}
use Rattle.nm_mailbox.specs.Messages.{pieces_of, outcomes_of}

module _ {O : Type 0} where
  -- what an end knows that may do this and did this
  abbrev pub log : (sends receives : Bool) → List Piece → List O → List (Message O) → Log O
  log sends receives pieces outcomes received =
      record {
        sends = sends;
        receives = receives;
        pieces = pieces;
        outcomes = outcomes;
        received = received;
      }

  -- an end that neither sends pieces nor receives, and has done nothing
  abbrev pub bystander : Log O
  bystander = log false false [] [] []

  -- all that one log knows of pieces sent, for the end that sends them
  abbrev pub sending_half : Log O → Log O
  sending_half whole = log true false whole.pieces [] []

  -- all that one log knows of messages received, for the end that receives
  abbrev pub receiving_half : Log O → Log O
  receiving_half whole = log false true [] whole.outcomes whole.received

  -- what both know together, of pieces sent and of messages received
  abbrev pub whole : (sending receiving : Log O) → Log O
  whole sending receiving = log true true sending.pieces [] receiving.received

  -- one message more was sent
  abbrev pub HasSent : (old : Log O) → Message O → (new : Log O) → Type 0
  HasSent old message new = new ≡ log old.sends old.receives
      (old.pieces ++ pieces_of (message ∷ [])) (old.outcomes ++ outcomes_of (message ∷ []))
      old.received

  -- one message more was received
  abbrev pub HasReceived : (old : Log O) → Message O → (new : Log O) → Type 0
  HasReceived old message new = new ≡ log old.sends old.receives old.pieces old.outcomes
      (old.received ++ message ∷ [])

  -- the pieces sent are those received and then those that wait
  abbrev pub Accounts : Log O → List (Message O) → Type 0
  Accounts log waiting = log.pieces ≡ pieces_of log.received ++ pieces_of waiting

  -- an end that sends pieces is the one that does, and sent these; one that receives alike
  abbrev pub Knows : (sender receiver : ℕ) → List Piece → List (Message O) → ℕ → Log O → Type 0
  Knows sender receiver pieces received end log =
      (log.sends ≡ true → (end ≡ sender) × (log.pieces ≡ pieces))
      × (log.receives ≡ true → (end ≡ receiver) × (log.received ≡ received))

  -- of these messages that wait, and of what each end knows, the rule holds
  abbrev pub Delivers : List (Message O) → List (Log O) → Type 0
  Delivers waiting logs = (sender : ℕ) × (receiver : ℕ)
      × (pieces : List Piece) × (received : List (Message O))
      × (pieces ≡ pieces_of received ++ pieces_of waiting)
      × ((end : ℕ) (log : Log O) → get_elem? logs end ≡ some log
      → Knows sender receiver pieces received end log)
