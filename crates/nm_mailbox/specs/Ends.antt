-- What the ends of a mailbox did, and the channel that each belongs to.
use Rattle.std.specs.Prelude.{◌≡◌, ℕ, List}
use Rattle.crossbeam_channel.specs.Claims.{view}
use Rattle.crossbeam_channel.specs.Ends.{sends_on, receives_on, ruled_capacity}
use Rattle.nm_mailbox.specs.declared.message.Piece.{Piece}
use Rattle.nm_mailbox.specs.declared.message.Message.{Message}
use Rattle.nm_mailbox.specs.declared.piece_end.PieceEnd.{PieceEnd}
use Rattle.nm_mailbox.specs.declared.outcome_end.OutcomeEnd.{OutcomeEnd}
use Rattle.nm_mailbox.specs.declared.inbox.Inbox.{Inbox}

module _ {O : Type 0} where
  -- the pieces that were sent here, in order
  abbrev pub pieces_by : PieceEnd O → List Piece
  pieces_by end = (view end.pass).pieces

  -- the outcomes that were sent here, in order
  abbrev pub outcomes_by : OutcomeEnd O → List O
  outcomes_by end = (view end.pass).outcomes

  -- the messages that were received here, in order
  abbrev pub received_by : Inbox O → List (Message O)
  received_by inbox = (view inbox.pass).received

  -- how many messages can wait
  abbrev pub room_of : Inbox O → ℕ
  room_of inbox = ruled_capacity (receives_on inbox.receiver)

  -- this end and this inbox are of one mailbox
  abbrev pub SendsTo : PieceEnd O → Inbox O → Type 0
  SendsTo end inbox = receives_on inbox.receiver ≡ sends_on end.sender

  -- the same of an end that sends outcomes
  abbrev pub TellsTo : OutcomeEnd O → Inbox O → Type 0
  TellsTo end inbox = receives_on inbox.receiver ≡ sends_on end.sender

  -- both ends are of one mailbox
  abbrev pub IsBeside : OutcomeEnd O → PieceEnd O → Type 0
  IsBeside end other = sends_on end.sender ≡ sends_on other.sender

  -- the end stays with its mailbox
  abbrev pub IsSameEnd : (new old : PieceEnd O) → Type 0
  IsSameEnd new old = sends_on new.sender ≡ sends_on old.sender

  -- the same of an end that sends outcomes
  abbrev pub IsSameOutcomeEnd : (new old : OutcomeEnd O) → Type 0
  IsSameOutcomeEnd new old = sends_on new.sender ≡ sends_on old.sender

  -- the inbox stays with its mailbox
  abbrev pub IsSameInbox : (new old : Inbox O) → Type 0
  IsSameInbox new old = receives_on new.receiver ≡ receives_on old.receiver
