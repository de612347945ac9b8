-- What the owner of a core and the reading thread did together.
use Rattle.std.proofs.Common.{◌≡◌, ◌≤◌, ℕ, true, All, List, [], Option, Result, Ok, Err, IfOk, IfErr, sym, subst}
use Rattle.nm_mailbox.specs.declared.message.Message.{Message}
use Rattle.nm_mailbox.specs.Ends.{pieces_by}
use Rattle.nm_mailbox.specs.Messages.{pieces_of, IsBeginning}
use Rattle.nm_replies.specs.declared.reply_writer.ReplyWriter.{ReplyWriter}
use Rattle.nm_replies.specs.Sending.{device_of}
use Rattle.nm_session.specs.declared.serve_fault.ServeFault.{ServeFault}
use Rattle.nm_session.specs.declared.serve_fault.ServeFault.TheVariants as fault
use Rattle.nm_session.specs.declared.served.Served.{Served}
use Rattle.nm_session.specs.CalledValue.{CalledValue}
use Rattle.nm_session.specs.Event.{Event, Runs}
use Rattle.nm_session.specs.Laws.{SoFar}
use Rattle.nm_session.specs.Session.{Session, session_of, so_many}
use Rattle.nm_wire.specs.declared.export.Export.{Export}
use Rattle.nm_wire.specs.Export.{size_of}
use Rattle.nm_workers.specs.declared.reader.Reader.{Reader}
use Rattle.nm_workers.specs.Moving.{owner_state, Attends, BreaksOff, EndsAs}
use Rattle.nm_workers.specs.Reading.{HasRead, ReadsFurther}
use Rattle.nm_workers.specs.Results.{moment, Note}
use Rattle.nm_workers.specs.Serving.{Io, io, Left, left, Ends, Breaks, EndsOrBreaks, IsServed, IsBrokenOff}
use Rattle.nm_workers.proofs.ReadPieces.{reads_first, has_read}
use Rattle.nm_workers.proofs.RequestLemmas.{export_stays}
use Rattle.nm_workers.proofs.WholeSessions.{ends_there, breaks_there, breaks_at_once, whole, broken}

module _ {G : Type 0} (F : Note → G → G → Type 0) where
  module _ {I M : Type 0} (remaining : I → Option (List ℕ)) (reader back : Reader I M)
      (fresh : pieces_by reader.pieces ≡ []) (is_open : reader.is_open ≡ true) (reads : ReadsFurther remaining reader back) where
    -- all that was read since was sent, or lost at the end
    read_all : HasRead (remaining reader.source) (remaining back.source) (pieces_by back.pieces)
    read_all = has_read back.is_open (remaining reader.source) (remaining back.source) (pieces_by back.pieces)
        (reads.0 (remaining reader.source)
        (reads_first (remaining reader.source) (pieces_by reader.pieces) reader.is_open fresh is_open))

    module _ (core last : Session) (log later : G) (first heard : List (Message CalledValue)) (output after : Option (List ℕ))
        (unheard : first ≡ []) (begins : IsBeginning (pieces_of heard) (pieces_by back.pieces)) where
      -- a session that came to its end, or broke off
      pub owned : (result : Result Served ServeFault)
          → EndsAs F result (owner_state (moment core log) first output) (owner_state (moment last later) heard after)
          → EndsOrBreaks F result core (io (remaining reader.source) output log) (left after later)
      owned (Ok served) attends =
          ends_there (remaining reader.source) (remaining back.source) output after log later (pieces_by back.pieces)
          core last heard read_all begins served
          (subst (λ (f : List (Message CalledValue)). Attends F served (owner_state (moment core log) f output) (owner_state (moment last later) heard after)) unheard attends)
      owned (Err found) breaks =
          breaks_there (remaining reader.source) (remaining back.source) output after log later (pieces_by back.pieces)
          core last heard read_all begins found
          (subst (λ (f : List (Message CalledValue)). BreaksOff F found (owner_state (moment core log) f output) (owner_state (moment last later) heard after)) unheard breaks)

  -- a session that broke off before anything happened
  module _ {O : Type 0} (contents : O → Option (List ℕ)) (core : Session) (bytes : Option (List ℕ))
      (sent sender : ReplyWriter O) (later log : G) (result : Result Served ServeFault) where
    pub failed : result ≡ Err fault.Memory → sent ≡ sender → later ≡ log
        → EndsOrBreaks F result core (io bytes (contents (device_of sender)) log) (left (contents (device_of sent)) later)
    failed is same kept = rw (is, same, kept) (breaks_at_once core bytes (contents (device_of sender)) log)

-- a target that has the bytes of the export has them still
pub sizes_stay : {T : Type 0} (size : T → ℕ) (old new : Session) (events : List Event) (targets : List T)
    → Runs old events new → All (λ target. size_of old.haggling.export ≤ size target) targets
    → All (λ target. size_of new.haggling.export ≤ size target) targets
sizes_stay size old new events targets runs large =
    subst (λ (export : Export). All (λ target. size_of export ≤ size target) targets)
    (sym (export_stays events old new runs)) large

module _ {G : Type 0} (F : Note → G → G → Type 0) where
  -- the session of a new core is a whole one, to its end or to a fault
  pub whole_at : SoFar → (result : Result Served ServeFault) (export : Export) (core : Session)
      (before : Io G) (after : Left G) → core ≡ session_of export (so_many 16)
      → EndsOrBreaks F result core before after
      → IfOk result (λ served. IsServed F served export before after)
      × IfErr result (λ found. IsBrokenOff F found export before after)
  whole_at so_far (Ok served) export core before after is ends = (
    whole so_far export before after served (subst (λ (c : Session). Ends F served c before after) is ends),
    tt,
  )
  whole_at so_far (Err found) export core before after is breaks = (
    tt,
    broken so_far export before after found (subst (λ (c : Session). Breaks F found c before after) is breaks),
  )
