-- What a session does with a message from one of its threads.
use Rattle.std.specs.Prelude.{◌≡◌, ◌≤◌, ◌⊎◌, Option, Some}
use Rattle.nm_mailbox.specs.declared.message.Piece.TheVariants.{Bytes, Ended, Failed}
use Rattle.nm_mailbox.specs.declared.message.Message.{Message}
use Rattle.nm_mailbox.specs.declared.message.Message.TheVariants as message
use Rattle.nm_session.specs.declared.outcome.Outcome.{Outcome}
use Rattle.nm_session.specs.declared.serve_fault.ServeFault.{ServeFault}
use Rattle.nm_session.specs.declared.serve_fault.ServeFault.TheVariants as fault
use Rattle.nm_session.specs.CalledValue.{CalledValue}
use Rattle.nm_session.specs.Calling.{TaskResult}
use Rattle.nm_session.specs.Feeding.{Feeds}
use Rattle.nm_session.specs.Outcome.{says}
use Rattle.nm_session.specs.Session.{IsSettled}
use Rattle.nm_workers.specs.JobValue.{JobValue, called_for}
use Rattle.nm_workers.specs.Results.{Moment, Note, AnswersWith}

module _ {G : Type 0} (Notes : Note → G → G → Type 0) where
  -- the request is answered with what came of its task
  pub record AnswersCall (old : Moment G) (called : CalledValue) (new : Moment G) : Type 0 where
    pub outcome : Outcome
    pub says_so : says outcome ≡ called.outcome
    pub own : AnswersWith Notes old called.index outcome new
    pub task_is : own.answers.held.task ≡ called.task

-- no request of this index is outstanding, and nothing changes
pub record PassesOver {G : Type 0} (old : Moment G) (called : CalledValue) (new : Moment G)
    : Type 0 where
  pub settled : (old.core.count ≤ called.index) ⊎ IsSettled old.core called.index
  pub unchanged : new ≡ old

module _ {G : Type 0} (Notes : Note → G → G → Type 0) where
  -- what came of a task is told
  abbrev pub Settles : Moment G → CalledValue → Moment G → Type 0
  Settles old called new = AnswersCall Notes old called new ⊎ PassesOver old called new

  -- what came of the task of the job that was held back is told
  pub record SettlesJob (old : Moment G) (deferred : Option JobValue) (new : Moment G)
      : Type 0 where
    pub job : JobValue
    pub deferred_is : deferred ≡ Some job
    pub outcome : TaskResult
    pub settles : Settles old (called_for job outcome) new

  -- the session takes what a message tells; the end of the bytes changes nothing
  abbrev pub Hears : Moment G → Message CalledValue → Moment G → Type 0
  Hears old (message.Piece (Bytes bytes)) new =
      Feeds old.core bytes.items new.core × (new.log ≡ old.log)
  Hears old (message.Piece Ended) new = new ≡ old
  Hears old (message.Piece Failed) new = ⊥
  Hears old (message.Outcome called) new = Settles old called new

-- why a message breaks the session off: there is no memory, or it tells that a read failed
abbrev pub IsCausedBy : ServeFault → Message CalledValue → Type 0
IsCausedBy fault.Memory heard = Unit {0}
IsCausedBy fault.Read heard = heard ≡ message.Piece Failed
IsCausedBy (fault.Write sent) heard = ⊥
