-- The calls of a target that a task asks for, and what comes of them.
use Rattle.std.specs.Prelude.{◌≡◌, ℕ, ◌+◌, ◌≤◌, ◌⊎◌, Bool, true, false}
use Rattle.std.specs.Prelude.{List, [], ◌∷◌, length, Result, Ok, Err}
use Rattle.nm_session.specs.declared.target_fault.TargetFault.{TargetFault}
use Rattle.nm_session.specs.declared.target_fault.TargetFault.TheVariants as fault
use Rattle.nm_requests.specs.declared.task.Task.{Task}
use Rattle.nm_requests.specs.declared.task.Task.TheVariants.{Read, Write, Zero}
use Rattle.nm_requests.specs.declared.task.Task.TheVariants.{Flush, Nothing, Disconnect}
use Rattle.nm_session.specs.Target.{Answer, TargetCall, error_of}
use Rattle.nm_session.specs.Target.{Reads, Writes, Zeroes, Flushes, Syncs}

-- what came of a task: the bytes that were read, none but by a READ, or the error
abbrev pub TaskResult : Type 0
TaskResult = Result (List ℕ) ℕ

-- a READ, WRITE, zeroing or FLUSH of bytes that a target of this size has; a WRITE's payload fills
-- them
abbrev pub IsCallable : ℕ → Task → List ℕ → Type 0
IsCallable size (Read offset count) payload = offset + count ≤ size
IsCallable size (Write offset count fua) payload =
    (offset + count ≤ size) × (length payload ≡ count)
IsCallable size (Zero offset count fua) payload = offset + count ≤ size
IsCallable size Flush payload = Unit {0}
IsCallable size Nothing payload = ⊥
IsCallable size Disconnect payload = ⊥

-- what comes of a call that gives no bytes
abbrev pub outcome_of : Answer → TaskResult
outcome_of (Ok _) = Ok []
outcome_of (Err fault) = Err (error_of fault)

-- what comes of a read that gave these bytes
abbrev pub read_outcome : List ℕ → Answer → TaskResult
read_outcome bytes (Ok _) = Ok bytes
read_outcome bytes (Err fault) = Err (error_of fault)

-- the buffer was refused, and no call was made
pub record HasNoBuffer (calls : List TargetCall) (outcome : TaskResult) : Type 0 where
  pub calls_are : calls ≡ []
  pub outcome_is : outcome ≡ Err (error_of fault.Memory)

-- one read of so many bytes from the offset on; what it gave is what came of it
pub record ReadsOnce (offset count : ℕ) (calls : List TargetCall) (outcome : TaskResult)
    : Type 0 where
  pub bytes : List ℕ
  pub answer : Answer
  pub calls_are : calls ≡ Reads offset bytes answer ∷ []
  pub whole : length bytes ≡ count
  pub outcome_is : outcome ≡ read_outcome bytes answer

-- this one call; its answer is what came of it
pub record CallsOnce (call : Answer → TargetCall) (calls : List TargetCall) (outcome : TaskResult)
    : Type 0 where
  pub answer : Answer
  pub calls_are : calls ≡ call answer ∷ []
  pub outcome_is : outcome ≡ outcome_of answer

-- this one call, which failed
pub record Fails (call : Answer → TargetCall) (calls : List TargetCall) (outcome : TaskResult)
    : Type 0 where
  pub found : TargetFault
  pub calls_are : calls ≡ call (Err found) ∷ []
  pub outcome_is : outcome ≡ Err (error_of found)

-- this change, which succeeded, and after it this sync, whose answer is what came of both
pub record SyncsAfter
    (change sync : Answer → TargetCall) (calls : List TargetCall) (outcome : TaskResult)
    : Type 0 where
  pub answer : Answer
  pub calls_are : calls ≡ change (Ok tt) ∷ sync answer ∷ []
  pub outcome_is : outcome ≡ outcome_of answer

-- a change alone or, where it is to be durable and succeeds, with a sync of the same bytes
abbrev pub Changes : Bool → (change sync : Answer → TargetCall)
    → List TargetCall → TaskResult → Type 0
Changes false change sync calls outcome = CallsOnce change calls outcome
Changes true change sync calls outcome =
    Fails change calls outcome ⊎ SyncsAfter change sync calls outcome

-- the calls that the task asks for, each answered, and what came of them
abbrev pub AreCallsOf : Task → List ℕ → List TargetCall → TaskResult → Type 0
AreCallsOf (Read offset count) payload calls outcome =
    HasNoBuffer calls outcome ⊎ ReadsOnce offset count calls outcome
AreCallsOf (Write offset count fua) payload calls outcome =
    Changes fua (Writes offset payload) (Syncs offset count) calls outcome
AreCallsOf (Zero offset count fua) payload calls outcome =
    Changes fua (Zeroes offset count) (Syncs offset count) calls outcome
AreCallsOf Flush payload calls outcome = CallsOnce Flushes calls outcome
AreCallsOf Nothing payload calls outcome = ⊥
AreCallsOf Disconnect payload calls outcome = ⊥

-- calls of a task lead a target, by what it follows, to where it is now
pub record Calls (task : Task) (payload : List ℕ) (outcome : TaskResult)
    (Leads : List TargetCall → Type 0) : Type 0 where
  pub calls : List TargetCall
  pub are : AreCallsOf task payload calls outcome
  pub leads : Leads calls
