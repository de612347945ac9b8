-- What reading requests does to a core, and that each task can be called for.
use Rattle.std.proofs.Common.{◌≡◌, ℕ, ◌≤◌, List, [], ◌∷◌, Some, Ok, sym, ap, ◌∙◌, subst, ◌⊎◌, inl, inr, arith}
use Rattle.nm_requests.specs.declared.request.Request.{Request}
use Rattle.nm_requests.specs.declared.task.Task.{Task}
use Rattle.nm_requests.specs.declared.task.Task.TheVariants as task
use Rattle.nm_requests.specs.Judging.{LiesInside}
use Rattle.nm_session.proofs.ReadEvents.{next_reads_on}
use Rattle.nm_session.specs.declared.next.Next.TheVariants as next
use Rattle.nm_session.specs.declared.stage.Stage.{Stage}
use Rattle.nm_session.specs.declared.stage.Stage.TheVariants as stage
use Rattle.nm_session.specs.Asking.{next_after}
use Rattle.nm_session.specs.Calling.{IsCallable}
use Rattle.nm_session.specs.Event.{Event, Fed, Asked, Stopped, Answered, Took, Runs}
use Rattle.nm_session.specs.Feeding.{FeedsAt, IsEnded}
use Rattle.nm_session.specs.Reading.{Fills, IsStarved, Reads, StaysEnded, Disconnects, Breaks}
use Rattle.nm_session.specs.Session.{Session, IsFull}
use Rattle.nm_wire.specs.declared.export.Export.{Export}
use Rattle.nm_wire.specs.Export.{size_of}

-- a piece does not change the export
feeds_export : (at : Stage) (old new : Session) (piece : List ℕ) → FeedsAt at old piece new
    → new.haggling.export ≡ old.haggling.export
feeds_export stage.Haggling old new piece feeds =
    ap (λ (s : Session). s.haggling.export) feeds.new_is ∙ feeds.from.export_is
feeds_export stage.Serving old new piece feeds = ap (λ (s : Session). s.haggling.export) feeds
feeds_export (stage.Ended by) old new piece feeds = absurd feeds

-- nothing does
pub export_stays : (events : List Event) (old new : Session) → Runs old events new
    → new.haggling.export ≡ old.haggling.export
export_stays [] old new runs = ap (λ (s : Session). s.haggling.export) runs
export_stays (Fed piece ∷ events) old new runs =
    export_stays events runs.0 new runs.2 ∙ feeds_export old.stage old runs.0 piece runs.1
export_stays (Asked request judged ∷ events) old new runs =
    export_stays events runs.0 new runs.2 ∙ ap (λ (s : Session). s.haggling.export) runs.1.new_is
export_stays (Stopped found ∷ events) old new runs =
    export_stays events runs.0 new runs.2 ∙ ap (λ (s : Session). s.haggling.export) runs.1.new_is
export_stays (Answered index outcome ∷ events) old new runs =
    export_stays events runs.0 new runs.2 ∙ ap (λ (s : Session). s.haggling.export) runs.1.new_is
export_stays (Took bytes ∷ events) old new runs =
    export_stays events runs.0 new runs.2 ∙ ap (λ (s : Session). s.haggling.export) runs.1.new_is

-- so that its size stays
pub size_stays : (old new : Session) (events : List Event) (size : ℕ) → Runs old events new
    → size_of old.haggling.export ≤ size → size_of new.haggling.export ≤ size
size_stays old new events size runs large =
    subst (λ (export : Export). size_of export ≤ size) (sym (export_stays events old new runs)) large

-- a task that lies inside an export can be called for
callable : (request : Request) (export : Export) (task : Task) (index : ℕ) (payload : List ℕ) (size : ℕ)
    → LiesInside request export task → Fills task payload → size_of export ≤ size
    → next_after request (Ok task) ≡ Some (next.Issue index task payload) → IsCallable size task payload
callable request export task.Nothing index payload size inside fills large is = absurd (cc)
callable request export task.Disconnect index payload size inside fills large is = absurd (cc)
callable request export task.Flush index payload size inside fills large is = tt
callable request export (task.Read offset count) index payload size inside fills large is = omega (arith, inside.0.inside)
callable request export (task.Write offset count fua) index payload size inside fills large is = (omega (arith, inside.0.inside), fills)
callable request export (task.Zero offset count fua) index payload size inside fills large is = omega (arith, inside.inside)

-- so can one that is handed out
pub issued_callable : (old new : Session) (index : ℕ) (task : Task) (payload : List ℕ) (size : ℕ)
    → Reads old (next.Issue index task payload) new → size_of old.haggling.export ≤ size
    → IsCallable size task payload
issued_callable old new index task payload size reads large =
    let read = next_reads_on old reads.mid reads.reads_on in
    callable reads.tells.request reads.mid.haggling.export task index payload size
    reads.tells.asks.inside reads.tells.fills
    (size_stays old reads.mid read.events size read.runs large) reads.tells.is_next

-- nothing is there to be read
pub starves : (old new : Session) → Reads old next.Starved new → IsStarved new
starves old new reads = subst IsStarved (sym reads.tells.unchanged) reads.tells.unfinished

-- as many requests are outstanding as may be
pub fills_up : (old new : Session) → Reads old next.Full new → IsFull new
fills_up old new reads = subst IsFull (sym reads.tells.unchanged) reads.tells.full

-- nothing more is read
ends_by : (mid new : Session) → StaysEnded mid new ⊎ (Disconnects mid new ⊎ Breaks mid new) → IsEnded new.stage
ends_by mid new (inl stays) = subst (λ (s : Session). IsEnded s.stage) (sym stays.unchanged) stays.ended
ends_by mid new (inr (inl leaves)) =
    subst IsEnded (sym (ap (λ (s : Session). s.stage) leaves.asks.new_is)) tt
ends_by mid new (inr (inr breaks)) =
    subst IsEnded (sym (ap (λ (s : Session). s.stage) breaks.stops.new_is)) tt

pub ends : (old new : Session) → Reads old next.Ended new → IsEnded new.stage
ends old new reads = ends_by reads.mid new reads.tells
