-- What `next` does, as events.
use Rattle.std.proofs.Common.{◌≡◌, ℕ, zero, suc, List, [], ◌∷◌, ◌++◌, Ok, refl, ◌⊎◌, ⊎_elim}
use Rattle.nm_requests.specs.declared.task.Task.TheVariants.{Disconnect}
use Rattle.nm_session.specs.declared.next.Next.{Next}
use Rattle.nm_session.specs.declared.next.Next.TheVariants as next
use Rattle.nm_session.specs.Event.{Event, Fed, Asked, Stopped, Answered, Took, Runs}
use Rattle.nm_session.specs.Laws.{AreReadings, IsRead, NextReads, NextReadsOn}
use Rattle.nm_session.specs.Reading.{Tells, RepliesTimes, StaysEnded, Disconnects, Breaks}
use Rattle.nm_session.specs.Session.{Session}
use Rattle.nm_session.proofs.Events.{runs-append}

readings_on : (xs ys : List Event) → AreReadings xs → AreReadings ys → AreReadings (xs ++ ys)
readings_on [] ys first then = then
readings_on (Fed piece ∷ xs) ys first then = absurd first
readings_on (Asked request judged ∷ xs) ys first then = readings_on xs ys first then
readings_on (Stopped fault ∷ xs) ys first then = readings_on xs ys first then
readings_on (Answered index outcome ∷ xs) ys first then = absurd first
readings_on (Took bytes ∷ xs) ys first then = absurd first

join : (a b d : Session) → IsRead a b → IsRead b d → IsRead a d
join a b d first then = record {
  events = first.events ++ then.events;
  are_readings = readings_on first.events then.events first.are_readings then.are_readings;
  runs = runs-append a b d first.events then.events first.runs then.runs;
}

none : (old new : Session) → new ≡ old → IsRead old new
none old new is = record { events = []; are_readings = tt; runs = is }

times : (n : ℕ) (old new : Session) → RepliesTimes n old new → IsRead old new
times zero old new is = none old new is
times (suc n) old new replies =
    let one = replies.2 in
    join old replies.0 new (times n old replies.0 replies.1) (record {
      events = Asked one.request one.judged ∷ [];
      are_readings = tt;
      runs = (new, one.asks, refl);
    })

ended : (old new : Session) → StaysEnded old new ⊎ (Disconnects old new ⊎ Breaks old new)
    → IsRead old new
ended old new e =
    ⊎_elim (λ stays. none old new stays.unchanged)
    (⊎_elim (λ disconnects. record {
      events = Asked disconnects.request (Ok Disconnect) ∷ [];
      are_readings = tt;
      runs = (new, disconnects.asks, refl);
    }) (λ breaks. record {
      events = Stopped breaks.fault ∷ [];
      are_readings = tt;
      runs = (new, breaks.stops, refl);
    })) e

told : (old : Session) (next : Next) (new : Session) → Tells old next new → IsRead old new
told old (next.Issue index task payload) new tells = record {
  events = Asked tells.request (Ok task) ∷ [];
  are_readings = tt;
  runs = (new, tells.asks, refl);
}
told old next.Starved new tells = none old new tells.unchanged
told old next.Full new tells = none old new tells.unchanged
told old next.Ended new tells = ended old new tells

pub next_reads_on : NextReadsOn
next_reads_on old new reads = times reads.times old new reads.each

pub next_reads : NextReads
next_reads old next new reads =
    join old reads.mid new (times reads.reads_on.times old reads.mid reads.reads_on.each)
    (told reads.mid next new reads.tells)
