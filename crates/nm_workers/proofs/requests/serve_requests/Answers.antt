-- Rounds that follow one another are one move, and what was read in them is read in a row.
use Rattle.std.proofs.Common.{◌∙◌, refl, Ok}
use Rattle.nm_session.specs.declared.serve_fault.ServeFault.TheVariants as fault
use Rattle.nm_workers.specs.declared.round.Round.TheVariants as round
use Rattle.nm_workers.specs.Moving.{state_of, Leads}
use Rattle.nm_workers.specs.Reading.{reader_of}
use Rattle.nm_workers.specs.Results.{IsNoted, moment}
use Rattle.nm_workers.proofs.Arrivals.{session_stays}
use Rattle.nm_workers.proofs.ReadPieces.{more_on}
use Rattle.nm_workers.proofs.RequestLemmas.{size_stays}
use Rattle.nm_workers.proofs.ResultRuns.{runs_of}
use Rattle.nm_workers.proofs.Rounds.{attends_on}
use Rattle.nm_workers.proofs.Steps.{moves_on, moves_nowhere, breaks_on, stops}
use Rattle.nm_workers.proofs.requests.serve_requests.Goals as goal

pub rounds-init : goal.rounds-init
rounds-init g c = record {
  moves = moves_nowhere (state_of g.O.Write.contents c.args.owner.now);
  known = tt;
  channel = refl;
  reads = (λ input goes. goes, refl);
}

pub one_round-requires-clause-size : goal.one_round-requires-clause-size
one_round-requires-clause-size g c κs within =
    size_stays c.args.owner.now.core c.rounds.owner.core c.rounds.invariant.moves.events g.E.Extent.bytes
    (runs_of (IsNoted g.T.Target g.T.Log.SessionLog g.E.Extent.session)
    (moment c.args.owner.now.core c.args.owner.now.log) (moment c.rounds.owner.core c.rounds.owner.log)
    c.rounds.invariant.moves.events c.rounds.invariant.moves.runs) c.requires.size

pub one_round-requires-clause-session : goal.one_round-requires-clause-session
one_round-requires-clause-session g c κs within =
    session_stays g.T.Target g.T.Log.SessionLog g.E.Extent.session c.rounds.invariant.moves.events
    (moment c.args.owner.now.core c.args.owner.now.log) (moment c.rounds.owner.core c.rounds.owner.log)
    c.rounds.invariant.moves.runs ∙ c.requires.session

pub rounds-preserved-in-Ok-Continue : goal.rounds-preserved-in-Ok-Continue
rounds-preserved-in-Ok-Continue g c =
    let start = state_of g.O.Write.contents c.args.owner.now in
    let here = state_of g.O.Write.contents c.rounds.owner in
    let there = state_of g.O.Write.contents c.one_round.new.owner in
    let led : Leads (IsNoted g.T.Target g.T.Log.SessionLog g.E.Extent.session) g.O.Write.contents (Ok (round.Continue c.in-Ok-Continue.next))
    c.rounds.owner c.one_round.new.owner = rw c.in-Ok-Continue.field-0-is at c.in-Ok-Continue.ensures.leads in
    record {
      moves = moves_on start here there c.rounds.invariant.moves led.0;
      known = led.1;
      channel = c.in-Ok-Continue.ensures.channel ∙ c.rounds.invariant.channel;
      reads = more_on g.I.Read.remaining c.args.reader (reader_of c.rounds.by) (reader_of c.one_round.new.by)
          c.rounds.invariant.reads c.in-Ok-Continue.ensures.reads;
    }

pub rounds-preserved : goal.rounds-preserved
rounds-preserved g c =
    let start = state_of g.O.Write.contents c.args.owner.now in
    let here = state_of g.O.Write.contents c.rounds.owner in
    let there = state_of g.O.Write.contents c.one_round.new.owner in
    let led : Leads (IsNoted g.T.Target g.T.Log.SessionLog g.E.Extent.session) g.O.Write.contents (Ok (round.SwitchReader c.in-Ok-SwitchReader.next))
    c.rounds.owner c.one_round.new.owner = rw c.in-Ok-SwitchReader.field-0-is at c.in-Ok-SwitchReader.ensures.leads in
    record {
      moves = moves_on start here there c.rounds.invariant.moves led.0;
      known = led.1;
      channel = c.in-Ok-SwitchReader.ensures.channel ∙ c.rounds.invariant.channel;
      reads = more_on g.I.Read.remaining c.args.reader (reader_of c.one_round.new.by) (reader_of c.in-Ok.other)
          (more_on g.I.Read.remaining c.args.reader (reader_of c.rounds.by) (reader_of c.one_round.new.by) c.rounds.invariant.reads c.in-Ok-SwitchReader.ensures.reads)
          c.in-Ok.ensures.ok;
    }

pub returns-in-Err-switch_reader-clause-ends : goal.returns-in-Err-switch_reader-clause-ends
returns-in-Err-switch_reader-clause-ends g c =
    let start = state_of g.O.Write.contents c.args.owner.now in
    let here = state_of g.O.Write.contents c.rounds.owner in
    let there = state_of g.O.Write.contents c.one_round.new.owner in
    let led : Leads (IsNoted g.T.Target g.T.Log.SessionLog g.E.Extent.session) g.O.Write.contents (Ok (round.SwitchReader c.in-Ok-SwitchReader.next))
    c.rounds.owner c.one_round.new.owner = rw c.in-Ok-SwitchReader.field-0-is at c.in-Ok-SwitchReader.ensures.leads in
    stops fault.Memory tt _ _ (moves_on start here there c.rounds.invariant.moves led.0)

pub returns-in-Err-switch_reader-clause-reads : goal.returns-in-Err-switch_reader-clause-reads
returns-in-Err-switch_reader-clause-reads g c =
    more_on g.I.Read.remaining c.args.reader (reader_of c.one_round.new.by) c.in-Err-switch_reader.reader
    (more_on g.I.Read.remaining c.args.reader (reader_of c.rounds.by) (reader_of c.one_round.new.by) c.rounds.invariant.reads c.in-Ok-SwitchReader.ensures.reads)
    c.in-Err-switch_reader.ensures.err

pub returns-in-Ok-Done-clause-ends : goal.returns-in-Ok-Done-clause-ends
returns-in-Ok-Done-clause-ends g c =
    let start = state_of g.O.Write.contents c.args.owner.now in
    let here = state_of g.O.Write.contents c.rounds.owner in
    let there = state_of g.O.Write.contents c.one_round.new.owner in
    let led : Leads (IsNoted g.T.Target g.T.Log.SessionLog g.E.Extent.session) g.O.Write.contents (Ok (round.Done c.in-Ok-Done.served))
    c.rounds.owner c.one_round.new.owner = rw c.in-Ok-Done.field-0-is at c.in-Ok-Done.ensures.leads in
    rw c.finish.ensures.end (attends_on c.in-Ok-Done.served start here there c.rounds.invariant.moves led)

pub returns-in-Ok-Done-clause-reads : goal.returns-in-Ok-Done-clause-reads
returns-in-Ok-Done-clause-reads g c =
    more_on g.I.Read.remaining c.args.reader (reader_of c.one_round.new.by) c.finish.result.reader
    (more_on g.I.Read.remaining c.args.reader (reader_of c.rounds.by) (reader_of c.one_round.new.by) c.rounds.invariant.reads c.in-Ok-Done.ensures.reads) c.finish.ensures.reads

pub returns-in-Err-clause-ends : goal.returns-in-Err-clause-ends
returns-in-Err-clause-ends g c =
    let start = state_of g.O.Write.contents c.args.owner.now in
    let here = state_of g.O.Write.contents c.rounds.owner in
    let there = state_of g.O.Write.contents c.one_round.new.owner in
    rw c.finish-in-Err.ensures.end
    (breaks_on c.in-Err.fault start here there c.rounds.invariant.moves c.in-Err.ensures.leads)

pub returns-in-Err-clause-reads : goal.returns-in-Err-clause-reads
returns-in-Err-clause-reads g c =
    more_on g.I.Read.remaining c.args.reader (reader_of c.one_round.new.by) c.finish-in-Err.result.reader
    (more_on g.I.Read.remaining c.args.reader (reader_of c.rounds.by) (reader_of c.one_round.new.by) c.rounds.invariant.reads c.in-Err.ensures.reads)
    c.finish-in-Err.ensures.reads
