-- Each way through the loop goes on from the haggling so far.
use Rattle.nm_replies.specs.Sending.{device_of}
use Rattle.nm_workers.specs.Results.{moment, no_note}
use Rattle.nm_workers.specs.Serving.{io, Goes}
use Rattle.nm_workers.proofs.Negotiations.{haggling_stage, part_sent, sent_goes, mid_idle, mid_sent, fed_goes, fed_breaks, input_over, core_over}
use Rattle.nm_workers.proofs.RequestLemmas.{export_stays}
use Rattle.nm_workers.proofs.ResultRuns.{runs_of}
use Rattle.nm_workers.proofs.negotiation.negotiate.Goals as goal

pub returns-in-Err-clause-err : goal.returns-in-Err-clause-err
returns-in-Err-clause-err g c =
    part_sent c.args.core.now c.pieces.core c.send_out.new.core
    (io (g.I.Read.remaining c.args.reader.now) (g.O.Write.contents (device_of c.args.sender.now)) tt)
    (g.I.Read.remaining c.pieces.reader) (g.O.Write.contents (device_of c.pieces.sender))
    (g.O.Write.contents (device_of c.send_out.new.sender)) c.pieces.invariant.goes c.pieces.invariant.idle
    c.in-Err.fault c.in-Err.ensures.err

pub pieces-preserved : goal.pieces-preserved
pieces-preserved g c =
    let fed = fed_goes c.args.core.now c.pieces.core c.send_out.new.core
    (io (g.I.Read.remaining c.args.reader.now) (g.O.Write.contents (device_of c.args.sender.now)) tt)
    (g.I.Read.remaining c.pieces.reader) (g.O.Write.contents (device_of c.pieces.sender))
    (g.O.Write.contents (device_of c.send_out.new.sender)) c.pieces.invariant.goes c.pieces.invariant.idle
    c.in_default.ensures.ok c.feed_piece.new.core (g.I.Read.remaining c.feed_piece.new.reader)
    (rw c.in-Ok-true.field-0-test at c.in-Ok-true.ensures.ok) in
    record { goes = fed.0; idle = fed.1 }

pub returns-in-Ok-false-clause-ok : goal.returns-in-Ok-false-clause-ok
returns-in-Ok-false-clause-ok g c =
    input_over c.args.core.now c.pieces.core c.send_out.new.core
    (io (g.I.Read.remaining c.args.reader.now) (g.O.Write.contents (device_of c.args.sender.now)) tt)
    (g.I.Read.remaining c.pieces.reader) (g.O.Write.contents (device_of c.pieces.sender))
    (g.O.Write.contents (device_of c.send_out.new.sender)) c.pieces.invariant.goes c.pieces.invariant.idle
    c.in_default.ensures.ok c.report.result c.feed_piece.new.core (g.I.Read.remaining c.feed_piece.new.reader)
    (haggling_stage c.send_out.new.core.stage c.send_out.new.core.outstanding c.in-Haggling.ensures)
    (rw c.in-Ok-false.field-0-test at c.in-Ok-false.ensures.ok) c.report.ensures

pub returns-in-Err-feed_piece-clause-err : goal.returns-in-Err-feed_piece-clause-err
returns-in-Err-feed_piece-clause-err g c =
    fed_breaks c.args.core.now c.pieces.core c.send_out.new.core
    (io (g.I.Read.remaining c.args.reader.now) (g.O.Write.contents (device_of c.args.sender.now)) tt)
    (g.I.Read.remaining c.pieces.reader) (g.O.Write.contents (device_of c.pieces.sender))
    (g.O.Write.contents (device_of c.send_out.new.sender)) c.pieces.invariant.goes c.pieces.invariant.idle
    c.in_default.ensures.ok c.in-Err-feed_piece.fault c.feed_piece.new.core
    (g.I.Read.remaining c.feed_piece.new.reader) c.in-Err-feed_piece.ensures.err

pub returns-in-Serving-clause-ok : goal.returns-in-Serving-clause-ok
returns-in-Serving-clause-ok g c = (
  sent_goes c.args.core.now c.pieces.core c.send_out.new.core
      (io (g.I.Read.remaining c.args.reader.now) (g.O.Write.contents (device_of c.args.sender.now)) tt)
      (g.I.Read.remaining c.pieces.reader) (g.O.Write.contents (device_of c.pieces.sender))
      (g.O.Write.contents (device_of c.send_out.new.sender)) c.pieces.invariant.goes c.pieces.invariant.idle
      c.in_default.ensures.ok,
  mid_idle c.args.core.now c.pieces.core c.send_out.new.core
      (io (g.I.Read.remaining c.args.reader.now) (g.O.Write.contents (device_of c.args.sender.now)) tt)
      (g.I.Read.remaining c.pieces.reader) (g.O.Write.contents (device_of c.pieces.sender))
      (g.O.Write.contents (device_of c.send_out.new.sender)) c.pieces.invariant.goes c.pieces.invariant.idle
      c.in_default.ensures.ok,
  mid_sent c.args.core.now c.pieces.core c.send_out.new.core
      (io (g.I.Read.remaining c.args.reader.now) (g.O.Write.contents (device_of c.args.sender.now)) tt)
      (g.I.Read.remaining c.pieces.reader) (g.O.Write.contents (device_of c.pieces.sender))
      (g.O.Write.contents (device_of c.send_out.new.sender)) c.pieces.invariant.goes c.pieces.invariant.idle
      c.in_default.ensures.ok,
)

pub returns-in_default-phase-clause-ok : goal.returns-in_default-phase-clause-ok
returns-in_default-phase-clause-ok g c =
    core_over c.args.core.now c.pieces.core c.send_out.new.core
    (io (g.I.Read.remaining c.args.reader.now) (g.O.Write.contents (device_of c.args.sender.now)) tt)
    (g.I.Read.remaining c.pieces.reader) (g.O.Write.contents (device_of c.pieces.sender))
    (g.O.Write.contents (device_of c.send_out.new.sender)) c.pieces.invariant.goes c.pieces.invariant.idle
    c.in_default.ensures.ok c.end.result c.report-in_default-phase.result c.end.ensures
    c.report-in_default-phase.ensures

pub returns-in-Serving-clause-export : goal.returns-in-Serving-clause-export
returns-in-Serving-clause-export g c =
    let before = io (g.I.Read.remaining c.args.reader.now) (g.O.Write.contents (device_of c.args.sender.now)) tt in
    let after = io (g.I.Read.remaining c.pieces.reader) (g.O.Write.contents (device_of c.send_out.new.sender)) tt in
    let goes : Goes no_note c.args.core.now c.send_out.new.core before after =
    sent_goes c.args.core.now c.pieces.core c.send_out.new.core before (g.I.Read.remaining c.pieces.reader)
    (g.O.Write.contents (device_of c.pieces.sender)) (g.O.Write.contents (device_of c.send_out.new.sender))
    c.pieces.invariant.goes c.pieces.invariant.idle c.in_default.ensures.ok in
    λ _. export_stays goes.events c.args.core.now c.send_out.new.core
    (runs_of no_note (moment c.args.core.now tt) (moment c.send_out.new.core tt) goes.events goes.runs)
