-- A piece that was read is sent, or not.
use Rattle.std.proofs.Common.{◌∙◌}
use Rattle.nm_mailbox.specs.Ends.{pieces_by}
use Rattle.nm_workers.proofs.ReadPieces.{sent_at, unsent_at}
use Rattle.nm_workers.proofs.reader.read_piece.Goals.{in-Ok, in-Err}
use Rattle.nm_workers.proofs.reader.read_piece.Goals as goal

pub returns-clause-goes : goal.returns-clause-goes
returns-clause-goes g c bytes reads =
    elim c.match-send.branch [
      | in-Ok w ↦ sent_at bytes (g.I.Read.remaining c.args.source.now) (g.I.Read.remaining c.take_piece-piece.new.source)
          (pieces_by c.args.pieces.now) (pieces_by c.send.new.self) c.match-send.result reads c.take_piece-piece.result
          c.take_piece-piece.ensures (w.result-is ∙ c.brings_bytes-is_open.ensures) w.in-Ok.ensures.sent
      | in-Err w ↦ unsent_at bytes (g.I.Read.remaining c.args.source.now) (g.I.Read.remaining c.take_piece-piece.new.source)
          (pieces_by c.args.pieces.now) (pieces_by c.send.new.self) c.match-send.result reads c.take_piece-piece.result
          c.take_piece-piece.ensures w.result-is w.in-Err.ensures.sent.1
    ]
