-- What was fed is the first of what was read.
use Rattle.std.proofs.Common.{sym, ◌∙◌}
use Rattle.nm_mailbox.specs.Ends.{received_by}
use Rattle.nm_replies.specs.Sending.{device_of}
use Rattle.nm_workers.specs.Results.{IsNoted}
use Rattle.nm_workers.proofs.Owning.{owned}
use Rattle.nm_workers.proofs.session.run_session.Goals as goal

pub returns : goal.returns
returns g c = record {
  ends =
      let owner = c.serve_requests-result.new.owner in
      owned (IsNoted g.T.Target g.T.Log.SessionLog g.E.Extent.session) g.I.Read.remaining c.args.reader c.serve_requests-result.result.reader
      c.requires.fresh.0 c.requires.is_open c.serve_requests-result.ensures.reads c.args.owner.core owner.core
      c.args.owner.log owner.log
      (received_by c.args.owner.inbox) (received_by owner.inbox) (g.O.Write.contents (device_of c.args.owner.sender))
      (g.O.Write.contents (device_of owner.sender)) c.requires.fresh.1 c.settle.ensures.beginning
      c.serve_requests-result.result.result c.serve_requests-result.ensures.ends;
}

pub settle-requires : goal.settle-requires
settle-requires g c =
    c.serve_requests-result.ensures.channel ∙ c.requires.channel ∙ sym c.serve_requests-result.ensures.reads.1
