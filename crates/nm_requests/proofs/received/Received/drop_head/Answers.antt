-- What follows a header that was taken off are the other bytes.
use Rattle.std.proofs.Common.{sym}
use Rattle.nm_requests.proofs.HeadOff.{after_head}
use Rattle.nm_requests.proofs.received.Received.drop_head.Goals as goal

pub returns-in-Some : goal.returns-in-Some
returns-in-Some c = sym (after_head c.self.inside c.args.self.now _ c.self.view_is c.in-Some.is)
