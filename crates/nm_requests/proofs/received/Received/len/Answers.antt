-- A header that was taken off has 28 bytes.
use Rattle.std.proofs.Common.{arith}
use Rattle.nm_requests.proofs.HeadOff.{length_is}
use Rattle.nm_requests.proofs.received.Received.len.Goals as goal

pub returns-in-Some-clause-value : goal.returns-in-Some-clause-value
returns-in-Some-clause-value c =
    omega (
      arith,
      c.len.ensures.value,
      length_is c.self.inside c.args.self.now _ c.self.view_is
          c.in-Some.is,
    )
