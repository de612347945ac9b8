-- A read or a write of the run.
use Rattle.nm_lanes.proofs.stripe_call.StripeCall.do_one.Goals as goal

pub returns-then-is_read : goal.returns-then-is_read
returns-then-is_read g c = record {
  ok = rw c.if-is_read.true c.read_one.ensures.ok;
  err = rw c.if-is_read.true c.read_one.ensures.err;
}

pub returns : goal.returns
returns g c = record {
  ok = rw c.if-is_read.false c.write_one.ensures.ok;
  err = rw c.if-is_read.false c.write_one.ensures.err;
}
