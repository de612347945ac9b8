use Rattle.std.proofs.Common.{[]}
use Rattle.nm_haggle.specs.Haggling.{initial_state, greeting_bytes}
use Rattle.nm_session.proofs.Haggled.{haggled, initial}
use Rattle.nm_session.proofs.laws.so_far.Goals as goal

pub returns : goal.returns
returns c export limit events new runs =
    let whole = haggled c.goes_on.ensures.so c.ends_there.ensures events export limit
    (initial_state export) [] [] greeting_bytes new (initial export) runs in
    record {
      haggled = whole.more;
      end = whole.end;
      haggles = whole.haggles;
      out_is = whole.out_is;
      are_read = whole.are_read;
      are_judged = whole.are_judged;
      last = whole.last;
    }
