use Rattle.std.proofs.Common.{arith}
use Rattle.nm_session.proofs.Frames.{length-header}
use Rattle.nm_session.proofs.dispatch.put_header.Goals as goal

pub unwrap-requires : goal.unwrap-requires
unwrap-requires c =
    c.put_frame.ensures.room
    (omega (arith, length-header c.args.error c.args.cookie, c.requires))
