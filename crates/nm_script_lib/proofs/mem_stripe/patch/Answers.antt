use Rattle.nm_script_lib.proofs.Inside.{cut_filled}
use Rattle.nm_script_lib.proofs.mem_stripe.patch.Goals as goal

pub returns-clause-part : goal.returns-clause-part
returns-clause-part c =
    cut_filled c.args.from c.args.len c.args.fill c.filled_block.result c.in_ok-bytes.bytes c.requires
    c.filled_block.ensures c.in_ok-bytes.ensures
