use Rattle.nm_script_lib.proofs.Legs.{all_bits}
use Rattle.nm_script_lib.proofs.mem_stripe.all_in_sync.Goals as goal

pub returns : goal.returns
returns c = all_bits c.args.legs c.requires.0 c.requires.1
