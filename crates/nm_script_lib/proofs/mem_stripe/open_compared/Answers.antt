-- Loaded legs are as long as the mirror, as new ones are.
use Rattle.nm_script_lib.proofs.Legs.{sizes_fit, chunk_fits, place_lengths}
use Rattle.nm_script_lib.proofs.Loaded.{loaded_lengths}
use Rattle.nm_script_lib.proofs.mem_stripe.open_compared.Goals as goal

pub open_compared-requires-clause-sizes : goal.open_compared-requires-clause-sizes
open_compared-requires-clause-sizes c =
    sizes_fit c.args.mirror.now _ _ c.requires.range c.in_ok-legs.ensures.legs.count
    c.place_of-place.ensures

pub open_compared-requires-clause-chunk : goal.open_compared-requires-clause-chunk
open_compared-requires-clause-chunk c =
    chunk_fits c.args.mirror.now _ c.requires.range c.place_of-place.ensures

pub open_compared-requires-clause-lengths : goal.open_compared-requires-clause-lengths
open_compared-requires-clause-lengths c =
    place_lengths c.args.mirror.now _ _ c.place_of-place.ensures
    (loaded_lengths c.args.mirror.now c.args.loads.now c.in_ok-legs.legs.items c.in_ok-legs.ensures.legs)
