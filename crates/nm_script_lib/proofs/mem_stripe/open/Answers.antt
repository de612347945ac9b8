-- All legs are alike: as many zero blocks as the mirror has.
use Rattle.nm_script_lib.proofs.Legs.{new_lengths, equal_legs, names_first, sizes_fit, chunk_fits, place_lengths}
use Rattle.nm_script_lib.proofs.mem_stripe.open.Goals as goal

pub open-requires-clause-sizes : goal.open-requires-clause-sizes
open-requires-clause-sizes c =
    sizes_fit c.args.mirror.now _ _ c.requires c.in_ok-legs.ensures.legs.count c.place_of-place.ensures

pub open-requires-clause-chunk : goal.open-requires-clause-chunk
open-requires-clause-chunk c = chunk_fits c.args.mirror.now _ c.requires c.place_of-place.ensures

pub open-requires-clause-lengths : goal.open-requires-clause-lengths
open-requires-clause-lengths c =
    place_lengths c.args.mirror.now _ _ c.place_of-place.ensures
    (new_lengths c.args.mirror.now c.in_ok-legs.legs.items c.in_ok-legs.ensures.legs)

pub open-requires-clause-some_in_sync : goal.open-requires-clause-some_in_sync
open-requires-clause-some_in_sync c =
    names_first _ c.args.mirror.now.legs _ c.requires.legs.0 c.requires.legs.1
    c.all_in_sync-in_sync.ensures c.in_ok-legs.ensures.legs.count

pub open-requires-clause-equal : goal.open-requires-clause-equal
open-requires-clause-equal c = λ is_honest leg other h k named also.
    equal_legs c.args.mirror.now c.in_ok-legs.legs.items leg other c.in_ok-legs.ensures.legs h k
