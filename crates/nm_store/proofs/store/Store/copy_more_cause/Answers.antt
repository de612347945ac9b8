-- The copy is before the end of its region.
use Rattle.std.proofs.Common.{◌∙◌, sym}
use Rattle.nm_store.proofs.CopyLemmas.{goes-copy}
use Rattle.nm_store.proofs.store.Store.copy_more_cause.Goals as goal

pub busy_new_chunk-requires : goal.busy_new_chunk-requires
busy_new_chunk-requires g c =
    let copy = c.in_ok-copy.copy in
    record { within = (goes-copy _ c.args.self.now c.args.leg c.requires.keeps c.requires.asked c.args.from copy (sym c.copy_of.ensures ∙ c.in_ok-copy.was)).within }
