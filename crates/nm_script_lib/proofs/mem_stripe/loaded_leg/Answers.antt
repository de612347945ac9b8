-- The leg has the loads so far; a further one is written to it where it is of its place.
use Rattle.std.proofs.Common.{rules, ◌≡◌, ◌+◌, ◌++◌, ◌∷◌, [], get_or, take, sym, subst, arith}
use Rattle.std.proofs.lemmas.List.{take_more}
use Rattle.nm_leg.specs.TestLegs.{of_fuse}
use Rattle.nm_leg.specs.declared.fuse_leg.FuseLeg.{FuseLeg}
use Rattle.nm_rules.proofs.BlockCallLemmas.{one-writes}
use Rattle.nm_script_lib.specs.declared.load.Load.{Load}
use Rattle.nm_script_lib.specs.MemStripe.{FitsLoad, filled_block, loaded_leg}
use Rattle.nm_script_lib.proofs.Inside.{at_place}
use Rattle.nm_script_lib.proofs.Loaded.{filled_length, load_else, load_inside, load_more}
use Rattle.nm_script_lib.proofs.mem_stripe.loaded_leg.Goals as goal
use Rattle.nm_script_lib.proofs.mem_stripe.loaded_leg.Goals.{then-load-place+in_ok-load_leg, else-load-place}

-- what stands past the end of a list of loads
abbrev past : Load
past = record { leg = 0; block = 0; fill = 0 }

pub load_leg-requires : goal.load_leg-requires
load_leg-requires c =
    let i = c.loop-load.load-index in
    let loads = c.args.loads.now in
    load_inside c.args.mirror.now (take i loads) (get_or loads i past) c.args.place (of_fuse c.loop-load.leg) c.loop-load.invariant
    (at_place (FitsLoad c.args.mirror.now) loads i past (omega arith) c.requires)

pub loop-load-preserved : goal.loop-load-preserved
loop-load-preserved c =
    let i = c.loop-load.load-index in
    let loads = c.args.loads.now in
    let load : Load = get_or loads i past in
    let more : take (i + 1) loads ≡ take i loads ++ load ∷ [] = take_more loads i past (omega arith) in
    rw more (elim c.if-load-place.branch [
      | then-load-place+in_ok-load_leg w ↦
          subst (λ (l : FuseLeg). of_fuse l ≡ loaded_leg c.args.mirror.now (take i loads ++ load ∷ []) c.args.place) (sym w.leg-is)
          (load_more c.args.mirror.now (take i loads) load c.args.place c.loop-load.leg w.load_leg.new.leg c.loop-load.invariant (search rules)
          (one-writes _ _ load.block (filled_block load.fill) _ _ (filled_length load.fill) w.in_ok-load_leg.ensures.ok))
      | else-load-place w ↦
          subst (λ (l : FuseLeg). of_fuse l ≡ loaded_leg c.args.mirror.now (take i loads ++ load ∷ []) c.args.place) (sym w.leg-is)
          (load_else c.args.mirror.now (take i loads) load c.args.place c.loop-load.leg c.loop-load.leg c.loop-load.invariant (search rules))
    ])
